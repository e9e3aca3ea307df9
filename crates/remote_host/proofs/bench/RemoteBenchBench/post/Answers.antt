use Rattle.std.proofs.Common.{None, Some, ◌∙◌, ap, sym}
use Rattle.remote_host.specs.Benches.{kept_behind, pending_job}
use Rattle.remote_host.proofs.Turning.{kept_pending, post_from, plain_refused, posted_is}
use Rattle.remote_host.proofs.Working.{unfailed, absent_unfailed, still_unfailed, refused_failed}
use Rattle.remote_host.proofs.bench.RemoteBenchBench.post.Goals as goal

pub returns-in-Some-clause-sound : goal.returns-in-Some-clause-sound
returns-in-Some-clause-sound g c =
    λ h s. let v = c.requires.value in
    let k = post_from _ _ _ _ _ _ _ _ _ _ c.task.result c.kind.result v.0 s.2 h (v.1 ∙ ap (λ t. Some (t, v.0)) (sym c.task.ensures)) (c.kind.ensures ∙ v.2) (c.keep.ensures ∙ ap kept_behind c.take.ensures.value ∙ kept_pending _ _ _ (v.1 ∙ ap (λ t. Some (t, v.0)) (sym c.task.ensures))) in
    (s.0, s.1, rw (c.silence-self.ensures, c.take.ensures.after) (c.in-Ok.ensures.fine ∙ k.0, posted_is _ _ _ _ _ _ _ None _ _ c.in-Some.is (c.in-Ok.ensures.talks _ _ _ _ _ k.0 k.1)), unfailed _ _ _ _ _ c.silence-self.ensures (still_unfailed _ _ _ _ _ _ h s.3 (c.in-Ok.ensures.kept (λ e. cc))))

pub returns-in-None-clause-sound : goal.returns-in-None-clause-sound
returns-in-None-clause-sound g c =
    λ h s. let v = c.requires.value in
    let k = post_from _ _ _ _ _ _ _ _ _ _ c.task.result c.kind.result v.0 s.2 h (v.1 ∙ ap (λ t. Some (t, v.0)) (sym c.task.ensures)) (c.kind.ensures ∙ v.2) (c.keep.ensures ∙ ap kept_behind c.take.ensures.value ∙ kept_pending _ _ _ (v.1 ∙ ap (λ t. Some (t, v.0)) (sym c.task.ensures))) in
    (s.0, s.1, posted_is _ _ _ _ _ _ _ None _ _ c.in-None.is (c.in-Ok.ensures.talks _ _ _ _ _ k.0 k.1), absent_unfailed _ _ _ _ (still_unfailed _ _ _ _ _ _ h s.3 (c.in-Ok.ensures.kept (λ e. cc))))

pub returns-in-Err-clause-sound : goal.returns-in-Err-clause-sound
returns-in-Err-clause-sound g c =
    λ h s. let v = c.requires.value in
    let k = post_from _ _ _ _ _ _ _ _ _ _ c.task.result c.kind.result v.0 s.2 h (v.1 ∙ ap (λ t. Some (t, v.0)) (sym c.task.ensures)) (c.kind.ensures ∙ v.2) (c.keep.ensures ∙ ap kept_behind c.take.ensures.value ∙ kept_pending _ _ _ (v.1 ∙ ap (λ t. Some (t, v.0)) (sym c.task.ensures))) in
    (s.0, s.1, plain_refused _ _ _ _ _ _ _ c.in-Err.fault c.in-Err.ensures.plain (c.in-Err.ensures.talks _ _ _ _ _ k.0 k.1), refused_failed c.in-Err.fault _ _ _ _ _ _ _ _ h s.3 (ap pending_job c.take.ensures.after) c.in-Err.ensures.failed c.in-Err.ensures.kept)
