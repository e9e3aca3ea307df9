use Rattle.std.proofs.Common.{arith, refl}
use Rattle.remote_host.proofs.Turning.{claim_from, turned_is, turned_refused}
use Rattle.remote_host.proofs.Working.{unfailed, idle_unfailed, still_unfailed, refused_failed}
use Rattle.remote_host.proofs.bench.RemoteBenchBench.claim.Goals as goal

pub returns-in-Some-clause-sound : goal.returns-in-Some-clause-sound
returns-in-Some-clause-sound g c =
    λ h p s. let k = claim_from _ _ _ _ _ _ _ _ _ _ (omega arith) s.2 h p in (s.0, s.1, turned_is _ _ _ _ _ _ _ _ _ _ _ (omega arith) c.in-Some.is (c.in-Ok.ensures.talks _ _ _ _ k.0 k.1), unfailed _ _ _ _ _ refl (still_unfailed _ _ _ _ _ _ h s.3 (c.in-Ok.ensures.kept (λ e. cc))))

pub returns-in-None-clause-sound : goal.returns-in-None-clause-sound
returns-in-None-clause-sound g c =
    λ h p s. let k = claim_from _ _ _ _ _ _ _ _ _ _ (omega arith) s.2 h p in
    let t = turned_is _ _ _ _ _ _ _ _ _ _ _ (omega arith) c.in-None.is (c.in-Ok.ensures.talks _ _ _ _ k.0 k.1) in
    (s.0, s.1, (t.0, refl, t.1), idle_unfailed _ _ _ _ (still_unfailed _ _ _ _ _ _ h s.3 (c.in-Ok.ensures.kept (λ e. cc))))

pub returns-in-Err-clause-sound : goal.returns-in-Err-clause-sound
returns-in-Err-clause-sound g c =
    λ h p s. let k = claim_from _ _ _ _ _ _ _ _ _ _ (omega arith) s.2 h p in (s.0, s.1, turned_refused _ _ _ _ _ _ _ _ c.in-Err.fault (omega arith) (c.in-Err.ensures.talks _ _ _ _ k.0 k.1), refused_failed c.in-Err.fault _ _ _ _ _ _ _ _ h s.3 refl c.in-Err.ensures.failed c.in-Err.ensures.kept)
