use Rattle.std.proofs.Common.{◌∙◌, ◌+◌, ◌≤◌, sym, ap, subst}
use Rattle.remote_host.proofs.Working.{worked_over, start_same}
use Rattle.remote_host.proofs.host.work_over.Goals as goal

pub returns-clause-worked : goal.returns-clause-worked
returns-clause-worked g c =
    let e = c.enter_and_work-end.ensures in
    let b = c.enter_and_work-end.new.bench in (
      b.talker.reader.ahead,
      worked_over (λ n. g.N.Sink.held n) (λ n. g.N.Source.left n) _ _ e.worked.0 c.args.conn b.talker.conn c.end.result b.talker.reader.ahead c.args.fuel _ c.claims-claims.result _ c.posts-posts.result _ c.wrong-wrong.result _
          (sym e.worked.1 ∙ e.start ∙ c.new-bench.ensures.start) (e.caller ∙ c.new-bench.ensures.talker.1) c.end.ensures
          (sym c.claims-claims.ensures) (sym c.posts-posts.ensures) (sym c.wrong-wrong.ensures) e.worked.2,
    )

pub returns-clause-failed : goal.returns-clause-failed
returns-clause-failed g c =
    λ q w. subst (λ z. 1 ≤ g.N.Source.faults z + g.N.Sink.faults z) (sym c.end.ensures)
    (c.enter_and_work-end.ensures.failed q (sym c.wrong-wrong.ensures ∙ w))

pub returns-clause-kept : goal.returns-clause-kept
returns-clause-kept g c =
    λ other. let e = c.enter_and_work-end.ensures in
    let k = e.kept other in
    let same = start_same k.0 c.args.conn (sym k.1 ∙ e.start ∙ c.new-bench.ensures.start) in
    ap (λ n. g.N.Source.faults n + g.N.Sink.faults n) c.end.ensures ∙ k.2 ∙ ap (λ n. g.N.Source.faults n + g.N.Sink.faults n) same
