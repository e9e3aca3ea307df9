use Rattle.std.proofs.Common.{◌≡◌, subst, true}
use Rattle.std.specs.Prelude.{IfSome}
use Rattle.farm_model.specs.Judge.{first_open}
use Rattle.judging_core.specs.JudgeValue.{JudgeValue}
use Rattle.judging_core.specs.JudgeShape.{judging_values}
use Rattle.judging_core.specs.Batches.{is_open_task}
use Rattle.judging_core.proofs.OpenTasks.{first_listed, listed_open}
use Rattle.judging_core.proofs.judge.Judge.first_open.Goals as goal

pub returns-clause-first : goal.returns-clause-first
returns-clause-first g c =
    let at = c.self.inside in
    subst (λ (v : JudgeValue). c.first.result ≡ first_open v.state) c.self.view_is
    (first_listed at.rule (judging_values at.judgings.items) at.leases.leases at.tasks c.first.result c.self.invariant.listed c.first.ensures.first c.first.ensures.shown)

pub returns-clause-open_ : goal.returns-clause-open_
returns-clause-open_ g c =
    let at = c.self.inside in
    subst (λ (v : JudgeValue). IfSome c.first.result (λ task. is_open_task v.state task ≡ true)) c.self.view_is
    (listed_open at.rule (judging_values at.judgings.items) at.leases.leases at.tasks c.first.result c.self.invariant.listed c.first.ensures.shown)
