use Rattle.std.proofs.Common.{◌≡◌, Some, ap, sym, ◌∙◌, slice_get}
use Rattle.farm_kinds.specs.declared.outcomes.Task.{Task}
use Rattle.farm_model.specs.Judge.{JudgeState, first_open, open_of}
use Rattle.judging_core.proofs.Batches.{own_first, none_left}
use Rattle.judging_core.proofs.judge.Judge.next_open.Goals as goal

pub returns-clause-next : goal.returns-clause-next
returns-clause-next g c =
    let s : JudgeState = c.args.self.now.state in
    let task = c.in-Some.task in
    let first : first_open s ≡ Some task = sym c.first_open.ensures.first ∙ c.in-Some.is in
    let own = own_first s task first in
    let same : task.judging ≡ c.args.judging = c.if-task-judging.false in
    sym (ap (λ j. slice_get (open_of s j) 0) (sym same) ∙ ap (λ xs. slice_get xs 0) own.1)

pub returns-then-task-judging-clause-next : goal.returns-then-task-judging-clause-next
returns-then-task-judging-clause-next g c =
    let s : JudgeState = c.args.self.now.state in
    let first : first_open s ≡ Some c.in-Some.task = sym c.first_open.ensures.first ∙ c.in-Some.is in
    sym (none_left s c.args.judging c.requires (λ t e same.
    let is : c.in-Some.task ≡ t = let both : Some c.in-Some.task ≡ Some t = sym first ∙ e in cc in
    c.if-task-judging.true (ap (λ (x : Task). x.judging) is ∙ same)))
