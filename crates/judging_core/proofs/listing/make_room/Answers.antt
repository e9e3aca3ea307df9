use Rattle.std.proofs.Common.{ℕ, ◌≡◌, ◌≤◌, ◌+◌, List, sym, subst, arith, length}
use Rattle.std.proofs.lemmas.Grind.{elements}
use Rattle.farm_kinds.specs.declared.outcomes.Class.TheVariants.{Normal}
use Rattle.task_tree.specs.Shown.{JudgingTasks, tests_listed}
use Rattle.judging_core.specs.Listed.{IsWider}
use Rattle.judging_core.proofs.Shown.{listed_last}
use Rattle.judging_core.proofs.Wider.{pushed_wider, either_wider}
use Rattle.judging_core.proofs.listing.make_room.Goals as goal

pub returns-then-judging-judging_count-clause-wider : goal.returns-then-judging-judging_count-clause-wider
returns-then-judging-judging_count-clause-wider c =
    either_wider c.widen.result c.args.tasks.now c.widen.new.self c.args.judging c.args.tests c.widen.ensures.widened c.widen.ensures.unchanged

pub returns-clause-wide : goal.returns-clause-wide
returns-clause-wide c =
    let at = c.args.tasks.now in
    let last : c.args.judging ≡ length at + 1 = let over = c.if-judging-judging_count.false in let count = c.judging_count.ensures.count in omega (arith, over, count, c.requires.next) in
    let room : tests_listed c.add.new.self (length at + 1) ≡ c.args.tests = rw c.in_ok-add.ensures.added (listed_last at Normal c.args.tests) in
    subst (λ (n : ℕ). c.args.tests ≤ tests_listed c.add.new.self n) (sym last) (omega (arith, room))

pub returns-clause-wider : goal.returns-clause-wider
returns-clause-wider c = subst (λ (ts : List JudgingTasks). IsWider c.args.tasks.now ts) (sym c.in_ok-add.ensures.added) (pushed_wider c.args.tasks.now Normal c.args.tests)

pub returns-then-judging-judging_count-clause-wide : goal.returns-then-judging-judging_count-clause-wide
returns-then-judging-judging_count-clause-wide c = grind (arith, elements)
