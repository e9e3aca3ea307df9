use Rattle.std.proofs.Common.{ℕ, ◌+◌, arith, subst}
use Rattle.judging_core.specs.Listed.{AreTestsShown}
use Rattle.judging_core.proofs.Listed.{room_for, none_shown, shown_more}
use Rattle.judging_core.proofs.listing.show_tests.Goals as goal

pub loop-i-init : goal.loop-i-init
loop-i-init c = none_shown c.args.judging c.args.tasks.now

pub show_task-requires : goal.show_task-requires
show_task-requires c =
    room_for c.args.judging (c.loop-i.i + 1) c.args.tests c.args.tasks.now c.loop-i.tasks c.loop-i.invariant.widths c.requires.wide (omega arith) (omega (arith, c.loop-i-test.true))

pub loop-i-preserved : goal.loop-i-preserved
loop-i-preserved c =
    rw c.show_task.ensures (shown_more c.args.judging c.loop-i.i c.args.tasks.now c.loop-i.tasks c.loop-i.invariant
    (room_for c.args.judging (c.loop-i.i + 1) c.args.tests c.args.tasks.now c.loop-i.tasks c.loop-i.invariant.widths c.requires.wide (omega arith) (omega (arith, c.loop-i-test.true))))

pub returns : goal.returns
returns c = record {
  shown = subst (λ (n : ℕ). AreTestsShown c.args.judging n c.args.tasks.now c.loop-i.tasks) (let low = c.loop-i-test.false in let high = c.loop-i.auto.i-end in omega (arith, low, high)) c.loop-i.invariant;
}
