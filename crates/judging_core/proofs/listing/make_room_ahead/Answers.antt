use Rattle.std.proofs.Common.{◌+◌, ◌∙◌, arith}
use Rattle.std.proofs.lemmas.Grind.{common_steps}
use Rattle.farm_model.specs.Judgings.{task_of}
use Rattle.judging_core.proofs.listing.make_room_ahead.Goals as goal

pub make_room-requires-clause-hidden : goal.make_room-requires-clause-hidden
make_room-requires-clause-hidden c = λ test.
    let task = task_of (c.args.judgings + c.loop-i.i + 1) test in
    c.loop-i.invariant.wider.shown task ∙ c.requires.rest task (omega arith)

pub returns-clause-room : goal.returns-clause-room
returns-clause-room c = grind (arith, common_steps)
