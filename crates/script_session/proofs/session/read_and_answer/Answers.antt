use Rattle.script_session.proofs.Keepings.{turned_after}
use Rattle.script_session.proofs.session.read_and_answer.Goals as goal

pub returns-in-None-clause-turned : goal.returns-in-None-clause-turned
returns-in-None-clause-turned g c first mark =
    let settled = c.settle_before_asking.new in
    let new = c.answer_next.new in
    turned_after (g.E.Keeper.kept first mark c.args.keeper.now c.args.device.now) (g.E.Keeper.kept first mark settled.keeper settled.device)
    (g.E.Keeper.kept first mark new.keeper new.device) (g.E.Keeper.lost first mark settled.keeper settled.device) (g.E.Keeper.lost first mark new.keeper new.device)
    (g.E.Keeper.full first mark) _ _ _ _
    (c.in-None.ensures.turned first mark c.args.farm.now (g.S.Source.left c.args.input.now)) (c.answer_next.ensures.turned first mark)

pub returns-in-Some-clause-turned : goal.returns-in-Some-clause-turned
returns-in-Some-clause-turned g c first mark = c.in-Some.ensures.turned first mark c.args.farm.now (g.S.Source.left c.args.input.now)

pub returns-in-None-clause-first : goal.returns-in-None-clause-first
returns-in-None-clause-first g c first mark b k =
    c.answer_next.ensures.first b (c.in-None.ensures.turned first mark c.args.farm.now (g.S.Source.left c.args.input.now) b k).under_way

pub returns-in-Some-clause-first : goal.returns-in-Some-clause-first
returns-in-Some-clause-first g c first mark b k = c.in-Some.ensures.first b c.args.farm.now (g.S.Source.left c.args.input.now) k.under_way
