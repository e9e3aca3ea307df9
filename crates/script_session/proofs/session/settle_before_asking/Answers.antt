use Rattle.script_session.specs.Session.{Standing}
use Rattle.script_session.proofs.Keepings.{turned_settled}
use Rattle.script_session.proofs.Firsts.{put_first}
use Rattle.script_session.proofs.session.settle_before_asking.Goals as goal

pub returns-clause-turned : goal.returns-clause-turned
returns-clause-turned g c first mark farm left =
    let p : Standing = record { farm = farm; left = left; held = g.K.Sink.held c.args.out.now; reader = c.args.reader.now; pending = c.args.pending.now.items } in
    turned_settled (g.E.Keeper.kept first mark c.args.keeper.now c.args.device.now) (g.E.Keeper.kept first mark c.settle_and_put.new.keeper c.settle_and_put.new.device)
    (g.E.Keeper.lost first mark c.settle_and_put.new.keeper c.settle_and_put.new.device) (g.E.Keeper.full first mark) p (g.K.Sink.held c.settle_and_put.new.out)
    c.settle_and_put.new.pending.items c.settle_and_put.result (λ s least es kept. c.settle_and_put.ensures.settles first mark s least es kept)

pub returns-clause-first : goal.returns-clause-first
returns-clause-first g c b farm left u =
    let p : Standing = record { farm = farm; left = left; held = g.K.Sink.held c.args.out.now; reader = c.args.reader.now; pending = c.args.pending.now.items } in
    put_first b p (g.K.Sink.held c.settle_and_put.new.out) c.settle_and_put.result (λ h. let no = c.if-has_line.ensures.1 h in cc) c.settle_and_put.ensures.put c.settle_and_put.ensures.only u
