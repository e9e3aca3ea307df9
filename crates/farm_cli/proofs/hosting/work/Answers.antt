use Rattle.std.proofs.Common.{◌+◌, arith, inr, refl}
use Rattle.judgehost.specs.declared.gate.Go.TheVariants as go
use Rattle.farm_cli.specs.Hosting.{LinkUse}
use Rattle.farm_cli.proofs.Hostings.{hosted_ends}
use Rattle.farm_cli.proofs.hosting.work.Goals as goal

pub returns-clause-ends : goal.returns-clause-ends
returns-clause-ends g c =
    let link : LinkUse g.row.N-Conn.Denot = record {
      held = g.N.Conn.Sink.held;
      left = g.N.Conn.Source.left;
      faults = λ n. g.N.Conn.Source.faults n + g.N.Conn.Sink.faults n;
      may_die = λ point turn. g.G.Gate.may_answer c.args.gate.now 1 point turn go.Die;
      old = g.N.Link.state c.args.link.now;
      new = g.N.Link.state c.give_back.new.self;
      before = g.N.Link.faults c.args.link.now;
      now = g.N.Link.faults c.give_back.new.self;
    } in
    let w = c.work_over-conn.ensures in
    let fresh = c.in-Ok-connect.ensures.fresh in
    hosted_ends link c.args.caller c.args.caller c.args.fuel c.from.result (g.N.Link.state c.connect.new.self) c.in-Ok-connect.conn c.work_over-conn.result.conn w.worked.0 _ _ _ _ _ _ _ c.tell.result
    refl (omega (arith, c.from.ensures)) c.in-Ok-connect.ensures.connects fresh.none (omega (arith, fresh.reads, fresh.writes)) c.give_back.ensures.back
    w.worked.1 w.died w.kept (c.tell.ensures.ends _ w.failed)

pub returns-clause-first : goal.returns-clause-first
returns-clause-first g c = λ memory.
    let came = c.in-Ok-connect.ensures.connects.accepted in
    let went = c.give_back.ensures.back.accepted in
    inr (omega (arith, came, went))

pub returns-in_default-connect-clause-first : goal.returns-in_default-connect-clause-first
returns-in_default-connect-clause-first g c = λ memory. cc
