use Rattle.std.proofs.Common.{refl, arith}
use Rattle.script_session.proofs.Keepings.{keeping_first}
use Rattle.script_session.proofs.session.run_session.Goals as goal

pub lines-init : goal.lines-init
lines-init g c =
    let left = g.S.Source.left in
    let held = g.K.Sink.held in
    record {
      ready = c.requires.ready;
      keeping = keeping_first _ (record { farm = c.args.farm.now; left = left c.args.input.now; held = held c.args.out.now }) c.new-reader.result c.new-pending.result.items
          c.new-reader.ensures c.new-pending.ensures.items c.requires.begins;
      read = omega arith;
      write = omega arith;
    }

pub returns-in-Some-clause-ends : goal.returns-in-Some-clause-ends
returns-in-Some-clause-ends g c = (c.in-Some.ensures.turned c.args.keeper.now c.args.device.now _ c.lines.invariant.keeping).0

pub returns-in-Some-clause-keeps : goal.returns-in-Some-clause-keeps
returns-in-Some-clause-keeps g c = (c.in-Some.ensures.turned c.args.keeper.now c.args.device.now _ c.lines.invariant.keeping).1

pub returns-in-Some-clause-first : goal.returns-in-Some-clause-first
returns-in-Some-clause-first g c = c.in-Some.ensures.first c.args.keeper.now c.args.device.now _ c.lines.invariant.keeping

pub lines-preserved : goal.lines-preserved
lines-preserved g c =
    let left = g.S.Source.left in
    let held = g.K.Sink.held in
    let turn = c.read_and_answer.ensures in
    let so_far = c.lines.invariant in
    record {
      ready = c.in_default.ensures.ready refl;
      keeping = c.in_default.ensures.turned c.args.keeper.now c.args.device.now _ so_far.keeping;
      read = (let a = turn.read_later in let b = so_far.read in omega (arith, a, b));
      write = (let a = turn.write_later in let b = so_far.write in omega (arith, a, b));
    }
