use Rattle.std.proofs.Common.{refl, arith}
use Rattle.farm_api.proofs.Turning.{served_none, served_with, under_way_none, cause_since}
use Rattle.farm_api.proofs.serving.serve_on.Goals as goal

pub loop-how-init : goal.loop-how-init
loop-how-init g c =
    let enough = c.requires.calls in
    rw c.in-Ok.ensures (record {
      under_way = under_way_none g.A.Replier.steps _ c.args.state.now _ _;
      suits = c.requires.suits;
      read_same = refl;
      write_same = refl;
      going = refl;
      calls = omega (arith, enough);
      count = omega arith;
    })

pub returns-in-Err-clause-served : goal.returns-in-Err-clause-served
returns-in-Err-clause-served g c = served_none g.A.Replier.steps _ c.args.state.now _ _

pub returns-in-Some-clause-served : goal.returns-in-Some-clause-served
returns-in-Some-clause-served g c =
    let s = c.in-Some.ensures.turned _ c.loop-how.requests c.loop-how.invariant.under_way in
    rw c.end_after.ensures (served_with g.A.Replier.steps _ _ _ _ _ c.serve_request.new.reader.ahead c.serve_request.new.reader.taken _ _ s)

pub returns-in-Some-clause-cause : goal.returns-in-Some-clause-cause
returns-in-Some-clause-cause g c =
    let i = c.loop-how.invariant in
    rw c.end_after.ensures (cause_since _ _ _ _ _ _ _ i.read_same i.write_same c.in-Some.ensures.cause)
