use Rattle.std.proofs.lemmas.Grind.{common_steps}
use Rattle.std.proofs.Common.{[], refl, sym, subst, arith, append-nil}
use Rattle.farm_api.specs.Exchanges.{around_of}
use Rattle.contest_server.specs.Visits.{watch, on_board}
use Rattle.contest_server.specs.Lanes.{starts_of}
use Rattle.contest_server.specs.Serving.{desk_value, Stands}
use Rattle.contest_server.proofs.returning.take_all.Goals as goal

pub loop-init : goal.loop-init
loop-init g c =
    let w = on_board g.J.Naming.start (g.Q.Cases.case_at c.args.service.now.cases.now) (g.Q.Shows.shown c.args.service.now.cases.now) (watch g.D.Conn.Source.left g.D.Conn.Sink.held g.D.Conn.Source.faults g.D.Conn.Sink.faults (around_of (g.C.Clock.shows c.args.service.now.clock.now) g.D.Conn.Peer.asks)) in
    record {
      stays = record { orderly = c.requires.orderly; seats = refl };
      count = omega arith;
      coming = refl;
      taken = λ o visits h. ([], refl, subst (λ vs. Stands w o vs (desk_value (g.D.Door.state c.args.desk.now.door.now) c.args.desk.now.pass.now (starts_of c.args.desk.now.lanes.items))) (sym (append-nil visits)) h);
      lanes = c.requires.lanes;
      later = omega arith;
      same = (refl, refl, refl);
      out = refl;
    }

pub loop-preserved : goal.loop-preserved
loop-preserved g c = grind (arith, common_steps)

pub take_in-requires-clause-some : goal.take_in-requires-clause-some
take_in-requires-clause-some g c = grind (arith, common_steps)

pub returns-clause-takes : goal.returns-clause-takes
returns-clause-takes g c = grind (arith, common_steps)
