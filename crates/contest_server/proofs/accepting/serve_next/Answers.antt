use Rattle.std.proofs.Common.{ℕ, List, Option, sym, ap, ◌∙◌, subst, arith}
use Rattle.farm_io.specs.Doors.{DoorState}
use Rattle.farm_board.specs.Passes.{PassValue}
use Rattle.farm_api.specs.Exchanges.{around_of}
use Rattle.contest_server.specs.Visits.{watch, on_board, Start}
use Rattle.contest_server.specs.Lanes.{starts_of}
use Rattle.contest_server.specs.Serving.{desk_value, IsOrderly, ServesNext}
use Rattle.contest_server.proofs.Telling.{rose_since}
use Rattle.contest_server.proofs.accepting.serve_next.Goals as goal

pub serve_ready-requires-clause-orderly : goal.serve_ready-requires-clause-orderly
serve_ready-requires-clause-orderly g c κs within =
    let w = on_board g.J.Naming.start (g.Q.Cases.case_at c.args.service.now.cases.now) (g.Q.Shows.shown c.args.service.now.cases.now) (watch g.D.Conn.Source.left g.D.Conn.Sink.held g.D.Conn.Source.faults g.D.Conn.Sink.faults (around_of (g.C.Clock.shows c.args.service.now.clock.now) g.D.Conn.Peer.asks)) in
    let door = c.free_place.ensures.kept ∙ c.await_next.ensures.kept in
    subst (λ (z : DoorState g.row.D-Conn.Denot × PassValue × List (Start g.row.D-Conn.Denot)). IsOrderly w c.args.service.now.board.now.id (desk_value z.0 z.1 z.2))
    (λ i. (sym door i, sym c.free_place.ensures.pass i, sym c.free_place.ensures.starts i)) c.requires.orderly

pub returns-clause-serves : goal.returns-clause-serves
returns-clause-serves g c =
    let w = on_board g.J.Naming.start (g.Q.Cases.case_at c.args.service.now.cases.now) (g.Q.Shows.shown c.args.service.now.cases.now) (watch g.D.Conn.Source.left g.D.Conn.Sink.held g.D.Conn.Source.faults g.D.Conn.Sink.faults (around_of (g.C.Clock.shows c.args.service.now.clock.now) g.D.Conn.Peer.asks)) in
    let door = c.free_place.ensures.kept ∙ c.await_next.ensures.kept in
    let held = ap (λ o. g.K.Sink.held o) c.free_place.ensures.out in
    subst (λ (z : DoorState g.row.D-Conn.Denot × PassValue × List (Start g.row.D-Conn.Denot) × Option (List ℕ)). ServesNext w c.args.service.now.board.now.id (desk_value z.0 z.1 z.2)
    (desk_value (g.D.Door.state c.serve_ready.new.desk.door.now) c.serve_ready.new.desk.pass.now (starts_of c.serve_ready.new.desk.lanes.items)) z.3 (g.K.Sink.held c.serve_ready.new.desk.out.now) c.args.count c.serve_ready.result)
    (λ i. (door i, c.free_place.ensures.pass i, c.free_place.ensures.starts i, held i)) c.serve_ready.ensures.serves

pub returns-clause-cause : goal.returns-clause-cause
returns-clause-cause g c =
    let cause = c.serve_ready.ensures.cause in
    let before = c.await_next.ensures.later in
    let between = c.free_place.ensures.later in
    let behind = cause.door_later in
    let same = ap (λ o. g.K.Sink.faults o) c.free_place.ensures.out in
    let out_later = cause.out_later in
    record {
      door_later = omega (arith, before, between, behind);
      out_later = omega (arith, same, out_later);
      door_failed = λ is. rose_since _ _ _ (omega (arith, before, between)) (cause.door_failed is);
      out_failed = λ is. rose_since _ _ _ (omega (arith, same)) (cause.out_failed is);
      out_kept = λ other. cause.out_kept other ∙ same;
    }
