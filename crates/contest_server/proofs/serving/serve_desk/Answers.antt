use Rattle.std.proofs.Common.{ℕ, List, [], Option, ap, sym, ◌∙◌, subst, arith}
use Rattle.farm_api.specs.Exchanges.{around_of}
use Rattle.contest_server.specs.Visits.{watch, on_board}
use Rattle.contest_server.specs.Lanes.{starts_of}
use Rattle.contest_server.specs.Serving.{desk_value, ServesLanes}
use Rattle.contest_server.proofs.Ending.{serves_lanes}
use Rattle.contest_server.proofs.Telling.{rose_until}
use Rattle.contest_server.proofs.serving.serve_desk.Goals as goal

pub returns-clause-serves : goal.returns-clause-serves
returns-clause-serves g c =
    let w = on_board g.J.Naming.start (g.Q.Cases.case_at c.args.service.now.cases.now) (g.Q.Shows.shown c.args.service.now.cases.now) (watch g.D.Conn.Source.left g.D.Conn.Sink.held g.D.Conn.Source.faults g.D.Conn.Sink.faults (around_of (g.C.Clock.shows c.args.service.now.clock.now) g.D.Conn.Peer.asks)) in
    let board = c.args.service.now.board.now.id in
    let door = g.D.Door.state c.args.desk.now.door.now in
    let held = g.K.Sink.held c.args.desk.now.out.now in
    let held' = g.K.Sink.held c.serve_all-end.new.desk.out.now in
    let empty = ap starts_of c.requires.empty in
    let takes = c.take_all.ensures.takes in
    let whole = serves_lanes w board (desk_value door c.args.desk.now.pass.now (starts_of c.args.desk.now.lanes.items)) _ (desk_value (g.D.Door.state c.take_all.new.desk.door.now) c.take_all.new.desk.pass.now (starts_of c.take_all.new.desk.lanes.items)) held held' c.args.connections c.serve_all-end.result
    c.serve_all-end.ensures.serves takes in
    let last = subst (λ starts. ServesLanes w board (desk_value door c.args.desk.now.pass.now (starts_of c.args.desk.now.lanes.items)) (desk_value (g.D.Door.state c.take_all.new.desk.door.now) c.take_all.new.desk.pass.now starts) held held' c.args.connections c.serve_all-end.result) takes.none whole in
    let whole_desk = subst (λ starts. ServesLanes w board (desk_value door c.args.desk.now.pass.now starts) (desk_value (g.D.Door.state c.take_all.new.desk.door.now) c.take_all.new.desk.pass.now []) held held' c.args.connections c.serve_all-end.result) empty last in
    subst (λ (h : Option (List ℕ)). ServesLanes w board (desk_value door c.args.desk.now.pass.now []) (desk_value (g.D.Door.state c.take_all.new.desk.door.now) c.take_all.new.desk.pass.now []) held h c.args.connections c.serve_all-end.result) (sym (ap (λ o. g.K.Sink.held o) c.take_all.ensures.out)) whole_desk

pub returns-clause-cause : goal.returns-clause-cause
returns-clause-cause g c =
    let cause = c.serve_all-end.ensures.cause in
    let later = c.take_all.ensures.later in
    let door_later = cause.door_later in
    let out_later = cause.out_later in
    let same = ap (λ o. g.K.Sink.faults o) c.take_all.ensures.out in
    record {
      door_later = omega (arith, door_later, later);
      out_later = omega (arith, same, out_later);
      door_failed = λ is. rose_until _ _ _ (cause.door_failed is) later;
      out_failed = λ is. rose_until _ _ _ (cause.out_failed is) (omega (arith, same));
      out_kept = λ other. same ∙ cause.out_kept other;
    }
