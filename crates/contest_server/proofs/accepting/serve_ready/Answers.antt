use Rattle.std.proofs.Common.{Err, sym, ap, subst, arith}
use Rattle.std.proofs.lemmas.Grind.{common_steps}
use Rattle.contest_server.specs.declared.lines.TextFault.TheVariants as fault
use Rattle.farm_api.specs.Exchanges.{around_of}
use Rattle.contest_server.specs.Visits.{watch, on_board}
use Rattle.contest_server.specs.Lanes.{starts_of}
use Rattle.contest_server.specs.Serving.{desk_value, ServesNext}
use Rattle.contest_server.proofs.Ending.{no_memory_next}
use Rattle.contest_server.proofs.accepting.serve_ready.Goals as goal

pub returns-then-is_err-clause-serves : goal.returns-then-is_err-clause-serves
returns-then-is_err-clause-serves g c =
    let w = on_board g.J.Naming.start (g.Q.Cases.case_at c.args.service.now.cases.now) (g.Q.Shows.shown c.args.service.now.cases.now) (watch g.D.Conn.Source.left g.D.Conn.Sink.held g.D.Conn.Source.faults g.D.Conn.Sink.faults (around_of (g.C.Clock.shows c.args.service.now.clock.now) g.D.Conn.Peer.asks)) in
    let board = c.args.service.now.board.now.id in
    let old = desk_value (g.D.Door.state c.args.desk.now.door.now) c.args.desk.now.pass.now (starts_of c.args.desk.now.lanes.items) in
    let door = g.D.Door.state c.make_room.new.desk.door.now in
    let held = g.K.Sink.held c.args.desk.now.out.now in
    let held' = g.K.Sink.held c.make_room.new.desk.out.now in
    subst (λ starts. ServesNext w board old (desk_value door c.make_room.new.desk.pass.now starts) held held' c.args.count (Err fault.NoMemory)) (sym (ap starts_of c.try_reserve.ensures.items))
    (no_memory_next w board old (desk_value door c.make_room.new.desk.pass.now (starts_of c.make_room.new.desk.lanes.items)) held held' c.args.count _ c.in_ok-make_room.ensures.makes)

pub returns-then-not-has_calls-clause-serves : goal.returns-then-not-has_calls-clause-serves
returns-then-not-has_calls-clause-serves g c =
    let w = on_board g.J.Naming.start (g.Q.Cases.case_at c.args.service.now.cases.now) (g.Q.Shows.shown c.args.service.now.cases.now) (watch g.D.Conn.Source.left g.D.Conn.Sink.held g.D.Conn.Source.faults g.D.Conn.Sink.faults (around_of (g.C.Clock.shows c.args.service.now.clock.now) g.D.Conn.Peer.asks)) in
    let board = c.args.service.now.board.now.id in
    let old = desk_value (g.D.Door.state c.args.desk.now.door.now) c.args.desk.now.pass.now (starts_of c.args.desk.now.lanes.items) in
    let door = g.D.Door.state c.make_room.new.desk.door.now in
    let held = g.K.Sink.held c.args.desk.now.out.now in
    let held' = g.K.Sink.held c.make_room.new.desk.out.now in
    subst (λ starts. ServesNext w board old (desk_value door c.make_room.new.desk.pass.now starts) held held' c.args.count (Err fault.NoMemory)) (sym (ap starts_of c.try_reserve.ensures.items))
    (no_memory_next w board old (desk_value door c.make_room.new.desk.pass.now (starts_of c.make_room.new.desk.lanes.items)) held held' c.args.count _ c.in_ok-make_room.ensures.makes)

pub accept_next-requires-clause-spare : goal.accept_next-requires-clause-spare
accept_next-requires-clause-spare g c = grind (arith, common_steps)
