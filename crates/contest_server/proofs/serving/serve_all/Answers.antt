use Rattle.std.proofs.Common.{◌≤◌, Ok, length, arith, sym, subst}
use Rattle.std.proofs.lemmas.Grind.{common_steps}
use Rattle.std.proofs.lemmas.List.{length-map}
use Rattle.contest_server.specs.declared.ends.ServeEnd.TheVariants as end
use Rattle.contest_server.specs.declared.accepting.Coming.TheVariants as coming
use Rattle.farm_api.specs.Exchanges.{around_of}
use Rattle.contest_server.specs.Visits.{watch, on_board}
use Rattle.contest_server.specs.Lanes.{start_of, starts_of}
use Rattle.contest_server.specs.Serving.{desk_value, with_coming, ServesNext, ServesAll}
use Rattle.contest_server.proofs.Ending.{ends, before_all, before_end, before_fault, ends_broken}
use Rattle.contest_server.proofs.serving.serve_all.Goals as goal

pub end_with-requires-clause-count : goal.end_with-requires-clause-count
end_with-requires-clause-count g c =
    let few = c.loop-i.invariant.under_way.few in
    let more = subst (λ x. length (starts_of c.serve_next.new.desk.lanes.items) ≤ with_coming (length (starts_of c.loop-i.desk.lanes.items)) x) c.in-Ok-End.field-0-is c.in-Ok-End.ensures.serves.more in
    let none = c.requires.none in
    let first = length-map c.args.desk.now.lanes.items start_of in
    let last = length-map c.serve_next.new.desk.lanes.items start_of in
    let first_ok = c.args.desk.now.lanes.ok.0 in
    let last_ok = c.serve_next.new.desk.lanes.ok.0 in
    omega (arith, few, more, none, first, last, first_ok, last_ok)

pub end_with-requires-in-Ok-Failed-clause-count : goal.end_with-requires-in-Ok-Failed-clause-count
end_with-requires-in-Ok-Failed-clause-count g c =
    let few = c.loop-i.invariant.under_way.few in
    let more = subst (λ x. length (starts_of c.serve_next.new.desk.lanes.items) ≤ with_coming (length (starts_of c.loop-i.desk.lanes.items)) x) c.in-Ok-Failed.field-0-is c.in-Ok-Failed.ensures.serves.more in
    let none = c.requires.none in
    let first = length-map c.args.desk.now.lanes.items start_of in
    let last = length-map c.serve_next.new.desk.lanes.items start_of in
    let first_ok = c.args.desk.now.lanes.ok.0 in
    let last_ok = c.serve_next.new.desk.lanes.ok.0 in
    omega (arith, few, more, none, first, last, first_ok, last_ok)

pub returns-in-Ok-End-clause-serves : goal.returns-in-Ok-End-clause-serves
returns-in-Ok-End-clause-serves g c =
    let w = on_board g.J.Naming.start (g.Q.Cases.case_at c.args.service.now.cases.now) (g.Q.Shows.shown c.args.service.now.cases.now) (watch g.D.Conn.Source.left g.D.Conn.Sink.held g.D.Conn.Source.faults g.D.Conn.Sink.faults (around_of (g.C.Clock.shows c.args.service.now.clock.now) g.D.Conn.Peer.asks)) in
    let came : ServesNext w c.args.service.now.board.now.id
    (desk_value (g.D.Door.state c.loop-i.desk.door.now) c.loop-i.desk.pass.now (starts_of c.loop-i.desk.lanes.items)) (desk_value (g.D.Door.state c.serve_next.new.desk.door.now) c.serve_next.new.desk.pass.now (starts_of c.serve_next.new.desk.lanes.items))
    (g.K.Sink.held c.loop-i.desk.out.now) (g.K.Sink.held c.serve_next.new.desk.out.now) c.loop-i.i (Ok coming.End) =
    subst (λ x. ServesNext w c.args.service.now.board.now.id
    (desk_value (g.D.Door.state c.loop-i.desk.door.now) c.loop-i.desk.pass.now (starts_of c.loop-i.desk.lanes.items)) (desk_value (g.D.Door.state c.serve_next.new.desk.door.now) c.serve_next.new.desk.pass.now (starts_of c.serve_next.new.desk.lanes.items))
    (g.K.Sink.held c.loop-i.desk.out.now) (g.K.Sink.held c.serve_next.new.desk.out.now) c.loop-i.i (Ok x)) c.in-Ok-End.field-0-is c.in-Ok-End.ensures.serves in
    let b = before_end w c.args.service.now.board.now.id _ _ _ _ _ _ c.loop-i.i c.args.connections c.loop-i-test.true c.loop-i.invariant.under_way came in
    ends w c.args.service.now.board.now.id _ _ _ _ _ _ _ _ c.loop-i.i c.args.connections end.Done c.end_with.result b c.end_with.ensures.ends

pub returns-in-Ok-Failed-clause-serves : goal.returns-in-Ok-Failed-clause-serves
returns-in-Ok-Failed-clause-serves g c =
    let w = on_board g.J.Naming.start (g.Q.Cases.case_at c.args.service.now.cases.now) (g.Q.Shows.shown c.args.service.now.cases.now) (watch g.D.Conn.Source.left g.D.Conn.Sink.held g.D.Conn.Source.faults g.D.Conn.Sink.faults (around_of (g.C.Clock.shows c.args.service.now.clock.now) g.D.Conn.Peer.asks)) in
    let came : ServesNext w c.args.service.now.board.now.id
    (desk_value (g.D.Door.state c.loop-i.desk.door.now) c.loop-i.desk.pass.now (starts_of c.loop-i.desk.lanes.items)) (desk_value (g.D.Door.state c.serve_next.new.desk.door.now) c.serve_next.new.desk.pass.now (starts_of c.serve_next.new.desk.lanes.items))
    (g.K.Sink.held c.loop-i.desk.out.now) (g.K.Sink.held c.serve_next.new.desk.out.now) c.loop-i.i (Ok coming.Failed) =
    subst (λ x. ServesNext w c.args.service.now.board.now.id
    (desk_value (g.D.Door.state c.loop-i.desk.door.now) c.loop-i.desk.pass.now (starts_of c.loop-i.desk.lanes.items)) (desk_value (g.D.Door.state c.serve_next.new.desk.door.now) c.serve_next.new.desk.pass.now (starts_of c.serve_next.new.desk.lanes.items))
    (g.K.Sink.held c.loop-i.desk.out.now) (g.K.Sink.held c.serve_next.new.desk.out.now) c.loop-i.i (Ok x)) c.in-Ok-Failed.field-0-is c.in-Ok-Failed.ensures.serves in
    let b = before_fault w c.args.service.now.board.now.id _ _ _ _ _ _ c.loop-i.i c.args.connections c.loop-i-test.true c.loop-i.invariant.under_way came in
    ends w c.args.service.now.board.now.id _ _ _ _ _ _ _ _ c.loop-i.i c.args.connections end.DoorFault c.end_with-in-Ok-Failed.result b c.end_with-in-Ok-Failed.ensures.ends

pub returns-in-Err-clause-serves : goal.returns-in-Err-clause-serves
returns-in-Err-clause-serves g c =
    let w = on_board g.J.Naming.start (g.Q.Cases.case_at c.args.service.now.cases.now) (g.Q.Shows.shown c.args.service.now.cases.now) (watch g.D.Conn.Source.left g.D.Conn.Sink.held g.D.Conn.Source.faults g.D.Conn.Sink.faults (around_of (g.C.Clock.shows c.args.service.now.clock.now) g.D.Conn.Peer.asks)) in
    let old = desk_value (g.D.Door.state c.args.desk.now.door.now) c.args.desk.now.pass.now (starts_of c.args.desk.now.lanes.items) in
    let new = desk_value (g.D.Door.state c.serve_next.new.desk.door.now) c.serve_next.new.desk.pass.now (starts_of c.serve_next.new.desk.lanes.items) in
    subst (λ e. ServesAll w c.args.service.now.board.now.id old new (g.K.Sink.held c.args.desk.now.out.now) (g.K.Sink.held c.serve_next.new.desk.out.now) c.args.connections e) (sym c.end_of.ensures)
    (ends_broken w c.args.service.now.board.now.id _ _ _ _ _ _ c.loop-i.i c.args.connections c.in-Err.fault c.loop-i-test.true c.loop-i.invariant.under_way c.in-Err.ensures.serves)

pub returns-clause-serves : goal.returns-clause-serves
returns-clause-serves g c =
    let w = on_board g.J.Naming.start (g.Q.Cases.case_at c.args.service.now.cases.now) (g.Q.Shows.shown c.args.service.now.cases.now) (watch g.D.Conn.Source.left g.D.Conn.Sink.held g.D.Conn.Source.faults g.D.Conn.Sink.faults (around_of (g.C.Clock.shows c.args.service.now.clock.now) g.D.Conn.Peer.asks)) in
    let within = c.loop-i.auto.i-end in
    let over = c.loop-i-test.false in
    let b = before_all w c.args.service.now.board.now.id _ _ _ _ c.loop-i.i c.args.connections (omega (arith, within, over)) c.loop-i.invariant.under_way in
    ends w c.args.service.now.board.now.id _ _ _ _ _ _ _ _ c.args.connections c.args.connections end.Done c.end_with-2.result b c.end_with-2.ensures.ends

pub serve_next-requires-clause-seats : goal.serve_next-requires-clause-seats
serve_next-requires-clause-seats g c = grind (arith, common_steps)

pub serve_next-requires-clause-count : goal.serve_next-requires-clause-count
serve_next-requires-clause-count g c = grind (arith, common_steps)

pub end_with-requires-2-clause-count : goal.end_with-requires-2-clause-count
end_with-requires-2-clause-count g c = grind (arith, common_steps)
