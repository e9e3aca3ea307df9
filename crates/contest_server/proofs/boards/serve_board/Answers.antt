use Rattle.std.proofs.Common.{sym, ◌∙◌}
use Rattle.farm_api.specs.Exchanges.{around_of}
use Rattle.contest_server.specs.Visits.{watch, on_board}
use Rattle.contest_server.proofs.Finishing.{opening_of, tells_none, finished, finished_cause}
use Rattle.contest_server.proofs.boards.serve_board.Goals as goal

pub returns-clause-served : goal.returns-clause-served
returns-clause-served g c start events own o number h =
    let w = on_board g.J.Naming.start (g.Q.Cases.case_at c.args.ground.now.cases.now) (g.Q.Shows.shown c.args.ground.now.cases.now) (watch g.D.Conn.Source.left g.D.Conn.Sink.held g.D.Conn.Source.faults g.D.Conn.Sink.faults (around_of (g.C.Clock.shows c.args.ground.now.clock.now) g.D.Conn.Peer.asks)) in
    let door = g.D.Door.state c.args.door.now in
    let held = g.K.Sink.held c.args.out.now in
    finished w start events door (g.D.Door.state c.serve_in_scope-pass.new.door) c.args.pass own c.serve_in_scope-pass.result.0 c.end-own.result held (g.K.Sink.held c.serve_in_scope-pass.new.out) (g.K.Sink.held c.finish.new.out)
    _ _ c.args.connections c.serve_in_scope-pass.result.1 c.finish.result o h
    (c.serve_in_scope-pass.ensures.serves.rests (opening_of door held start events c.args.pass own h) (tells_none w door held start events c.args.pass own o h))
    (c.end-own.ensures.kept.numbered ∙ sym number) c.end-own.ensures.kept.looks c.finish.ensures.finishes

pub returns-clause-cause : goal.returns-clause-cause
returns-clause-cause g c = finished_cause _ _ _ _ _ _ _ _ _ _ _ c.serve_in_scope-pass.ensures.cause c.finish.ensures.finishes
