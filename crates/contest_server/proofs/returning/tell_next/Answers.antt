use Rattle.std.proofs.Common.{◌-◌, ℕ, List, Option, ap, subst, arith}
use Rattle.std.proofs.lemmas.Grind.{common_steps}
use Rattle.std.proofs.lemmas.List.{length-map}
use Rattle.farm_api.specs.Exchanges.{around_of}
use Rattle.contest_server.specs.Visits.{watch, on_board, conn_line}
use Rattle.contest_server.specs.Lanes.{start_of, starts_of}
use Rattle.contest_server.specs.Serving.{desk_value}
use Rattle.contest_server.specs.Texts.{PutsText}
use Rattle.contest_server.proofs.Telling.{tells_first}
use Rattle.contest_server.proofs.returning.tell_next.Goals as goal

pub returns-clause-tells : goal.returns-clause-tells
returns-clause-tells g c =
    let w = on_board g.J.Naming.start (g.Q.Cases.case_at c.args.service.now.cases.now) (g.Q.Shows.shown c.args.service.now.cases.now) (watch g.D.Conn.Source.left g.D.Conn.Sink.held g.D.Conn.Source.faults g.D.Conn.Sink.faults (around_of (g.C.Clock.shows c.args.service.now.clock.now) g.D.Conn.Peer.asks)) in
    let before = c.args.desk.now.lanes in
    let after = c.take_in-end.new.desk.lanes in
    let takes = c.take_in-end.ensures.takes in
    let len = c.len.ensures in
    let fewer = takes.fewer in
    let count = c.requires.count in
    let ok_before = before.ok.0 in
    let ok_after = after.ok.0 in
    let len_before = length-map before.items start_of in
    let len_after = length-map after.items start_of in
    let puts = subst (λ (h : Option (List ℕ)). PutsText h (g.K.Sink.held c.write_line.new.out) (conn_line (c.args.count - c.len.result) c.take_in-end.result.requests c.take_in-end.result.how) c.write_line.result) (ap (λ o. g.K.Sink.held o) c.take_in-end.ensures.out) c.write_line.ensures.puts in
    tells_first w c.args.service.now.board.now.id (desk_value (g.D.Door.state c.args.desk.now.door.now) c.args.desk.now.pass.now (starts_of before.items))
    (desk_value (g.D.Door.state c.take_in-end.new.desk.door.now) c.take_in-end.new.desk.pass.now (starts_of after.items)) (g.K.Sink.held c.args.desk.now.out.now) (g.K.Sink.held c.write_line.new.out)
    c.take_in-end.result c.args.count (c.args.count - c.len.result) c.write_line.result takes
    (omega (arith, len, fewer, count, ok_before, ok_after, len_before, len_after)) puts

pub overflow_sub-count : goal.overflow_sub-count
overflow_sub-count g c = grind (arith, common_steps)
