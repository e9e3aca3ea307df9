use Rattle.std.proofs.Common.{◌≡◌, ◌+◌, ◌≤◌, ◌++◌, List, length}
use Rattle.farm_api.specs.Exchanges.{around_of}
use Rattle.contest_server.specs.Visits.{watch, on_board, Visit}
use Rattle.contest_server.specs.Lanes.{starts_of, AreLanes}
use Rattle.contest_server.specs.Serving.{desk_value, StaysOrderly, Opening, Stands}
use Rattle.contest_server.proofs.returning.take_all.Given as goal

abbrev pub invariant-loop : goal.invariant-loop
invariant-loop g l = record {
  stays : StaysOrderly (on_board g.J.Naming.start (g.Q.Cases.case_at l.service.cases.now) (g.Q.Shows.shown l.service.cases.now) (watch g.D.Conn.Source.left g.D.Conn.Sink.held g.D.Conn.Source.faults g.D.Conn.Sink.faults (around_of (g.C.Clock.shows l.service.clock.now) g.D.Conn.Peer.asks))) l.service.board.now.id (desk_value (g.D.Door.state l.initial.desk.door.now) l.initial.desk.pass.now (starts_of l.initial.desk.lanes.items))
      (desk_value (g.D.Door.state l.desk.door.now) l.desk.pass.now (starts_of l.desk.lanes.items));
  count : length (starts_of l.desk.lanes.items) + l.counter ≡ length (starts_of l.initial.desk.lanes.items);
  coming : (g.D.Door.state l.desk.door.now).coming ≡ (g.D.Door.state l.initial.desk.door.now).coming;
  taken : (o : Opening g.row.D-Conn.Denot) (visits : List (Visit g.row.D-Conn.Denot))
      → Stands (on_board g.J.Naming.start (g.Q.Cases.case_at l.service.cases.now) (g.Q.Shows.shown l.service.cases.now) (watch g.D.Conn.Source.left g.D.Conn.Sink.held g.D.Conn.Source.faults g.D.Conn.Sink.faults (around_of (g.C.Clock.shows l.service.clock.now) g.D.Conn.Peer.asks))) o visits (desk_value (g.D.Door.state l.initial.desk.door.now) l.initial.desk.pass.now (starts_of l.initial.desk.lanes.items))
      → (more : List (Visit g.row.D-Conn.Denot)) × (length more ≡ l.counter) × Stands (on_board g.J.Naming.start (g.Q.Cases.case_at l.service.cases.now) (g.Q.Shows.shown l.service.cases.now) (watch g.D.Conn.Source.left g.D.Conn.Sink.held g.D.Conn.Source.faults g.D.Conn.Sink.faults (around_of (g.C.Clock.shows l.service.clock.now) g.D.Conn.Peer.asks))) o (visits ++ more) (desk_value (g.D.Door.state l.desk.door.now) l.desk.pass.now (starts_of l.desk.lanes.items));
  lanes : AreLanes (on_board g.J.Naming.start (g.Q.Cases.case_at l.service.cases.now) (g.Q.Shows.shown l.service.cases.now) (watch g.D.Conn.Source.left g.D.Conn.Sink.held g.D.Conn.Source.faults g.D.Conn.Sink.faults (around_of (g.C.Clock.shows l.service.clock.now) g.D.Conn.Peer.asks))) l.service.clock.now l.service.cases.now l.desk.lanes.items;
  later : g.D.Door.faults l.initial.desk.door.now ≤ g.D.Door.faults l.desk.door.now;
  same : (l.desk.door.ghost_name ≡ l.initial.desk.door.ghost_name) × (l.desk.out.ghost_name ≡ l.initial.desk.out.ghost_name) × (l.desk.pass.ghost_name ≡ l.initial.desk.pass.ghost_name);
  out : l.desk.out.now ≡ l.initial.desk.out.now;
}
