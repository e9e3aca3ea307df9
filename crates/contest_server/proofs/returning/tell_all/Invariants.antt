use Rattle.std.proofs.Common.{◌≡◌, ◌+◌, ◌≤◌, length}
use Rattle.farm_api.specs.Exchanges.{around_of}
use Rattle.contest_server.specs.Visits.{watch, on_board}
use Rattle.contest_server.specs.Lanes.{starts_of, AreLanes}
use Rattle.contest_server.specs.Serving.{desk_value, StaysOrderly, Opening, Tells}
use Rattle.contest_server.proofs.returning.tell_all.Given as goal

abbrev pub invariant-loop : goal.invariant-loop
invariant-loop g l = record {
  stays : StaysOrderly (on_board g.J.Naming.start (g.Q.Cases.case_at l.service.cases.now) (g.Q.Shows.shown l.service.cases.now) (watch g.D.Conn.Source.left g.D.Conn.Sink.held g.D.Conn.Source.faults g.D.Conn.Sink.faults (around_of (g.C.Clock.shows l.service.clock.now) g.D.Conn.Peer.asks))) l.service.board.now.id (desk_value (g.D.Door.state l.initial.desk.door.now) l.initial.desk.pass.now (starts_of l.initial.desk.lanes.items))
      (desk_value (g.D.Door.state l.desk.door.now) l.desk.pass.now (starts_of l.desk.lanes.items));
  count : length (starts_of l.desk.lanes.items) + l.counter ≡ length (starts_of l.initial.desk.lanes.items);
  coming : (g.D.Door.state l.desk.door.now).coming ≡ (g.D.Door.state l.initial.desk.door.now).coming;
  told : (o : Opening g.row.D-Conn.Denot)
      → Tells (on_board g.J.Naming.start (g.Q.Cases.case_at l.service.cases.now) (g.Q.Shows.shown l.service.cases.now) (watch g.D.Conn.Source.left g.D.Conn.Sink.held g.D.Conn.Source.faults g.D.Conn.Sink.faults (around_of (g.C.Clock.shows l.service.clock.now) g.D.Conn.Peer.asks))) o (desk_value (g.D.Door.state l.initial.desk.door.now) l.initial.desk.pass.now (starts_of l.initial.desk.lanes.items)) (g.K.Sink.held l.initial.desk.out.now) l.count
      → Tells (on_board g.J.Naming.start (g.Q.Cases.case_at l.service.cases.now) (g.Q.Shows.shown l.service.cases.now) (watch g.D.Conn.Source.left g.D.Conn.Sink.held g.D.Conn.Source.faults g.D.Conn.Sink.faults (around_of (g.C.Clock.shows l.service.clock.now) g.D.Conn.Peer.asks))) o (desk_value (g.D.Door.state l.desk.door.now) l.desk.pass.now (starts_of l.desk.lanes.items)) (g.K.Sink.held l.desk.out.now) l.count;
  lanes : AreLanes (on_board g.J.Naming.start (g.Q.Cases.case_at l.service.cases.now) (g.Q.Shows.shown l.service.cases.now) (watch g.D.Conn.Source.left g.D.Conn.Sink.held g.D.Conn.Source.faults g.D.Conn.Sink.faults (around_of (g.C.Clock.shows l.service.clock.now) g.D.Conn.Peer.asks))) l.service.clock.now l.service.cases.now l.desk.lanes.items;
  later : g.D.Door.faults l.initial.desk.door.now ≤ g.D.Door.faults l.desk.door.now;
  put : g.K.Sink.faults l.desk.out.now ≡ g.K.Sink.faults l.initial.desk.out.now;
  same : (l.desk.door.ghost_name ≡ l.initial.desk.door.ghost_name) × (l.desk.out.ghost_name ≡ l.initial.desk.out.ghost_name) × (l.desk.pass.ghost_name ≡ l.initial.desk.pass.ghost_name);
}
