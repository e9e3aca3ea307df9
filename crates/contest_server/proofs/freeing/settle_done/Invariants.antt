use Rattle.std.proofs.Common.{◌≡◌}
use Rattle.std.specs.VecDeque.{deque_len}
use Rattle.farm_api.specs.Exchanges.{around_of}
use Rattle.contest_server.specs.Visits.{watch, on_board}
use Rattle.contest_server.specs.Lanes.{starts_of, AreLanes}
use Rattle.contest_server.proofs.freeing.settle_done.Given as goal

abbrev pub invariant-loop-place : goal.invariant-loop-place
invariant-loop-place g l = record {
  starts : starts_of l.lanes.items ≡ starts_of l.initial.lanes.items;
  lanes : AreLanes (on_board g.J.Naming.start (g.Q.Cases.case_at l.service.cases.now) (g.Q.Shows.shown l.service.cases.now) (watch g.N.Source.left g.N.Sink.held g.N.Source.faults g.N.Sink.faults (around_of (g.C.Clock.shows l.service.clock.now) g.N.Peer.asks))) l.service.clock.now l.service.cases.now l.lanes.items;
  len : deque_len l.lanes ≡ deque_len l.initial.lanes;
}
