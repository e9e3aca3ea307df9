use Rattle.std.proofs.Common.{◌≡◌, ◌+◌, ◌*◌, ◌≤◌, None}
use Rattle.farm_io.specs.Lines.{input_limit}
use Rattle.http_door.specs.ReaderValue.{budget}
use Rattle.farm_api.specs.Exchanges.{around_of, giving}
use Rattle.farm_api.specs.Serving.{untaken, IsUnderWay}
use Rattle.farm_api.proofs.serving.serve_on.Given as goal

abbrev pub invariant-loop-how : goal.invariant-loop-how
invariant-loop-how g l =
    let left = g.N.Source.left in
    let held = g.N.Sink.held in
    record {
      under_way : IsUnderWay g.A.Replier.steps (giving (g.A.Replier.gives l.replier) (around_of (g.C.Clock.shows l.clock) g.N.Peer.asks))
          (untaken l.fn.state (left l.fn.conn) (held l.fn.conn))
          (record { state = l.state; left = left l.conn; held = held l.conn; ahead = l.reader.ahead; taken = l.reader.taken }) l.requests;
      suits : g.A.Replier.suits l.replier l.state;
      read_same : g.N.Source.faults l.conn ≡ g.N.Source.faults l.fn.conn;
      write_same : g.N.Sink.faults l.conn ≡ g.N.Sink.faults l.fn.conn;
      going : l.reader.ended ≡ None;
      calls : 3 * budget l.reader ≤ g.A.Replier.left l.state;
      count : l.requests + budget l.reader ≤ input_limit;
    }

abbrev pub decreases-loop-how : goal.decreases-loop-how
decreases-loop-how g l = budget l.reader
