use Rattle.farm_api.specs.Exchanges.{around_of}
use Rattle.contest_server.specs.Visits.{watch, on_board}
use Rattle.contest_server.proofs.Unread.{unread}
use Rattle.contest_server.proofs.lanes.serve_one.Goals as goal

pub returns : goal.returns
returns g c = record {
  answered = record {
    before = c.in-Some.reader;
    behind = c.serve_lane-end.new.access.reader;
    served = c.serve_lane-end.ensures.served;
    cause = c.serve_lane-end.ensures.cause;
    complete = c.serve_lane-end.ensures.complete;
  };
}

pub returns-in_default : goal.returns-in_default
returns-in_default g c =
    let w = on_board g.J.Naming.start (g.Q.Cases.case_at c.args.cases.now) (g.Q.Shows.shown c.args.cases.now) (watch g.N.Source.left g.N.Sink.held g.N.Source.faults g.N.Sink.faults (around_of (g.C.Clock.shows c.args.clock.now) g.N.Peer.asks)) in
    record {
      answered = unread w c.args.conn c.refuse-end.new.conn c.args.pass c.refuse-end.result c.refuse-end.ensures.left c.refuse-end.ensures.held c.refuse-end.ensures.reads c.refuse-end.ensures.writes c.refuse-end.ensures.end;
    }
