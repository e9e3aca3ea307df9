use Rattle.std.proofs.Common.{◌∷◌, ◌≡◌, refl, sym, ap, ◌∙◌, subst}
use Rattle.std.specs.Prelude.{All}
use Rattle.std.proofs.lemmas.List.Elements.{All-head, All-tail}
use Rattle.farm_api.specs.Exchanges.{around_of}
use Rattle.contest_server.specs.Visits.{watch, on_board}
use Rattle.contest_server.specs.Lanes.{start_of, starts_of, visit_of, IsLane}
use Rattle.contest_server.specs.Serving.{desk_value, IsReady, IsOrderly, TakesFirst}
use Rattle.contest_server.proofs.Stands.{takes}
use Rattle.contest_server.proofs.returning.take_in.Goals as goal

pub join-requires-clause-board : goal.join-requires-clause-board
join-requires-clause-board g c =
    let w = on_board g.J.Naming.start (g.Q.Cases.case_at c.args.service.now.cases.now) (g.Q.Shows.shown c.args.service.now.cases.now) (watch g.D.Conn.Source.left g.D.Conn.Sink.held g.D.Conn.Source.faults g.D.Conn.Sink.faults (around_of (g.C.Clock.shows c.args.service.now.clock.now) g.D.Conn.Peer.asks)) in
    let board = c.args.service.now.board.now.id in
    let s = start_of c.in-Some.lane in
    let starts = starts_of c.pop_front.new.self.items in
    let ready = subst (λ xs. All (IsReady w board) xs) (ap starts_of c.in-Some.ensures.items) c.requires.orderly.ready in
    (c.requires.orderly.board_is, c.end-conn.ensures.answered.served.entered.calls.board ∙ (All-head (IsReady w board) s starts ready).board_is)

pub returns-clause-takes : goal.returns-clause-takes
returns-clause-takes g c =
    let w = on_board g.J.Naming.start (g.Q.Cases.case_at c.args.service.now.cases.now) (g.Q.Shows.shown c.args.service.now.cases.now) (watch g.D.Conn.Source.left g.D.Conn.Sink.held g.D.Conn.Source.faults g.D.Conn.Sink.faults (around_of (g.C.Clock.shows c.args.service.now.clock.now) g.D.Conn.Peer.asks)) in
    let board = c.args.service.now.board.now.id in
    let s = start_of c.in-Some.lane in
    let starts = starts_of c.pop_front.new.self.items in
    let whole : starts_of c.args.desk.now.lanes.items ≡ s ∷ starts = ap starts_of c.in-Some.ensures.items in
    let door = g.D.Door.state c.args.desk.now.door.now in
    let door' = g.D.Door.state c.give_back.new.self in
    let orderly = subst (λ xs. IsOrderly w board (desk_value door c.args.desk.now.pass.now xs)) whole c.requires.orderly in
    subst (λ xs. TakesFirst w board (desk_value door c.args.desk.now.pass.now xs) (desk_value door' c.join.new.into starts) c.end-conn.result.end) (sym whole)
    (takes w board door door' c.args.desk.now.pass.now c.join.new.into s starts (visit_of s c.end-conn.result) c.end-conn.result.end orderly refl refl refl refl c.end-conn.ensures.answered c.join.ensures.join c.give_back.ensures.back)

pub returns-clause-lanes : goal.returns-clause-lanes
returns-clause-lanes g c =
    let w = on_board g.J.Naming.start (g.Q.Cases.case_at c.args.service.now.cases.now) (g.Q.Shows.shown c.args.service.now.cases.now) (watch g.D.Conn.Source.left g.D.Conn.Sink.held g.D.Conn.Source.faults g.D.Conn.Sink.faults (around_of (g.C.Clock.shows c.args.service.now.clock.now) g.D.Conn.Peer.asks)) in
    All-tail (IsLane w c.args.service.now.clock.now c.args.service.now.cases.now) c.in-Some.lane c.pop_front.new.self.items
    (subst (λ lanes. All (IsLane w c.args.service.now.clock.now c.args.service.now.cases.now) lanes) c.in-Some.ensures.items c.requires.lanes)
