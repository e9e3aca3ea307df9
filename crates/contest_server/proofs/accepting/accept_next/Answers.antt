use Rattle.std.proofs.Common.{[], ◌∷◌, ◌++◌, ◌≡◌, ◌+◌, ◌<◌, length, sym, ap, ◌∙◌, subst, arith}
use Rattle.std.specs.Prelude.{All}
use Rattle.std.proofs.lemmas.List.{map-append, length-map}
use Rattle.contest_server.specs.declared.accepting.Coming.TheVariants as coming
use Rattle.farm_api.specs.Exchanges.{around_of}
use Rattle.contest_server.specs.Visits.{watch, on_board, Start}
use Rattle.contest_server.specs.Lanes.{start_of, starts_of, IsLane}
use Rattle.contest_server.specs.Serving.{desk_value, share, AcceptsNext}
use Rattle.contest_server.proofs.Beside.{all_more}
use Rattle.contest_server.proofs.Stands.{accepts}
use Rattle.contest_server.proofs.accepting.accept_next.Goals as goal

pub returns-in-Conn-clause-accepts : goal.returns-in-Conn-clause-accepts
returns-in-Conn-clause-accepts g c =
    let w = on_board g.J.Naming.start (g.Q.Cases.case_at c.args.service.now.cases.now) (g.Q.Shows.shown c.args.service.now.cases.now) (watch g.D.Conn.Source.left g.D.Conn.Sink.held g.D.Conn.Source.faults g.D.Conn.Sink.faults (around_of (g.C.Clock.shows c.args.service.now.clock.now) g.D.Conn.Peer.asks)) in
    let board = c.args.service.now.board.now.id in
    let lanes = c.args.desk.now.lanes.items in
    let s : Start g.row.D-Conn.Denot = record { came = c.in-Conn.conn; begun = c.split-own.result } in
    let left = c.requires.left in
    let len = length-map lanes start_of in
    let lanes_ok = c.args.desk.now.lanes.ok.0 in
    let enough : share + length (starts_of lanes) + 3 < c.args.desk.now.pass.now.left = omega (arith, left, len, lanes_ok) in
    let more : starts_of c.push_back_reserved.new.self.items ≡ starts_of lanes ++ s ∷ [] =
    ap starts_of c.push_back_reserved.ensures.items ∙ map-append start_of lanes (c.begin-lane.result ∷ []) ∙ ap (λ x. starts_of lanes ++ x ∷ []) c.begin-lane.ensures.start in
    subst (λ starts. AcceptsNext w board (desk_value (g.D.Door.state c.args.desk.now.door.now) c.args.desk.now.pass.now (starts_of lanes)) (desk_value (g.D.Door.state c.accept.new.self) c.split-own.new.pass starts) coming.Conn) (sym more)
    (accepts w board (g.D.Door.state c.args.desk.now.door.now) (g.D.Door.state c.accept.new.self) c.args.desk.now.pass.now c.split-own.new.pass (starts_of lanes) s c.requires.orderly enough c.in-Conn.ensures.fresh c.in-Conn.ensures.accepts c.split-own.ensures.split)

pub returns-in-Conn-clause-lanes : goal.returns-in-Conn-clause-lanes
returns-in-Conn-clause-lanes g c =
    let w = on_board g.J.Naming.start (g.Q.Cases.case_at c.args.service.now.cases.now) (g.Q.Shows.shown c.args.service.now.cases.now) (watch g.D.Conn.Source.left g.D.Conn.Sink.held g.D.Conn.Source.faults g.D.Conn.Sink.faults (around_of (g.C.Clock.shows c.args.service.now.clock.now) g.D.Conn.Peer.asks)) in
    subst (λ lanes. All (IsLane w c.args.service.now.clock.now c.args.service.now.cases.now) lanes) (sym c.push_back_reserved.ensures.items)
    (all_more (IsLane w c.args.service.now.clock.now c.args.service.now.cases.now) c.args.desk.now.lanes.items c.begin-lane.result c.requires.lanes c.begin-lane.ensures.lane)
