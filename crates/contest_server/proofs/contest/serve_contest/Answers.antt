use Rattle.std.proofs.Common.{false, refl, sym, arith, subst}
use Rattle.farm_model.specs.State.{start}
use Rattle.farm_board.specs.Histories.{opening_board}
use Rattle.contest_folder.specs.RosterValue.{RosterValue}
use Rattle.contest_folder.specs.JudgingCases.{case_at}
use Rattle.contest_page.specs.ViewValue.{ViewValue}
use Rattle.farm_api.specs.Exchanges.{around_of}
use Rattle.judge_feed.specs.Refreshing.{IsFresh}
use Rattle.contest_server.specs.Beside.{HasSplit}
use Rattle.contest_server.specs.Contest.{entering_events, seats}
use Rattle.contest_server.specs.Visits.{watch, on_board}
use Rattle.contest_server.specs.Served.{Serves}
use Rattle.contest_server.proofs.contest.serve_contest.Goals as goal

pub serve_named-end-requires-clause-opening : goal.serve_named-end-requires-clause-opening
serve_named-end-requires-clause-opening g c κs within = let lanes = c.requires.lanes in record { out = refl; given = refl; seats = omega (arith, lanes) }

pub serve_named-end-requires-clause-fresh : goal.serve_named-end-requires-clause-fresh
serve_named-end-requires-clause-fresh g c κs within =
    subst (λ (r : RosterValue). IsFresh c.in-Ok-open_board.board.id (opening_board (start r.settings) (seats c.args.lanes) false) c.in-Ok-open_board.own.number c.in-Ok-open_board.own)
    (sym c.in-Ok-of.ensures.roster) c.in-Ok-open_board.ensures.fresh

pub returns-clause-serves : goal.returns-clause-serves
returns-clause-serves g c =
    let events = entering_events c.args.roster.now in
    subst (λ (z : RosterValue × ViewValue). Serves (on_board (opening_board (start z.0.settings) (seats c.args.lanes) false) (case_at z.0) z.1 (watch g.D.Conn.Source.left g.D.Conn.Sink.held g.D.Conn.Source.faults g.D.Conn.Sink.faults (around_of (g.C.Clock.shows c.args.clock.now) g.D.Conn.Peer.asks)))
    (opening_board (start z.0.settings) (seats c.args.lanes) false) events (g.D.Door.state c.args.door.now) (g.D.Door.state c.serve_named-end.new.door) (g.K.Sink.held c.args.out.now) (g.K.Sink.held c.serve_named-end.new.out) c.args.connections c.serve_named-end.result)
    (λ i. (c.in-Ok-of.ensures.roster i, c.in-Ok-of.ensures.view i))
    (c.serve_named-end.ensures.serves events
    (subst (λ (r : RosterValue). HasSplit (opening_board (start r.settings) (seats c.args.lanes) false) events c.in-Ok-open_board.pass c.in-Ok-open_board.own) (sym c.in-Ok-of.ensures.roster) c.in-Ok-open_board.ensures.entered))
