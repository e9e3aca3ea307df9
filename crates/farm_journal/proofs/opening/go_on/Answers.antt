use Rattle.std.proofs.Common.{◌≡◌, ◌+◌, ◌<◌, ℕ, List, [], ◌∷◌, None, refl, sym, ◌∙◌, length, drop, arith}
use Rattle.record_store.specs.Held.{held}
use Rattle.stored_events.specs.Opening.{config_of}
use Rattle.stored_events.proofs.Openings.{first_held, opened_bad, still_moments}
use Rattle.farm_journal.proofs.opening.go_on.Goals as goal

pub returns-in-None-clause-bad : goal.returns-in-None-clause-bad
returns-in-None-clause-bad g c told =
    let file = (g.Y.Disk.time c.args.disk.now).now.seen in
    let line = c.args.line.now in
    let n = 3 + length line in
    let inside : n < length file = (let i = c.requires.inside in let e = c.requires.len told in omega (arith, i, e)) in
    opened_bad c.args.digest.now (g.P.Player.state c.args.farm.now) file line (held (drop n file)) (first_held file line n (c.requires.first told) inside) (sym c.config_of.ensures ∙ c.in-None.is)

pub returns-in-None-clause-moments : goal.returns-in-None-clause-moments
returns-in-None-clause-moments g c told =
    let t = g.Y.Disk.time c.args.disk.now in
    still_moments c.args.digest.now t t (c.requires.quiet told) refl
