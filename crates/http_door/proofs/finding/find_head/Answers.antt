-- What is held was looked at, since a whole request has a line feed.
use Rattle.std.proofs.Common.{List, ℕ, Some, None, refl, sym, subst}
use Rattle.farm_io.specs.Lines.{HasFeed}
use Rattle.http_door.specs.Finding.{IsLooked}
use Rattle.http_door.proofs.Holding.{held_found, held_looked, lacks_looked}
use Rattle.http_door.proofs.Causes.{looked_cause}
use Rattle.http_door.proofs.finding.find_head.Goals as goal

pub returns-in-Some-clause-held : goal.returns-in-Some-clause-held
returns-in-Some-clause-held g c =
    λ q. (refl, refl, held_found c.args.window.now.ahead c.in-Some.found (subst (λ (z : List ℕ). IsLooked z (Some c.in-Some.found)) c.ahead.ensures (c.in-Some.ensures.some refl)) q)

pub returns-clause-held : goal.returns-clause-held
returns-clause-held g c =
    λ q. absurd (held_looked c.args.window.now.ahead (λ f. subst (λ (z : List ℕ). IsLooked z None) c.ahead.ensures (c.in_default.ensures.fed (subst HasFeed (sym c.ahead.ensures) f))) q)

pub seek-requires-clause-lacking : goal.seek-requires-clause-lacking
seek-requires-clause-lacking g c =
    lacks_looked c.args.window.now.ahead (λ f. subst (λ (z : List ℕ). IsLooked z None) c.ahead.ensures (c.in_default.ensures.fed (subst HasFeed (sym c.ahead.ensures) f)))

pub returns-in-Some-clause-cause : goal.returns-in-Some-clause-cause
returns-in-Some-clause-cause g c = looked_cause _ _ _ c.in-Some.found refl (c.in-Some.ensures.some refl)
