use Rattle.std.proofs.Common.{rules, ◌≡◌, ℕ, List, ◌∷◌, Some, refl, ap, sym, ◌∙◌}
use Rattle.std.specs.Prelude.{Option}
use Rattle.atomic_table.specs.Table.{Me, rest}
use Rattle.farm_board.specs.Views.{with_ticket}
use Rattle.farm_board.specs.declared.view.View.{View}
use Rattle.farm_board.proofs.Turns.{goes_on}
use Rattle.farm_board.proofs.Passes.{in_turn, first_slot}
use Rattle.farm_board.proofs.turn.go_on.Goals as goal

pub load-requires : goal.load-requires
load-requires g c = (search rules, search rules, goes_on _ _ _ _ _ c.requires.empty c.requires.keeping)

pub exchange-requires : goal.exchange-requires
exchange-requires g c =
    let t = c.load.ensures.2 in
    (search rules, (Some t.held, t.slot ∙ ap (λ (z : List (ℕ × Option _)). (0, Some t.held) ∷ z) (sym (ap rest t.slot))))

pub returns-clause-turn : goal.returns-clause-turn
returns-clause-turn g c =
    let t = c.load.ensures.2 in
    let found : Some t.held ≡ c.exchange.result = ap first_slot (sym t.slot ∙ c.exchange.ensures.2) in
    let some_is = c.in-Some.is in
    let same : t.held ≡ c.in-Some.held = cc (found, some_is) in
    in_turn _ _ _ (with_ticket c.args.seat.now.me.0 c.load.result, c.args.seat.now.me.1) _ c.load.result _ refl t (ap (λ (m : Me _ View). m.0) c.exchange.ensures.3) same
