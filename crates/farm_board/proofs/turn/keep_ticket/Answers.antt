use Rattle.std.proofs.Common.{rules, ◌∷◌, Some, ◌∙◌}
use Rattle.atomic_table.specs.Table.{rest}
use Rattle.farm_board.proofs.Turns.{keeps_its_ticket}
use Rattle.farm_board.proofs.turn.keep_ticket.Goals as goal

pub load-requires : goal.load-requires
load-requires g c =
    let e = c.requires.entry in (
      search rules,
      search rules,
      keeps_its_ticket _ _ _ _ c.args.seat.now.me.0 c.args.held e.0 _ (c.exchange.ensures.3 ∙ (λ i. (c.args.seat.now.me.0, (0, Some c.args.held) ∷ rest (c.requires.slot i))))
          c.requires.turn.0 c.requires.turn.1 e.1 e.2,
    )
