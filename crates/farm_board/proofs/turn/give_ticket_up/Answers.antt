use Rattle.std.proofs.Common.{rules}
use Rattle.farm_board.proofs.Turns.{gives_up}
use Rattle.farm_board.proofs.turn.give_ticket_up.Goals as goal

pub fetch_add-requires : goal.fetch_add-requires
fetch_add-requires g c = (search rules, search rules, gives_up _ _ _ _ _ c.requires.keeping)
