use Rattle.std.proofs.Common.{rules, ◌≤◌, ℕ, sym, subst}
use Rattle.farm_board.proofs.Seats.{splits}
use Rattle.farm_board.proofs.calls.split_off.Goals as goal

pub split_seat-requires : goal.split_seat-requires
split_seat-requires g c = (search rules, search rules, splits _ _ _ _ _ _ c.requires.to_give (subst (λ (n : ℕ). n ≤ c.args.seat.now.me.0.left) (sym c.requires.named) c.requires.share))
