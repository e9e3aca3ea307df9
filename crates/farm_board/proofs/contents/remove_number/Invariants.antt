use Rattle.std.proofs.Common.{◌≡◌, ◌≢◌, ◌<◌, ℕ, get_or}
use Rattle.farm_board.proofs.contents.remove_number.Given as goal

abbrev pub invariant-loop-k : goal.invariant-loop-k
invariant-loop-k l = (l.numbers ≡ l.initial.numbers) × ((j : ℕ) → j < l.k → get_or l.numbers.items j 0 ≢ l.number)
