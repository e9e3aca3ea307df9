-- The counts of pairs of answers, at the places of their pairs.
use Rattle.std.specs.Prelude.{◌≡◌, ℕ, ◌+◌, ◌*◌, ◌<◌, List, length, map, filter, count_by, slice_index, ◌==◌}
use Rattle.farm_kinds.specs.declared.outcomes.Answer.{Answer}
use Rattle.farm_kinds.specs.declared.outcomes.MatrixRow.{MatrixRow}
use Rattle.farm_model.specs.Matrix.{answer_place, is_counted}

-- the place of a pair among the hundred
abbrev pub pair_place : Answer × Answer → ℕ
pair_place pair = 10 * answer_place pair.0 + answer_place pair.1

-- a row by counts that stand at the places of their pairs
abbrev pub matrix_row_at : List ℕ → Answer → Answer → MatrixRow
matrix_row_at counts old new = record { old = old; new = new; count = slice_index counts (pair_place (old, new)) }

-- the rows of an old answer whose count is above 0, for these new answers in order
abbrev pub matrix_rows_of : List ℕ → List Answer → Answer → List MatrixRow
matrix_rows_of counts answers old = filter is_counted (map (matrix_row_at counts old) answers)

-- each pair's count stands at its place
pub record AreCounts (counts : List ℕ) (pairs : List (Answer × Answer)) : Type 0 where
  pub len : length counts ≡ 100
  pub counted : (place : ℕ) → place < 100 → slice_index counts place ≡ count_by (λ pair. pair_place pair == place) pairs
