-- Matrices: how often one answer became another.
use Rattle.std.specs.Prelude.{ℕ, List, [], ◌∷◌, ◌++◌, map, filter, count_by, Bool, ◌&&◌, ◌==◌, nat_lt}
use Rattle.std.specs.List.{flat_map}
use Rattle.farm_kinds.specs.declared.outcomes.Verdict.TheVariants.{Tests, CompilerError}
use Rattle.farm_kinds.specs.declared.outcomes.Answer.{Answer}
use Rattle.farm_kinds.specs.declared.outcomes.Answer.TheVariants.{Final, Pending}
use Rattle.farm_kinds.specs.declared.outcomes.MatrixRow.{MatrixRow}
use Rattle.farm_kinds.specs.Kinds.{every_kind}
use Rattle.farm_kinds.specs.Rules.{place_of}

-- the answers in their order
abbrev pub every_answer : List Answer
every_answer = map (λ k. Final (Tests k)) every_kind ++ Final CompilerError ∷ Pending ∷ []

-- an answer's place among the ten
abbrev pub answer_place : Answer → ℕ
answer_place (Final (Tests kind)) = place_of kind
answer_place (Final CompilerError) = 8
answer_place Pending = 9

abbrev pub same_answer : Answer → Answer → Bool
same_answer a b = answer_place a == answer_place b

-- how many of the pairs are these two answers
abbrev pub pair_count : List (Answer × Answer) → Answer → Answer → ℕ
pair_count pairs old new = count_by (λ p. same_answer p.0 old && same_answer p.1 new) pairs

abbrev pub matrix_row : List (Answer × Answer) → Answer → Answer → MatrixRow
matrix_row pairs old new = record { old = old; new = new; count = pair_count pairs old new }

abbrev pub is_counted : MatrixRow → Bool
is_counted row = nat_lt 0 row.count

-- the counts above 0, in order of the old and then of the new answer
unfoldable pub matrix_of : List (Answer × Answer) → List MatrixRow
matrix_of pairs = filter is_counted (flat_map (λ old. map (matrix_row pairs old) every_answer) every_answer)
