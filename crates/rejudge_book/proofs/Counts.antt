-- A matrix by counts that stand at the places of their pairs.
use Rattle.std.proofs.Common.{ℕ, ◌≡◌, ◌+◌, ◌*◌, ◌<◌, List, [], ◌∷◌, ◌++◌, Bool, cond, refl, sym, ap, ◌∙◌, arith, map, filter, count_by, get_or, eqb, inl, inr, ◌&&◌}
use Rattle.std.specs.List.{flat_map}
use Rattle.std.proofs.lemmas.Bool.{eq-eqb, ne_eqb, cases_eq, and_from, and_left, and_right}
use Rattle.std.proofs.lemmas.List.Elements.{filter-append}
use Rattle.std.proofs.lemmas.List.Sums.{sum_by-cons}
use Rattle.farm_kinds.specs.declared.kinds.Kind.{Kind}
use Rattle.farm_kinds.specs.declared.kinds.Kind.TheVariants.{Correct, WrongAnswer, RunError, TimeLimit, NoOutput, OutputLimit, MemoryLimit, JudgingError}
use Rattle.farm_kinds.specs.declared.outcomes.Verdict.TheVariants.{Tests, CompilerError}
use Rattle.farm_kinds.specs.declared.outcomes.Answer.{Answer}
use Rattle.farm_kinds.specs.declared.outcomes.Answer.TheVariants.{Final, Pending}
use Rattle.farm_kinds.specs.declared.outcomes.MatrixRow.{MatrixRow}
use Rattle.farm_kinds.specs.Rules.{place_of}
use Rattle.farm_model.specs.Matrix.{answer_place, every_answer, is_counted, matrix_of, matrix_row, pair_count, same_answer}
use Rattle.rejudge_book.specs.Counts.{AreCounts, matrix_row_at, matrix_rows_of, pair_place}

kind_small : (k : Kind) → place_of k < 10
kind_small Correct = omega arith
kind_small WrongAnswer = omega arith
kind_small RunError = omega arith
kind_small TimeLimit = omega arith
kind_small NoOutput = omega arith
kind_small OutputLimit = omega arith
kind_small MemoryLimit = omega arith
kind_small JudgingError = omega arith

small : (a : Answer) → answer_place a < 10
small (Final (Tests k)) = kind_small k
small (Final CompilerError) = omega arith
small Pending = omega arith

-- two numbers of two digits are equal where both digits are
digits : (a b x y : ℕ) → b < 10 → y < 10 → eqb (10 * a + b) (10 * x + y) ≡ (eqb a x && eqb b y)
digits a b x y h k = elim (cases_eq a x) [
  | inl e ↦ elim (cases_eq b y) [
    | inl f ↦ eq-eqb (10 * a + b) (10 * x + y) (omega arith) ∙ sym (and_from (eqb a x) (eqb b y) (eq-eqb a x e) (eq-eqb b y f))
    | inr g ↦ ne_eqb (10 * a + b) (10 * x + y) (λ s. g (omega arith)) ∙ sym (and_right (eqb a x) (eqb b y) (ne_eqb b y g))
  ]
  | inr g ↦ ne_eqb (10 * a + b) (10 * x + y) (λ s. g (omega arith)) ∙ sym (and_left (eqb a x) (eqb b y) (ne_eqb a x g))
]

-- tests that agree count the same
counts_same : {X : Type 0} (p q : X → Bool) (xs : List X) → ((x : X) → p x ≡ q x) → count_by p xs ≡ count_by q xs
counts_same p q [] h = refl
counts_same p q (x ∷ xs) h =
    sum_by-cons (λ y. cond (p y) 1 0) x xs
    ∙ (ap (λ b. cond b 1 0 + count_by p xs) (h x) ∙ (ap (λ n. cond (q x) 1 0 + n) (counts_same p q xs h) ∙ sym (sum_by-cons (λ y. cond (q y) 1 0) x xs)))

row_is : (counts : List ℕ) (pairs : List (Answer × Answer)) (old new : Answer) → AreCounts counts pairs → matrix_row_at counts old new ≡ matrix_row pairs old new
row_is counts pairs old new h =
    let a = small old in
    let b = small new in
    let within : pair_place (old, new) < 100 = omega arith in
    let count : get_or counts (pair_place (old, new)) 0 ≡ pair_count pairs old new
    = h.counted (pair_place (old, new)) within ∙ counts_same (λ (p : Answer × Answer). eqb (pair_place p) (pair_place (old, new))) (λ (p : Answer × Answer). same_answer p.0 old && same_answer p.1 new) pairs (λ p. digits (answer_place p.0) (answer_place p.1) (answer_place old) (answer_place new) (small p.1) b) in
    ap (λ (n : ℕ). record { old = old; new = new; count = n }) count

rows_are : (counts : List ℕ) (pairs : List (Answer × Answer)) (old : Answer) (answers : List Answer) → AreCounts counts pairs → map (matrix_row_at counts old) answers ≡ map (matrix_row pairs old) answers
rows_are counts pairs old [] h = refl
rows_are counts pairs old (new ∷ answers) h =
    ap (λ (r : MatrixRow). r ∷ map (matrix_row_at counts old) answers) (row_is counts pairs old new h) ∙ ap (λ (rs : List MatrixRow). matrix_row pairs old new ∷ rs) (rows_are counts pairs old answers h)

all_rows : (counts : List ℕ) (pairs : List (Answer × Answer)) (olds answers : List Answer) → AreCounts counts pairs → flat_map (matrix_rows_of counts answers) olds ≡ filter is_counted (flat_map (λ old. map (matrix_row pairs old) answers) olds)
all_rows counts pairs [] answers h = refl
all_rows counts pairs (old ∷ olds) answers h =
    ap (λ (rs : List MatrixRow). filter is_counted rs ++ flat_map (matrix_rows_of counts answers) olds) (rows_are counts pairs old answers h)
    ∙ (ap (λ (rs : List MatrixRow). filter is_counted (map (matrix_row pairs old) answers) ++ rs) (all_rows counts pairs olds answers h)
    ∙ sym (filter-append is_counted (map (matrix_row pairs old) answers) (flat_map (λ o. map (matrix_row pairs o) answers) olds)))

pub matrix_is : (counts : List ℕ) (pairs : List (Answer × Answer)) → AreCounts counts pairs → flat_map (matrix_rows_of counts every_answer) every_answer ≡ matrix_of pairs
unfolding matrix_of
matrix_is counts pairs h = all_rows counts pairs every_answer every_answer h
