-- How many cells judgings have, and that no more leases are held than there are cells.
use Rattle.std.proofs.Common.{ℕ, zero, suc, ◌≡◌, ◌≤◌, ◌<◌, ◌+◌, ◌*◌, ◌-◌, List, [], ◌∷◌, ◌++◌, Option, Some, None, Bool, true, false, not, cond, refl, sym, ap, ◌∙◌, subst, arith, length, map, filter, get_or, count_by, eqb, ltb, ◌&&◌, slice_get}
use Rattle.std.specs.Prelude.{sum}
use Rattle.std.proofs.lemmas.Bool.{eq-eqb}
use Rattle.std.proofs.lemmas.Bool.Decides.{nat_tests}
use Rattle.std.proofs.lemmas.List.{length_push, length-replicate}
use Rattle.std.proofs.lemmas.List.Elements.{All-head, All-tail, All-push, All-filter, All-weaker, filter_passes}
use Rattle.std.proofs.lemmas.List.Sorted.{sum_by-IsPermutation, IsPermutation-reverse}
use Rattle.std.proofs.lemmas.List.Sums.{sum_by-cons, sum_by_push, sum-map, sum_by-le, length-filter}
use Rattle.farm_kinds.specs.declared.kinds.Kind.{Kind}
use Rattle.farm_kinds.specs.declared.outcomes.Class.{Class}
use Rattle.farm_kinds.specs.declared.outcomes.Mode.{Mode}
use Rattle.farm_kinds.specs.declared.outcomes.Task.{Task}
use Rattle.farm_model.specs.declared.records.Lease.{Lease}
use Rattle.farm_model.specs.Leases.{lease_on}
use Rattle.farm_model.specs.Numbered.{item_of, with_change}
use Rattle.farm_model.specs.Judgings.{Judging, cell_of, task_of, empty_judging}
use Rattle.lease_book.specs.Book.{IsSinglyLeased}
use Rattle.lease_book.proofs.Counts.{one_if, count_cons, count_parts, length_kept}
use Rattle.lease_book.proofs.Singly.{on, task_is, granted}
use Rattle.judging_core.specs.declared.judgings.KeptJudging.{KeptJudging}
use Rattle.judging_core.specs.JudgeShape.{judging_value, judging_values, row_length, cell_count, cells_in, reserved_of, IsWellKept, AreWellKept}
use Rattle.judging_core.specs.Holding.{IsOnEmptyCell, AreOnEmptyCells}
use Rattle.judging_core.proofs.Items.{kept_seen}
use Rattle.judging_core.proofs.Cells.{cell_in}

-- as the judgings are seen
cells_seen : (js : List KeptJudging) → sum (map row_length (judging_values js)) ≡ cells_in js
cells_seen [] = refl
cells_seen (x ∷ xs) =
    sum_by-cons (λ n. n) (row_length (judging_value x)) (map row_length (judging_values xs))
    ∙ ap (λ n. cell_count x + n) (cells_seen xs) ∙ sym (sum_by-cons cell_count x xs)

-- one judging more
pub cells_pushed : (js : List KeptJudging) (kept : KeptJudging) (class : Class) (tests : ℕ) (mode : Mode) (asked : Bool) → judging_value kept ≡ empty_judging class tests mode asked → cells_in (js ++ kept ∷ []) ≡ cells_in js + tests
cells_pushed js kept class tests mode asked e =
    sum_by_push cell_count js kept ∙ ap (λ n. cells_in js + n) (ap row_length e ∙ length-replicate tests None)

-- a change of a judging that keeps the length of its row
pub cells_changed : (xs ys : List KeptJudging) (n : ℕ) (f : Judging → Judging) → judging_values ys ≡ with_change (judging_values xs) n f → ((x : Judging) → row_length (f x) ≡ row_length x) → cells_in ys ≡ cells_in xs
cells_changed xs ys n f e kept =
    sym (cells_seen ys) ∙ ap (λ js. sum (map row_length js)) e ∙ ap sum (kept_seen row_length (judging_values xs) n f kept) ∙ cells_seen xs

pub cells_few : (js : List KeptJudging) → AreWellKept js → cells_in js ≤ length js * 1000
cells_few js h = sum_by-le cell_count 1000 js (All-weaker IsWellKept (λ kept. cell_count kept ≤ 1000) (λ kept k. k.cells) js h)

reserved_sum : (prepared : List KeptJudging) → sum (reserved_of prepared) ≡ cells_in prepared
reserved_sum prepared =
    sum_by-IsPermutation (λ n. n) (map cell_count prepared) (reserved_of prepared) (IsPermutation-reverse (map cell_count prepared)) ∙ sum-map cell_count prepared

-- the next of the judgings that are made ahead is taken
pub cells_taken : (old new : List KeptJudging) (tests : ℕ) → reserved_of old ≡ tests ∷ reserved_of new → cells_in old ≡ tests + cells_in new
cells_taken old new tests e =
    sym (reserved_sum old) ∙ ap sum e ∙ sum_by-cons (λ n. n) tests (reserved_of new) ∙ ap (λ n. tests + n) (reserved_sum new)

-- Places of some widths, numbered from 1

abbrev width : {Y : Type 0} → (Y → ℕ) → Option Y → ℕ
width w None = 0
width w (Some y) = w y

width_at : {Y : Type 0} (w : Y → ℕ) (ys : List Y) (i : ℕ) → width w (slice_get ys i) ≡ get_or (map w ys) i 0
width_at w [] i = refl
width_at w (y ∷ ys) zero = refl
width_at w (y ∷ ys) (suc i) = width_at w ys i

width_of : {Y : Type 0} (w : Y → ℕ) (ys : List Y) (n : ℕ) → width w (item_of ys n) ≡ get_or (0 ∷ map w ys) n 0
width_of w ys zero = refl
width_of w ys (suc m) =
    let place : suc m - 1 ≡ m = omega arith in
    let is : ltb 0 (suc m) ≡ true = grind (arith, nat_tests) in
    let at : item_of ys (suc m) ≡ slice_get ys m = rw (is, place) refl in
    ap (width w) at ∙ width_at w ys m

-- where each place has no more items than it is wide, there are no more items than the places are wide together
few_in : {X : Type 0} (place : X → ℕ) (start : ℕ) (widths : List ℕ) (xs : List X) → ((k : ℕ) (d : X) → k < length xs → start ≤ place (get_or xs k d))
    → ((i n : ℕ) → start + i ≡ n → count_by (λ x. eqb (place x) n) xs ≤ get_or widths i 0) → length xs ≤ sum widths
few_in place start [] [] low fits = omega arith
few_in {X} place start [] (x ∷ xs) low fits =
    let l : start ≤ place x = low 0 x (omega arith) in
    let one : one_if (eqb (place x) (place x)) ≡ 1 = ap one_if (eq-eqb (place x) (place x) refl) in
    let none : count_by (λ y. eqb (place y) (place x)) (x ∷ xs) ≤ 0 = fits (place x - start) (place x) (omega (arith, l)) in
    absurd (omega (arith, none, one, count_cons (λ y. eqb (place y) (place x)) x xs))
few_in {X} place start (w ∷ ws) xs low fits =
    let here : X → Bool = λ x. eqb (place x) start in
    let others = filter (λ x. not (here x)) xs in
    let all_low = All-filter (λ x. not (here x)) (λ x. start ≤ place x) xs low in
    let passes = filter_passes (λ x. not (here x)) xs in
    let rest : length others ≤ sum ws = few_in place (start + 1) ws others
    (λ k d lt. let a = all_low k d lt in let b = passes k d lt in grind (arith, nat_tests))
    (λ i n e. omega (arith, count_parts here (λ x. eqb (place x) n) xs, fits (suc i) n (omega (arith, e)))) in
    omega (arith, length_kept here xs, fits 0 start (omega arith), rest, sum_by-cons (λ n. n) w ws)

-- Leases, each on a cell, and no two on one

count_both : {X : Type 0} (p q : X → Bool) (xs : List X) → count_by q (filter p xs) ≡ count_by (λ x. p x && q x) xs
count_both p q [] = refl
count_both p q (x ∷ xs) =
    (elim (p x) as (λ b. count_by q (cond b (x ∷ filter p xs) (filter p xs)) ≡ one_if (b && q x) + count_by (λ y. p y && q y) xs) [
      | true ↦ count_cons q x (filter p xs) ∙ ap (λ n. one_if (q x) + n) (count_both p q xs)
      | false ↦ omega (arith, count_both p q xs)
    ]) ∙ sym (count_cons (λ y. p y && q y) x xs)

none_off : (js : List Judging) (ls : List Lease) (t : Task) → AreOnEmptyCells js ls → cell_of js t.judging t.test ≡ None → count_by (on t) ls ≡ 0
none_off js [] t h e = refl
none_off js (x ∷ xs) t h e =
    let off : (b : Bool) → on t x ≡ b → one_if b ≡ 0
    = λ b. elim b as (λ b. on t x ≡ b → one_if b ≡ 0) [
      | true ↦ λ s. let there : cell_of js t.judging t.test ≡ Some None = subst (λ (u : Task). cell_of js u.judging u.test ≡ Some None) (task_is x.task t s) (All-head (IsOnEmptyCell js) x xs h) in cc
      | false ↦ λ s. refl
    ] in
    omega (arith, count_cons (on t) x xs, off (on t x) refl, none_off js xs t (All-tail (IsOnEmptyCell js) x xs h) e)

one_on : (js : List Judging) (ls : List Lease) (t : Task) → IsSinglyLeased ls → AreOnEmptyCells js ls → count_by (on t) ls ≤ width (λ _. 1) (cell_of js t.judging t.test)
one_on js ls t single h = by (cell_of js t.judging t.test) refl where
  by : (o : Option (Option Kind)) → cell_of js t.judging t.test ≡ o → count_by (on t) ls ≤ width (λ _. 1) o
  by None e = omega (arith, none_off js ls t h e)
  by (Some cell) e = single.most t

-- a one for each cell of its row
abbrev ones : Option Judging → List ℕ
ones None = []
ones (Some judging) = map (λ _. 1) judging.row

sum_ones : {Y : Type 0} (ys : List Y) → sum (map (λ _. 1) ys) ≡ length ys
sum_ones [] = refl
sum_ones (y ∷ ys) = sum_by-cons (λ n. n) 1 (map (λ _. 1) ys) ∙ omega (arith, sum_ones ys)

ones_sum : (o : Option Judging) → sum (ones o) ≡ width row_length o
ones_sum None = refl
ones_sum (Some judging) = sum_ones judging.row

ones_of : (o : Option Judging) (test : ℕ) → width (λ _. 1) (cell_in o test) ≤ get_or (0 ∷ ones o) test 0
ones_of None test = omega arith
ones_of (Some judging) test = omega (arith, width_of (λ _. 1) judging.row test)

-- of one judging no more leases are held than its row has cells
few_on_judging : (js : List Judging) (ls : List Lease) (j : ℕ) → IsSinglyLeased ls → AreOnEmptyCells js ls → count_by (λ lease. eqb lease.task.judging j) ls ≤ width row_length (item_of js j)
few_on_judging js ls j single h =
    let own : Lease → Bool = λ lease. eqb lease.task.judging j in
    let few : length (filter own ls) ≤ sum (0 ∷ ones (item_of js j)) = few_in (λ (lease : Lease). lease.task.test) 0 (0 ∷ ones (item_of js j)) (filter own ls) (λ k d lt. omega arith) fits in
    omega (arith, few, length-filter own ls, sum_by-cons (λ n. n) 0 (ones (item_of js j)), ones_sum (item_of js j)) where
      fits : (i n : ℕ) → 0 + i ≡ n → count_by (λ lease. eqb lease.task.test n) (filter (λ (lease : Lease). eqb lease.task.judging j) ls) ≤ get_or (0 ∷ ones (item_of js j)) i 0
      fits i n e =
          let same : n ≡ i = omega (arith, e) in
          let both = count_both (λ (lease : Lease). eqb lease.task.judging j) (λ lease. eqb lease.task.test n) ls in
          let most : count_by (λ lease. eqb lease.task.judging j && eqb lease.task.test n) ls ≤ width (λ _. 1) (cell_in (item_of js j) n) = one_on js ls (task_of j n) single h in
          let there : width (λ _. 1) (cell_in (item_of js j) n) ≤ get_or (0 ∷ ones (item_of js j)) n 0 = ones_of (item_of js j) n in
          omega (arith, both, most, there, ap (λ m. get_or (0 ∷ ones (item_of js j)) m 0) same)

-- in all no more leases are held than there are cells
few_on_cells : (js : List Judging) (ls : List Lease) → IsSinglyLeased ls → AreOnEmptyCells js ls → length ls ≤ sum (map row_length js)
few_on_cells js ls single h =
    let few : length ls ≤ sum (0 ∷ map row_length js) = few_in (λ (lease : Lease). lease.task.judging) 0 (0 ∷ map row_length js) ls (λ k d lt. omega arith)
    (λ i n e. let same : n ≡ i = omega (arith, e) in omega (arith, few_on_judging js ls n single h, width_of row_length js n, ap (λ m. get_or (0 ∷ map row_length js) m 0) same)) in
    omega (arith, few, sum_by-cons (λ n. n) 0 (map row_length js))

-- and fewer, where one of them has no lease
pub fewer_on_cells : (js : List KeptJudging) (ls : List Lease) (lease : Lease) → IsSinglyLeased ls → AreOnEmptyCells (judging_values js) ls → lease_on ls lease.task ≡ None
    → cell_of (judging_values js) lease.task.judging lease.task.test ≡ Some None → length ls < cells_in js
fewer_on_cells js ls lease single h free empty =
    let all = few_on_cells (judging_values js) (ls ++ lease ∷ []) (granted ls lease single free) (All-push (IsOnEmptyCell (judging_values js)) ls lease h empty) in
    omega (arith, all, cells_seen js, length_push ls lease)
