-- What each change keeps: each lease is on an empty cell of a judging that is there.
use Rattle.std.proofs.Common.{ℕ, ◌≡◌, ◌≢◌, ◌≤◌, List, [], ◌∷◌, ◌++◌, Option, Some, None, Bool, true, false, not, cond, refl, sym, ap, ◌∙◌, arith, inl, inr, map, filter, get_or, is_none}
use Rattle.std.specs.Option.{option_and_then}
use Rattle.std.proofs.lemmas.Bool.{cases_eq, and_parts}
use Rattle.std.proofs.lemmas.List.Elements.{All-push, All-filter, All-map, All-weaker, filter_passes}
use Rattle.farm_kinds.specs.declared.kinds.Kind.{Kind}
use Rattle.farm_kinds.specs.declared.outcomes.Task.{Task}
use Rattle.farm_kinds.specs.RuleValue.{RuleValue}
use Rattle.farm_model.specs.declared.records.Lease.{Lease}
use Rattle.farm_model.specs.Numbered.{item_of, with_change}
use Rattle.farm_model.specs.Leases.{same_task, lease_on, with_lease, without_task, renew_if}
use Rattle.farm_model.specs.Judgings.{Judging, task_of, cell_of, fill_cell, with_result, with_handed, with_asked, with_dropped, mark_handed, mark_asked, mark_dropped}
use Rattle.farm_model.specs.Open.{is_free}
use Rattle.judging_core.specs.Holding.{IsOnEmptyCell, AreOnEmptyCells}
use Rattle.judging_core.specs.Listed.{is_open, is_open_in, is_open_cell}
use Rattle.judging_core.proofs.Items.{with_other, change_same, change_other, pushed_other, item_within}
use Rattle.judging_core.proofs.Shown.{apart}
use Rattle.judging_core.proofs.Listed.{cell_there}

abbrev pub cell_in : Option Judging → ℕ → Option (Option Kind)
cell_in o test = option_and_then (λ judging. item_of judging.row test) o

-- a change of a judging that leaves its row
pub row_kept : (js : List Judging) (n : ℕ) (f : Judging → Judging) → ((x : Judging) → (f x).row ≡ x.row) → (j test : ℕ) → cell_of (with_change js n f) j test ≡ cell_of js j test
row_kept js n f kept j test = elim (cases_eq n j) [
  | inr other ↦ ap (λ o. cell_in o test) (change_other js n j f other)
  | inl same ↦ here (item_of js n) refl same
] where
  here : (o : Option Judging) → item_of js n ≡ o → n ≡ j → cell_of (with_change js n f) j test ≡ cell_of js j test
  here None e same = rw e refl
  here (Some x) e same =
      ap (λ o. cell_in o test) (ap (item_of (with_change js n f)) (sym same) ∙ change_same js n f x e)
      ∙ ap (λ row. item_of row test) (kept x)
      ∙ sym (ap (λ o. cell_in o test) (ap (item_of js) (sym same) ∙ e))

-- other judgings, where each cell that was empty is
pub still_empty : (js ks : List Judging) (ls : List Lease) → ((j test : ℕ) → cell_of js j test ≡ Some None → cell_of ks j test ≡ Some None) → AreOnEmptyCells js ls → AreOnEmptyCells ks ls
still_empty js ks ls e h = All-weaker (IsOnEmptyCell js) (IsOnEmptyCell ks) (λ x. e x.task.judging x.task.test) ls h

pub some_cells : (js : List Judging) (p : Lease → Bool) (ls : List Lease) → AreOnEmptyCells js ls → AreOnEmptyCells js (filter p ls)
some_cells js p ls h = All-filter p (IsOnEmptyCell js) ls h

pub handed_cells : (js : List Judging) (ls : List Lease) (host until : ℕ) (t : Task) → AreOnEmptyCells js ls → cell_of js t.judging t.test ≡ Some None → AreOnEmptyCells (with_handed js t) (with_lease ls host t until)
handed_cells js ls host until t h empty =
    still_empty js (with_handed js t) (with_lease ls host t until) (λ j test e. row_kept js t.judging (mark_handed t.test) (λ x. refl) j test ∙ e)
    (All-push (IsOnEmptyCell js) ls (record { host = host; task = t; until = until }) h empty)

pub asked_cells : (js : List Judging) (ls : List Lease) (j : ℕ) → AreOnEmptyCells js ls → AreOnEmptyCells (with_asked js j) ls
asked_cells js ls j h = still_empty js (with_asked js j) ls (λ n test e. row_kept js j mark_asked (λ x. refl) n test ∙ e) h

pub dropped_cells : (js : List Judging) (ls : List Lease) (j : ℕ) → AreOnEmptyCells js ls → AreOnEmptyCells (with_dropped js j) ls
dropped_cells js ls j h = still_empty js (with_dropped js j) ls (λ n test e. row_kept js j mark_dropped (λ x. refl) n test ∙ e) h

pub added_cells : (js : List Judging) (judging : Judging) (ls : List Lease) → AreOnEmptyCells js ls → AreOnEmptyCells (js ++ judging ∷ []) ls
added_cells js judging ls h = still_empty js (js ++ judging ∷ []) ls more h where
  more : (j test : ℕ) → cell_of js j test ≡ Some None → cell_of (js ++ judging ∷ []) j test ≡ Some None
  more j test e =
      let at = cell_there js j test (item_of js j) refl e in
      let within = item_within js j at.0 at.1 in
      ap (λ o. cell_in o test) (pushed_other js judging j (omega (arith, within.1))) ∙ e

pub renewed_cells : (js : List Judging) (ls : List Lease) (p : Lease → Bool) (until : ℕ) → AreOnEmptyCells js ls → AreOnEmptyCells js (map (renew_if p until) ls)
renewed_cells js ls p until h = All-map (IsOnEmptyCell js) (renew_if p until) ls (All-weaker (IsOnEmptyCell js) (λ x. IsOnEmptyCell js (renew_if p until x)) known ls h) where
  known : (x : Lease) → IsOnEmptyCell js x → IsOnEmptyCell js (renew_if p until x)
  known x k = elim (p x) as (λ b. IsOnEmptyCell js (cond b (record x { until = until }) x)) [ true ↦ k | false ↦ k ]

-- a result fills no other cell
others_empty : (js : List Judging) (j test : ℕ) (kind : Kind) (t : Task) → 1 ≤ test → same_task t (task_of j test) ≡ false → cell_of js t.judging t.test ≡ Some None → cell_of (with_result js j test kind) t.judging t.test ≡ Some None
others_empty js j test kind t low other e = elim (cases_eq j t.judging) [
  | inr n ↦ ap (λ o. cell_in o t.test) (change_other js j t.judging (fill_cell test kind) n) ∙ e
  | inl same ↦ here (item_of js j) refl same
] where
  here : (o : Option Judging) → item_of js j ≡ o → j ≡ t.judging → cell_of (with_result js j test kind) t.judging t.test ≡ Some None
  here None i same = rw i e
  here (Some judging) i same =
      let differ : test ≢ t.test = λ u. apart t (task_of j test) other (sym same) (sym u) in
      ap (λ o. cell_in o t.test) (ap (item_of (with_result js j test kind)) (sym same) ∙ change_same js j (fill_cell test kind) judging i)
      ∙ with_other judging.row test t.test (Some kind) (omega (arith, low)) differ
      ∙ sym (ap (λ o. cell_in o t.test) (ap (item_of js) (sym same) ∙ i))
      ∙ e

pub filled_cells : (js : List Judging) (ls : List Lease) (j test : ℕ) (kind : Kind) → 1 ≤ test → AreOnEmptyCells js ls → AreOnEmptyCells (with_result js j test kind) (without_task ls (task_of j test))
filled_cells js ls j test kind low h = λ k d lt.
    let left = some_cells js (λ x. not (same_task x.task (task_of j test))) ls h k d lt in
    let passes = filter_passes (λ (x : Lease). not (same_task x.task (task_of j test))) ls k d lt in
    others_empty js j test kind (get_or (without_task ls (task_of j test)) k d).task low (turned (same_task (get_or (without_task ls (task_of j test)) k d).task (task_of j test)) passes) left where
      turned : (b : Bool) → not b ≡ true → b ≡ false
      turned true e = cc
      turned false e = refl

-- an open task is on an empty cell
pub open_cell : (rule : RuleValue) (js : List Judging) (ls : List Lease) (t : Task) → is_open rule js ls t ≡ true → cell_of js t.judging t.test ≡ Some None
open_cell rule js ls t e = by_judging (item_of js t.judging) refl ((and_parts (is_open_in rule t.test (item_of js t.judging)) (is_free ls t) e).0) where
  by_cell : (judging : Judging) (o : Option (Option Kind)) → is_open_cell rule judging t.test o ≡ true → o ≡ Some None
  by_cell judging None h = cc
  by_cell judging (Some (Some k)) h = cc
  by_cell judging (Some None) h = refl

  by_judging : (o : Option Judging) → item_of js t.judging ≡ o → is_open_in rule t.test o ≡ true → cell_of js t.judging t.test ≡ Some None
  by_judging None i h = cc
  by_judging (Some judging) i h = ap (λ p. cell_in p t.test) i ∙ by_cell judging (item_of judging.row t.test) h

-- and no lease is held on it
pub open_free : (rule : RuleValue) (js : List Judging) (ls : List Lease) (t : Task) → is_open rule js ls t ≡ true → lease_on ls t ≡ None
open_free rule js ls t e = none (lease_on ls t) ((and_parts (is_open_in rule t.test (item_of js t.judging)) (is_free ls t) e).1) where
  none : (o : Option Lease) → is_none o ≡ true → o ≡ None
  none None h = refl
  none (Some lease) h = cc
