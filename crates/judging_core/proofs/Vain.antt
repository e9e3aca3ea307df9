-- Leases on empty cells that are not to be judged any more: a result ends them, and takes their tasks off the list.
use Rattle.std.proofs.Common.{ℕ, ◌≡◌, ◌≢◌, ◌-◌, ◌≤◌, ◌⊎◌, List, [], ◌∷◌, Option, Some, None, Bool, true, false, not, cond, ◌&&◌, refl, sym, ap, subst, ◌∙◌, arith, inl, inr, length, length-set, min, slice_get, filter, unwrap_or, eqb, leb, ltb}
use Rattle.std.specs.List.{All}
use Rattle.std.specs.Option.{is_none}
use Rattle.std.proofs.lemmas.Bool.{and_parts, cases_eq, cases_lt, eqb-true}
use Rattle.std.proofs.lemmas.Bool.Decides.{nat_tests}
use Rattle.std.proofs.lemmas.Option.{unwrap_or-slice_get}
use Rattle.std.proofs.lemmas.List.Elements.{All-head, All-tail, All-weaker}
use Rattle.farm_kinds.specs.declared.kinds.Kind.{Kind}
use Rattle.farm_kinds.specs.declared.outcomes.Mode.{Mode}
use Rattle.farm_kinds.specs.declared.outcomes.Mode.TheVariants.{Lazy, Full}
use Rattle.farm_kinds.specs.declared.outcomes.Task.{Task}
use Rattle.farm_kinds.specs.RuleValue.{RuleValue}
use Rattle.farm_model.specs.declared.records.Lease.{Lease}
use Rattle.farm_model.specs.Numbered.{item_of}
use Rattle.farm_model.specs.Leases.{same_task, without_task}
use Rattle.farm_model.specs.Judgings.{Judging, task_of, cell_of, fill_cell, with_result}
use Rattle.farm_model.specs.Rows.{Row, matters}
use Rattle.farm_model.specs.Open.{is_free, is_empty_cell, is_wanted, is_active}
use Rattle.farm_model.specs.Judge.{is_in_vain, without_vain, without_vain_in}
use Rattle.lazy_stop.specs.Matters.{IsPossible}
use Rattle.lease_book.proofs.Singly.{task_is}
use Rattle.task_tree.specs.Shown.{JudgingTasks, is_shown, with_shown, with_hidden_behind, HasTask}
use Rattle.lease_book.specs.Behind.{is_behind, without_behind}
use Rattle.judging_core.specs.Holding.{IsHeldWell, IsOnEmptyCell, AreOnEmptyCells}
use Rattle.judging_core.specs.JudgeShape.{row_length}
use Rattle.judging_core.specs.Listed.{is_open, is_open_in, is_open_cell, IsListed, IsWantedUpTo, IsLastWanted}
use Rattle.judging_core.proofs.Items.{item_at, item_by, item_within, change_same, change_other, with_other, kept_seen}
use Rattle.judging_core.proofs.Held.{some_held}
use Rattle.judging_core.proofs.Cells.{cell_in, some_cells}
use Rattle.judging_core.proofs.Shown.{apart, shown_other, shown_here, classes_shown, widths_shown, behind_other, behind_kept, behind_hidden, behind_before, classes_behind, widths_behind}
use Rattle.judging_core.proofs.Listed.{find_passing, free_fewer, relisted, cell_there, cell_room, result_open, result_closed, true_or_false, leb_true, leb_is, and_both}

-- ---- which leases are in vain

filter_same : (p q : Lease → Bool) (ls : List Lease) → All (λ x. p x ≡ q x) ls → filter p ls ≡ filter q ls
filter_same p q [] h = refl
filter_same p q (x ∷ ls) h = rw (All-head (λ y. p y ≡ q y) x ls h) (ap (λ ys. cond (q x) (x ∷ ys) ys) (filter_same p q ls (All-tail (λ y. p y ≡ q y) x ls h)))

not_both : (a b : Bool) → (a && b && false) ≡ false
not_both true true = refl
not_both true false = refl
not_both false b = refl

seen_empty : (row : Row) (test : ℕ) → item_of row test ≡ Some None → is_empty_cell row test ≡ true
seen_empty row test e = ap is_none (sym (unwrap_or-slice_get row (test - 1) None) ∙ ap (λ o. unwrap_or o None) (item_at row test None e).1)

behind_is : (test last : ℕ) → not (leb test last) ≡ ltb last test
behind_is test last = grind (arith, nat_tests)

-- ---- up to which rank cells are to be judged

-- up to this rank the empty cells matter
abbrev pub MattersUpTo : RuleValue → Row → ℕ → Type 0
MattersUpTo rule row limit = (rank : ℕ) → 1 ≤ rank → slice_get row (rank - 1) ≡ Some None → matters rule row rank ≡ leb rank limit

short_enough : (rank limit n : ℕ) → rank ≤ n → leb rank limit ≡ leb rank (min limit n)
short_enough rank limit n l = grind (arith, nat_tests, l)

within : (row : Row) (rank : ℕ) → 1 ≤ rank → slice_get row (rank - 1) ≡ Some None → rank ≤ length row
within row rank low e = (item_within row rank None (item_by row rank None (omega (arith, low)) e)).1

pub wanted_lazily : (rule : RuleValue) (mode : Mode) (row : Row) (limit : ℕ) → mode ≡ Lazy → MattersUpTo rule row limit → IsWantedUpTo rule mode row (min limit (length row))
wanted_lazily rule mode row limit lazy upto = λ rank low e.
    ap (λ m. is_wanted rule m row rank) lazy ∙ upto rank low e ∙ short_enough rank limit (length row) (within row rank low e)

pub wanted_in_full : (rule : RuleValue) (mode : Mode) (row : Row) → mode ≡ Full → IsWantedUpTo rule mode row (length row)
wanted_in_full rule mode row full = λ rank low e.
    let l = within row rank low e in
    ap (λ m. is_wanted rule m row rank) full ∙ sym (grind (arith, nat_tests, l))

in_vain_is : (rule : RuleValue) (js : List Judging) (j last : ℕ) (judging : Judging) → item_of js j ≡ Some judging → IsWantedUpTo rule judging.mode judging.row last
    → (x : Lease) → IsOnEmptyCell js x → is_in_vain rule j judging x ≡ is_behind j last x
in_vain_is rule js j last judging there upto x on = by (eqb x.task.judging j) refl where
  by : (b : Bool) → eqb x.task.judging j ≡ b → is_in_vain rule j judging x ≡ is_behind j last x
  by false e = rw e refl
  by true e =
      let same : x.task.judging ≡ j = eqb-true x.task.judging j e in
      let cell : item_of judging.row x.task.test ≡ Some None = sym (ap (λ o. cell_in o x.task.test) (ap (item_of js) same ∙ there)) ∙ on in
      let place = item_at judging.row x.task.test None cell in
      let from = item_within judging.row x.task.test None cell in
      let empty = seen_empty judging.row x.task.test cell in
      let wanted : is_wanted rule judging.mode judging.row x.task.test ≡ leb x.task.test last = upto x.task.test from.0 place.1 in
      rw (e, empty, wanted) (behind_is x.task.test last)

-- the leases in vain are those behind the last cell that is to be judged
pub vain_behind : (rule : RuleValue) (js : List Judging) (j last : ℕ) (judging : Judging) (ls : List Lease) → item_of js j ≡ Some judging → IsLastWanted rule js j last
    → AreOnEmptyCells js ls → without_vain rule js j ls ≡ without_behind ls j last
vain_behind rule js j last judging ls there upto on =
    ap (without_vain_in rule j ls) there
    ∙ filter_same (λ x. not (is_in_vain rule j judging x)) (λ x. not (is_behind j last x)) ls
    (All-weaker (IsOnEmptyCell js) (λ x. not (is_in_vain rule j judging x) ≡ not (is_behind j last x)) (λ x e. ap not (in_vain_is rule js j last judging there (upto.each judging there) x e)) ls on)

-- ---- what stays when they end

pub vain_held : (hosts : ℕ) (rule : RuleValue) (js : List Judging) (j : ℕ) (ls : List Lease) → IsHeldWell hosts ls → IsHeldWell hosts (without_vain rule js j ls)
vain_held hosts rule js j ls h = at (item_of js j) where
  at : (o : Option Judging) → IsHeldWell hosts (without_vain_in rule j ls o)
  at None = h
  at (Some judging) = some_held hosts (λ x. not (is_in_vain rule j judging x)) ls h

pub vain_cells : (rule : RuleValue) (js : List Judging) (j : ℕ) (ls : List Lease) → AreOnEmptyCells js ls → AreOnEmptyCells js (without_vain rule js j ls)
vain_cells rule js j ls h = at (item_of js j) where
  at : (o : Option Judging) → AreOnEmptyCells js (without_vain_in rule j ls o)
  at None = h
  at (Some judging) = some_cells js (λ x. not (is_in_vain rule j judging x)) ls h

-- a lease on an open cell is not in vain
not_in_vain : (rule : RuleValue) (js : List Judging) (j : ℕ) (judging : Judging) (x : Lease) → item_of js j ≡ Some judging → is_open_in rule x.task.test (item_of js x.task.judging) ≡ true → not (is_in_vain rule j judging x) ≡ true
not_in_vain rule js j judging x there e = by (eqb x.task.judging j) refl where
  by_cell : (o : Option (Option Kind)) → is_open_cell rule judging x.task.test o ≡ true → is_wanted rule judging.mode judging.row x.task.test ≡ true
  by_cell None h = cc
  by_cell (Some (Some k)) h = cc
  by_cell (Some None) h = (and_parts (is_active judging) (is_wanted rule judging.mode judging.row x.task.test) h).1

  by : (b : Bool) → eqb x.task.judging j ≡ b → not (is_in_vain rule j judging x) ≡ true
  by false f = rw f refl
  by true f =
      let same : item_of js x.task.judging ≡ Some judging = ap (item_of js) (eqb-true x.task.judging j f) ∙ there in
      let wanted = by_cell (item_of judging.row x.task.test) (sym (ap (is_open_in rule x.task.test) same) ∙ e) in
      ap not (ap (λ b. eqb x.task.judging j && is_empty_cell judging.row x.task.test && not b) wanted ∙ not_both (eqb x.task.judging j) (is_empty_cell judging.row x.task.test))

-- no task is open that was not open before
open_before : (rule : RuleValue) (js : List Judging) (j : ℕ) (ls : List Lease) (t : Task) → is_open rule js (without_vain rule js j ls) t ≡ true → is_open rule js ls t ≡ true
open_before rule js j ls t e = at (item_of js j) refl where
  p : (is_open_in rule t.test (item_of js t.judging) ≡ true) × (is_free (without_vain rule js j ls) t ≡ true)
  p = and_parts (is_open_in rule t.test (item_of js t.judging)) (is_free (without_vain rule js j ls) t) e

  at : (o : Option Judging) → item_of js j ≡ o → is_open rule js ls t ≡ true
  at None i = sym (ap (λ o. is_open_in rule t.test (item_of js t.judging) && is_free (without_vain_in rule j ls o) t) i) ∙ e
  at (Some judging) i =
      let stays : is_free (without_vain_in rule j ls (Some judging)) t ≡ is_free ls t =
      ap is_none (find_passing (λ x. not (is_in_vain rule j judging x)) (λ x. same_task x.task t) ls (λ x f.
      let same : x.task ≡ t = task_is x.task t f in
      not_in_vain rule js j judging x i (subst (λ (k : Task). is_open_in rule k.test (item_of js k.judging) ≡ true) (sym same) p.0))) in
      sym (ap (λ o. is_open_in rule t.test (item_of js t.judging) && is_free (without_vain_in rule j ls o) t) i ∙ ap (λ b. is_open_in rule t.test (item_of js t.judging) && b) stays) ∙ e

-- and what is open of other judgings, or of the judging up to the last cell that is to be judged, was open and stays so
pub result_listed : (rule : RuleValue) (js : List Judging) (ls : List Lease) (ts : List JudgingTasks) (j test last : ℕ) (kind : Kind) → IsListed rule js ls ts
    → cell_of js j test ≡ Some None → IsPossible rule kind → IsLastWanted rule (with_result js j test kind) j last
    → IsListed rule (with_result js j test kind) (without_vain rule (with_result js j test kind) j (without_task ls (task_of j test)))
    (with_hidden_behind (with_shown ts (task_of j test) false) j last)
result_listed rule js ls ts j test last kind h empty possible upto =
    relisted rule js ks ls ms ts us h (kept_seen (λ x. x.class) js j (fill_cell test kind) (λ x. refl))
    (kept_seen row_length js j (fill_cell test kind) (λ x. length-set x.row (test - 1) (Some kind)))
    (classes_behind (with_shown ts task false) j last ∙ classes_shown ts task false) (widths_behind (with_shown ts task false) j last ∙ widths_shown ts task false) shown opened where
      task : Task
      task = task_of j test

      ks : List Judging
      ks = with_result js j test kind

      left : List Lease
      left = without_task ls task

      ms : List Lease
      ms = without_vain rule ks j left

      us : List JudgingTasks
      us = with_hidden_behind (with_shown ts task false) j last

      there : HasTask ts task
      there = cell_room js ts j test h.wide empty

      at_cell : (judging : Judging) × (item_of js j ≡ Some judging) × (item_of judging.row test ≡ Some None)
      at_cell = cell_there js j test (item_of js j) refl empty

      new : item_of ks j ≡ Some (fill_cell test kind at_cell.0)
      new = change_same js j (fill_cell test kind) at_cell.0 at_cell.1

      was : (t : Task) → is_open rule ks ms t ≡ true → is_open rule js ls t ≡ true
      was t e = result_open rule js ls j test kind empty possible t (open_before rule ks j left t e)

      by_cell : (judging : Judging) (n : ℕ) (o : Option (Option Kind)) → item_of judging.row n ≡ o → is_open_cell rule judging n o ≡ true
          → (is_active judging ≡ true) × (item_of judging.row n ≡ Some None) × (is_wanted rule judging.mode judging.row n ≡ true)
      by_cell judging n None i e = cc
      by_cell judging n (Some (Some k)) i e = cc
      by_cell judging n (Some None) i e = let p = and_parts (is_active judging) (is_wanted rule judging.mode judging.row n) e in (p.0, i, p.1)

      wanted : (n : ℕ) → item_of (fill_cell test kind at_cell.0).row n ≡ Some None → is_wanted rule at_cell.0.mode (fill_cell test kind at_cell.0).row n ≡ leb n last
      wanted n e =
          let a = item_at (fill_cell test kind at_cell.0).row n None e in
          upto.each (fill_cell test kind at_cell.0) new n (omega (arith, a.0)) a.1

      last_is : (t : Task) → t.judging ≡ j → is_open rule ks ms t ≡ true → t.test ≤ last
      last_is t same e =
          let p = and_parts (is_open_in rule t.test (item_of ks t.judging)) (is_free ms t) e in
          let here : item_of ks t.judging ≡ Some (fill_cell test kind at_cell.0) = ap (item_of ks) same ∙ new in
          let c = by_cell (fill_cell test kind at_cell.0) t.test (item_of (fill_cell test kind at_cell.0).row t.test) refl (sym (ap (is_open_in rule t.test) here) ∙ p.0) in
          leb_true t.test last (sym (wanted t.test c.1) ∙ c.2)

      shown : (t : Task) → is_open rule ks ms t ≡ true → is_shown us t ≡ true
      shown t e = kept (cases_eq t.judging j) ∙ once (same_task t task) refl where
        once : (b : Bool) → same_task t task ≡ b → is_shown (with_shown ts task false) t ≡ true
        once true s = let f : is_open rule ks ms t ≡ false = ap (is_open rule ks ms) (task_is t task s) ∙ result_closed rule js ms j test kind empty in absurd (true_or_false (is_open rule ks ms t) e f)
        once false s = shown_other ts task t false there.low s ∙ h.shown t (was t e)

        kept : (t.judging ≡ j) ⊎ (t.judging ≢ j) → is_shown us t ≡ is_shown (with_shown ts task false) t
        kept (inl same) = behind_kept (with_shown ts task false) j last t (last_is t same e)
        kept (inr other) = behind_other (with_shown ts task false) j last t other

      free : (t : Task) → is_free ls t ≡ true → is_free ms t ≡ true
      free t f = at (item_of ks j) (free_fewer (λ x. not (same_task x.task task)) ls t f) where
        at : (o : Option Judging) → is_free left t ≡ true → is_free (without_vain_in rule j left o) t ≡ true
        at None g = g
        at (Some judging) g = free_fewer (λ x. not (is_in_vain rule j judging x)) left t g

      still : (t : Task) → (t.judging ≡ j → t.test ≤ last) → same_task t task ≡ false → is_open_in rule t.test (item_of js t.judging) ≡ true → is_open_in rule t.test (item_of ks t.judging) ≡ true
      still t upto_last s e = elim (cases_eq t.judging j) [
        | inr other ↦ ap (is_open_in rule t.test) (change_other js j t.judging (fill_cell test kind) (λ u. other (sym u))) ∙ e
        | inl same ↦
            let old : item_of js t.judging ≡ Some at_cell.0 = ap (item_of js) same ∙ at_cell.1 in
            let here : item_of ks t.judging ≡ Some (fill_cell test kind at_cell.0) = ap (item_of ks) same ∙ new in
            let c = by_cell at_cell.0 t.test (item_of at_cell.0.row t.test) refl (sym (ap (is_open_in rule t.test) old) ∙ e) in
            let differ : test ≢ t.test = λ u. apart t task s same (sym u) in
            let cell : item_of (fill_cell test kind at_cell.0).row t.test ≡ Some None = with_other at_cell.0.row test t.test (Some kind) (item_at at_cell.0.row test None at_cell.2).0 differ ∙ c.1 in
            ap (is_open_in rule t.test) here ∙ ap (is_open_cell rule (fill_cell test kind at_cell.0) t.test) cell
            ∙ and_both (is_active at_cell.0) _ c.0 (wanted t.test cell ∙ leb_is t.test last (upto_last same))
      ]

      opened : (t : Task) → is_shown us t ≡ true → is_open rule ks ms t ≡ true
      opened t e = once (same_task t task) refl where
        before : is_shown (with_shown ts task false) t ≡ true
        before = behind_before (with_shown ts task false) j last t e

        within_last : t.judging ≡ j → t.test ≤ last
        within_last same = elim (cases_lt last t.test) [
          | inl behind ↦ let gone : is_shown us t ≡ false = ap (λ n. is_shown us (task_of n t.test)) same ∙ behind_hidden (with_shown ts task false) j last t.test behind in absurd (true_or_false (is_shown us t) e gone)
          | inr over ↦ omega (arith, over)
        ]

        once : (b : Bool) → same_task t task ≡ b → is_open rule ks ms t ≡ true
        once true s = let f : is_shown (with_shown ts task false) t ≡ false = ap (is_shown (with_shown ts task false)) (task_is t task s) ∙ shown_here ts task false there in absurd (true_or_false (is_shown (with_shown ts task false) t) before f)
        once false s =
            let p = and_parts (is_open_in rule t.test (item_of js t.judging)) (is_free ls t) (h.open_ t (sym (shown_other ts task t false there.low s) ∙ before)) in
            and_both _ _ (still t within_last s p.0) (free t p.1)
