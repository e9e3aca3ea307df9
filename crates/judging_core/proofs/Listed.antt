-- What each change keeps: the open tasks are listed, and no others.
use Rattle.std.proofs.Common.{ℕ, zero, suc, ◌≡◌, ◌≢◌, ◌+◌, ◌-◌, ◌<◌, ◌≤◌, ◌⊎◌, List, [], ◌∷◌, ◌++◌, Option, Some, None, Bool, true, false, not, ◌&&◌, refl, sym, ap, subst, ◌∙◌, arith, inl, inr, length, map, cond, set, filter, find, slice_get, unwrap_or, eqb, leb, ltb}
use Rattle.std.specs.Option.{is_none, option_map, option_map_or}
use Rattle.std.specs.Prelude.{replicate}
use Rattle.std.proofs.lemmas.Bool.{cases_eq, cases_lt}
use Rattle.std.proofs.lemmas.Bool.Decides.{nat_tests}
use Rattle.std.proofs.lemmas.List.{length-map, map-set, map_push, length-replicate}
use Rattle.std.proofs.lemmas.List.Elements.{All-head, All-tail}
use Rattle.farm_kinds.specs.declared.kinds.Kind.{Kind}
use Rattle.farm_kinds.specs.declared.outcomes.Class.{Class}
use Rattle.farm_kinds.specs.declared.outcomes.Mode.{Mode}
use Rattle.farm_kinds.specs.declared.outcomes.Task.{Task}
use Rattle.farm_kinds.specs.RuleValue.{RuleValue}
use Rattle.farm_model.specs.declared.records.Lease.{Lease}
use Rattle.farm_model.specs.Numbered.{item_of}
use Rattle.farm_model.specs.Leases.{same_task, lease_on, with_lease, without_task, without_judging, renew_if, holds_of, renewed_of}
use Rattle.farm_model.specs.Judgings.{Judging, task_of, cell_of, is_asked, empty_judging, fill_cell, with_result, with_handed, with_asked, with_dropped, mark_handed, mark_asked, mark_dropped}
use Rattle.farm_model.specs.Open.{is_free, is_wanted, is_active}
use Rattle.lazy_stop.specs.Matters.{IsPossible}
use Rattle.lease_book.proofs.Singly.{task_is, same_self}
use Rattle.task_tree.specs.Shown.{JudgingTasks, tests_listed, is_shown, with_shown, with_hidden_behind, with_class, HasTask}
use Rattle.judging_core.specs.JudgeShape.{judging_value, judging_values, row_length, AreRuledBy}
use Rattle.judging_core.specs.Holding.{IsOnEmptyCell, AreOnEmptyCells}
use Rattle.judging_core.specs.declared.judgings.KeptJudging.{KeptJudging}
use Rattle.judging_core.specs.Listed.{is_open, is_open_in, is_open_cell, judging_classes, listed_classes, widths, tests_judged, AreWide, Begins, IsListed, IsWantedUpTo, IsShownIfOpen, AreTestsShown, AreOpenShown}
use Rattle.judging_core.proofs.Items.{item_at, item_by, with_same, with_other, change_same, change_other, kept_seen, pushed_other, pushed_last, item_within, item_some, none_past}
use Rattle.judging_core.proofs.Shown.{shown_other, shown_here, classes_shown, widths_shown, listed_same, judged_same, judged_is, shown_classed, widths_classed, behind_other, behind_hidden, classes_behind, widths_behind, nothing_shown, none_at_0}
use Rattle.judging_core.proofs.Wanted.{wanted_before}

-- ---- leases

-- leases that pass a test: one on a task of which all leases pass it stays
pub find_passing : (p q : Lease → Bool) (leases : List Lease) → ((x : Lease) → q x ≡ true → p x ≡ true) → find q (filter p leases) ≡ find q leases
find_passing p q [] h = refl
find_passing p q (x ∷ leases) h = at (p x) (q x) refl refl (find_passing p q leases h) where
  at : (a b : Bool) → p x ≡ a → q x ≡ b → find q (filter p leases) ≡ find q leases → find q (filter p (x ∷ leases)) ≡ find q (x ∷ leases)
  at true true i j rest = rw (i, j) refl
  at true false i j rest = rw (i, j) rest
  at false true i j rest = let f = h x j in cc
  at false false i j rest = rw (i, j) rest

find_push : (q : Lease → Bool) (leases : List Lease) (x : Lease) → is_none (find q (leases ++ x ∷ [])) ≡ true → (is_none (find q leases) ≡ true) × (q x ≡ false)
find_push q [] x h = at (q x) refl where
  at : (b : Bool) → q x ≡ b → (true ≡ true) × (q x ≡ false)
  at true e = let f : is_none (find q (x ∷ [])) ≡ false = rw e refl in cc
  at false e = (refl, e)
find_push q (y ∷ leases) x h = at (q y) refl (λ g. find_push q leases x g) where
  at : (b : Bool) → q y ≡ b → (is_none (find q (leases ++ x ∷ [])) ≡ true → (is_none (find q leases) ≡ true) × (q x ≡ false)) → (is_none (find q (y ∷ leases)) ≡ true) × (q x ≡ false)
  at true e rest = let f : is_none (find q (y ∷ leases ++ x ∷ [])) ≡ false = rw e refl in cc
  at false e rest = let r = rest (rw e at h) in (rw e r.0, r.1)

find_push_none : (q : Lease → Bool) (leases : List Lease) (x : Lease) → is_none (find q leases) ≡ true → q x ≡ false → is_none (find q (leases ++ x ∷ [])) ≡ true
find_push_none q [] x h f = rw f refl
find_push_none q (y ∷ leases) x h f = at (q y) refl (find_push_none q leases x) where
  at : (b : Bool) → q y ≡ b → (is_none (find q leases) ≡ true → q x ≡ false → is_none (find q (leases ++ x ∷ [])) ≡ true) → is_none (find q (y ∷ leases ++ x ∷ [])) ≡ true
  at true e rest = let g : is_none (find q (y ∷ leases)) ≡ false = rw e refl in cc
  at false e rest = rw e (rest (rw e at h) f)

-- a task that is free is free among fewer leases
find_fewer : (p q : Lease → Bool) (leases : List Lease) → is_none (find q leases) ≡ true → is_none (find q (filter p leases)) ≡ true
find_fewer p q [] h = refl
find_fewer p q (x ∷ leases) h = at (p x) (q x) refl refl (find_fewer p q leases) where
  at : (a b : Bool) → p x ≡ a → q x ≡ b → (is_none (find q leases) ≡ true → is_none (find q (filter p leases)) ≡ true) → is_none (find q (filter p (x ∷ leases))) ≡ true
  at a true i j rest = let f : is_none (find q (x ∷ leases)) ≡ false = rw j refl in cc
  at true false i j rest = rw (i, j) (rest (rw j at h))
  at false false i j rest = rw i (rest (rw j at h))

pub free_fewer : (p : Lease → Bool) (leases : List Lease) (t : Task) → is_free leases t ≡ true → is_free (filter p leases) t ≡ true
free_fewer p leases t h = find_fewer p (λ x. same_task x.task t) leases h

same_turned : (a b : Task) → same_task a b ≡ false → same_task b a ≡ false
same_turned a b h = at (same_task b a) refl where
  at : (c : Bool) → same_task b a ≡ c → c ≡ false
  at true e = let s : same_task a b ≡ true = ap (λ t. same_task t b) (sym (task_is b a e)) ∙ same_self b in cc
  at false e = refl

same_other : (a b : Task) (x : Lease) → same_task a b ≡ false → same_task x.task a ≡ true → not (same_task x.task b) ≡ true
same_other a b x h e = let s : x.task ≡ a = task_is x.task a e in ap (λ t. not (same_task t b)) s ∙ ap not h

-- the lease on a task stays when that on another ends
pub free_others : (leases : List Lease) (task t : Task) → same_task t task ≡ false → is_free (without_task leases task) t ≡ is_free leases t
free_others leases task t h = ap is_none (find_passing (λ x. not (same_task x.task task)) (λ x. same_task x.task t) leases (λ x e. same_other t task x h e))

pub true_or_false : (b : Bool) → b ≡ true → b ≡ false → ⊥
true_or_false true e f = cc
true_or_false false e f = cc

and_parts : (a b : Bool) → (a && b) ≡ true → (a ≡ true) × (b ≡ true)
and_parts true b h = (refl, h)
and_parts false b h = cc

pub and_both : (a b : Bool) → a ≡ true → b ≡ true → (a && b) ≡ true
and_both a b h k = rw (h, k) refl

-- ---- changes

-- other judgings, leases and listed tasks, of the same classes, rows and widths
pub relisted : (rule : RuleValue) (js ks : List Judging) (ls ms : List Lease) (ts us : List JudgingTasks) → IsListed rule js ls ts
    → judging_classes ks ≡ judging_classes js → map row_length ks ≡ map row_length js → listed_classes us ≡ listed_classes ts → widths us ≡ widths ts
    → ((task : Task) → is_open rule ks ms task ≡ true → is_shown us task ≡ true)
    → ((task : Task) → is_shown us task ≡ true → is_open rule ks ms task ≡ true) → IsListed rule ks ms us
relisted rule js ks ls ms ts us h c r d w shown opened = record {
  shown = shown;
  open_ = opened;
  classes = subst (λ (xs : List Class). Begins xs (listed_classes us)) (sym c) (subst (λ (ys : List Class). Begins (judging_classes js) ys) (sym d) h.classes);
  wide = record { each = λ n. omega (arith, h.wide.each n, judged_same js ks n r, listed_same ts us n w) };
}

-- the same tasks are open, and the listed ones are the same
pub same_open : (rule : RuleValue) (js ks : List Judging) (ls ms : List Lease) (ts : List JudgingTasks) → IsListed rule js ls ts
    → judging_classes ks ≡ judging_classes js → map row_length ks ≡ map row_length js → ((task : Task) → is_open rule ks ms task ≡ is_open rule js ls task) → IsListed rule ks ms ts
same_open rule js ks ls ms ts h c r o = relisted rule js ks ls ms ts ts h c r refl refl (λ task t. h.shown task (sym (o task) ∙ t)) (λ task t. o task ∙ h.open_ task t)

-- one task is not open any more and is hidden, and the others are open as they were
pub hidden_listed : (rule : RuleValue) (js : List Judging) (ls ms : List Lease) (ts : List JudgingTasks) (task : Task) → IsListed rule js ls ts → HasTask ts task
    → ((t : Task) → is_open rule js ms t ≡ true → is_open rule js ls t ≡ true) → ((t : Task) → same_task t task ≡ false → is_open rule js ls t ≡ true → is_open rule js ms t ≡ true)
    → is_open rule js ms task ≡ false → IsListed rule js ms (with_shown ts task false)
hidden_listed rule js ls ms ts task h there was still closed =
    relisted rule js js ls ms ts (with_shown ts task false) h refl refl (classes_shown ts task false) (widths_shown ts task false) shown opened where
      shown : (t : Task) → is_open rule js ms t ≡ true → is_shown (with_shown ts task false) t ≡ true
      shown t e = at (same_task t task) refl where
        at : (b : Bool) → same_task t task ≡ b → is_shown (with_shown ts task false) t ≡ true
        at true s = let f : is_open rule js ms t ≡ false = ap (is_open rule js ms) (task_is t task s) ∙ closed in cc
        at false s = shown_other ts task t false there.low s ∙ h.shown t (was t e)

      opened : (t : Task) → is_shown (with_shown ts task false) t ≡ true → is_open rule js ms t ≡ true
      opened t e = at (same_task t task) refl where
        at : (b : Bool) → same_task t task ≡ b → is_open rule js ms t ≡ true
        at true s = let f : is_shown (with_shown ts task false) t ≡ false = ap (is_shown (with_shown ts task false)) (task_is t task s) ∙ shown_here ts task false there in cc
        at false s = still t s (h.open_ t (sym (shown_other ts task t false there.low s) ∙ e))

handed_in : (task t : Task) (leases : List Lease) (host until : ℕ) → is_free (with_lease leases host task until) t ≡ true → (is_free leases t ≡ true) × (same_task task t ≡ false)
handed_in task t leases host until h = find_push (λ x. same_task x.task t) leases (record { host = host; task = task; until = until }) h

-- a task that is handed out is hidden
pub handed_hidden : (rule : RuleValue) (js : List Judging) (ls : List Lease) (ts : List JudgingTasks) (task : Task) (host until : ℕ) → IsListed rule js ls ts → HasTask ts task
    → IsListed rule (with_handed js task) (with_lease ls host task until) (with_shown ts task false)
handed_hidden rule js ls ts task host until h there =
    same_open rule js (with_handed js task) (with_lease ls host task until) (with_lease ls host task until) (with_shown ts task false)
    (hidden_listed rule js ls (with_lease ls host task until) ts task h there fewer others closed)
    (kept_seen (λ j. j.class) js task.judging (mark_handed task.test) (λ j. refl)) (kept_seen row_length js task.judging (mark_handed task.test) (λ j. refl)) (λ t. ap (λ b. b && is_free (with_lease ls host task until) t) (same t)) where
      others : (t : Task) → same_task t task ≡ false → is_open rule js ls t ≡ true → is_open rule js (with_lease ls host task until) t ≡ true
      others t s e =
          let p = and_parts (is_open_in rule t.test (item_of js t.judging)) (is_free ls t) e in
          and_both _ _ p.0 (find_push_none (λ x. same_task x.task t) ls (record { host = host; task = task; until = until }) p.1 (same_turned t task s))

      fewer : (t : Task) → is_open rule js (with_lease ls host task until) t ≡ true → is_open rule js ls t ≡ true
      fewer t e = let p = and_parts (is_open_in rule t.test (item_of js t.judging)) (is_free (with_lease ls host task until) t) e in and_both _ _ p.0 (handed_in task t ls host until p.1).0

      closed : is_open rule js (with_lease ls host task until) task ≡ false
      closed = at (is_open rule js (with_lease ls host task until) task) refl where
        at : (b : Bool) → is_open rule js (with_lease ls host task until) task ≡ b → b ≡ false
        at true e =
            let p = and_parts (is_open_in rule task.test (item_of js task.judging)) (is_free (with_lease ls host task until) task) e in
            let f = (handed_in task task ls host until p.1).1 in let s = same_self task in cc
        at false e = refl

      same : (t : Task) → is_open_in rule t.test (item_of (with_handed js task) t.judging) ≡ is_open_in rule t.test (item_of js t.judging)
      same t = elim (cases_eq task.judging t.judging) [
        | inr other ↦ ap (is_open_in rule t.test) (change_other js task.judging t.judging (mark_handed task.test) other)
        | inl s ↦ marked (item_of js task.judging) refl s
      ] where
        marked : (o : Option Judging) → item_of js task.judging ≡ o → task.judging ≡ t.judging → is_open_in rule t.test (item_of (with_handed js task) t.judging) ≡ is_open_in rule t.test (item_of js t.judging)
        marked None i s = rw i refl
        marked (Some j) i s =
            ap (is_open_in rule t.test) (ap (item_of (with_handed js task)) (sym s) ∙ change_same js task.judging (mark_handed task.test) j i)
            ∙ by_cell (item_of j.row t.test)
            ∙ sym (ap (is_open_in rule t.test) (ap (item_of js) (sym s) ∙ i)) where
              by_cell : (c : Option (Option Kind)) → is_open_cell rule (mark_handed task.test j) t.test c ≡ is_open_cell rule j t.test c
              by_cell None = refl
              by_cell (Some None) = refl
              by_cell (Some (Some k)) = refl

-- ---- results, renewals, and judgings that are dropped

pub cell_there : (js : List Judging) (j test : ℕ) (o : Option Judging) → item_of js j ≡ o → cell_of js j test ≡ Some None → (judging : Judging) × (o ≡ Some judging) × (item_of judging.row test ≡ Some None)
cell_there js j test None e h = let f : cell_of js j test ≡ None = rw e refl in cc
cell_there js j test (Some judging) e h = let f : cell_of js j test ≡ item_of judging.row test = rw e refl in (judging, refl, sym f ∙ h)

-- what is open after a result was open before it
pub result_open : (rule : RuleValue) (js : List Judging) (ls : List Lease) (j test : ℕ) (kind : Kind) → cell_of js j test ≡ Some None → IsPossible rule kind
    → (t : Task) → is_open rule (with_result js j test kind) (without_task ls (task_of j test)) t ≡ true → is_open rule js ls t ≡ true
result_open rule js ls j test kind empty possible t e =
    let at_cell = cell_there js j test (item_of js j) refl empty in
    let p = and_parts (is_open_in rule t.test (item_of (with_result js j test kind) t.judging)) (is_free (without_task ls (task_of j test)) t) e in
    by_judging at_cell.0 at_cell.1 at_cell.2 p.0 p.1 (cases_eq j t.judging) where
      free : same_task t (task_of j test) ≡ false → is_free (without_task ls (task_of j test)) t ≡ true → is_free ls t ≡ true
      free s f = sym (free_others ls (task_of j test) t s) ∙ f

      closed : (judging : Judging) → item_of js j ≡ Some judging → item_of judging.row test ≡ Some None → j ≡ t.judging → t.test ≡ test → is_open_in rule t.test (item_of (with_result js j test kind) t.judging) ≡ false
      closed judging i c s u =
          ap (λ n. is_open_in rule n (item_of (with_result js j test kind) t.judging)) u
          ∙ ap (is_open_in rule test) (ap (item_of (with_result js j test kind)) (sym s) ∙ change_same js j (fill_cell test kind) judging i)
          ∙ ap (is_open_cell rule (fill_cell test kind judging) test) (with_same judging.row test None (Some kind) c)

      cells : (judging : Judging) (o : Option (Option Kind)) → is_open_cell rule (fill_cell test kind judging) t.test o ≡ true → item_of judging.row test ≡ Some None → is_open_cell rule judging t.test o ≡ true
      cells judging None h c = h
      cells judging (Some (Some k)) h c = h
      cells judging (Some None) h c =
          let q = and_parts (is_active judging) (is_wanted rule judging.mode (set judging.row (test - 1) (Some kind)) t.test) h in
          and_both _ _ q.0 (wanted_before rule judging.mode judging.row (test - 1) t.test kind (item_at judging.row test None c).1 possible q.1)

      by_judging : (judging : Judging) → item_of js j ≡ Some judging → item_of judging.row test ≡ Some None → is_open_in rule t.test (item_of (with_result js j test kind) t.judging) ≡ true → is_free (without_task ls (task_of j test)) t ≡ true
          → (j ≡ t.judging) ⊎ (j ≢ t.judging) → is_open rule js ls t ≡ true
      by_judging judging i c o f (inr other) =
          and_both _ _ (sym (ap (is_open_in rule t.test) (change_other js j t.judging (fill_cell test kind) other)) ∙ o) (free (let n : t.judging ≢ j = λ u. other (sym u) in grind (arith, nat_tests, n)) f)
      by_judging judging i c o f (inl s) = by_test (cases_eq t.test test) where
        by_test : (t.test ≡ test) ⊎ (t.test ≢ test) → is_open rule js ls t ≡ true
        by_test (inl u) = let z = closed judging i c s u in cc
        by_test (inr n) =
            let new : item_of (with_result js j test kind) t.judging ≡ Some (fill_cell test kind judging) = ap (item_of (with_result js j test kind)) (sym s) ∙ change_same js j (fill_cell test kind) judging i in
            let cell : item_of (set judging.row (test - 1) (Some kind)) t.test ≡ item_of judging.row t.test = with_other judging.row test t.test (Some kind) (item_at judging.row test None c).0 (λ u. n (sym u)) in
            let old : is_open_in rule t.test (item_of js t.judging) ≡ is_open_cell rule judging t.test (item_of judging.row t.test) = ap (is_open_in rule t.test) (ap (item_of js) (sym s) ∙ i) in
            let now : is_open_cell rule (fill_cell test kind judging) t.test (item_of judging.row t.test) ≡ true = sym (ap (is_open_in rule t.test) new ∙ ap (is_open_cell rule (fill_cell test kind judging) t.test) cell) ∙ o in
            and_both _ _ (old ∙ cells judging (item_of judging.row t.test) now c) (free (let d : t.test ≢ test = n in grind (arith, nat_tests, d)) f)

-- the task of the result is not open any more
pub result_closed : (rule : RuleValue) (js : List Judging) (ls : List Lease) (j test : ℕ) (kind : Kind) → cell_of js j test ≡ Some None → is_open rule (with_result js j test kind) ls (task_of j test) ≡ false
result_closed rule js ls j test kind empty =
    let at_cell = cell_there js j test (item_of js j) refl empty in
    ap (λ b. b && is_free ls (task_of j test))
    (ap (is_open_in rule test) (change_same js j (fill_cell test kind) at_cell.0 at_cell.1)
    ∙ ap (is_open_cell rule (fill_cell test kind at_cell.0) test) (with_same at_cell.0.row test None (Some kind) at_cell.2))

-- a cell is of a test that there is room for
pub cell_room : (js : List Judging) (ts : List JudgingTasks) (j test : ℕ) → AreWide js ts → cell_of js j test ≡ Some None → HasTask ts (task_of j test)
cell_room js ts j test wide empty =
    let at_cell = cell_there js j test (item_of js j) refl empty in
    let t = item_within at_cell.0.row test None at_cell.2 in
    let rows : tests_judged js j ≡ length at_cell.0.row = judged_is js j (length at_cell.0.row) (ap (option_map row_length) at_cell.1) in
    record { low = t.0; high = omega (arith, t.1, rows, wide.each j) }

-- a renewal leaves each task free that was, and no other
renewed_free : (p : Lease → Bool) (until : ℕ) (ls : List Lease) (t : Task) → is_free (map (renew_if p until) ls) t ≡ is_free ls t
renewed_free p until [] t = refl
renewed_free p until (x ∷ ls) t =
    let same : (renew_if p until x).task ≡ x.task = elim (p x) as (λ b. (cond b (record x { until = until }) x).task ≡ x.task) [ true ↦ refl | false ↦ refl ] in
    rw same (elim (same_task x.task t) as (λ b. is_none (cond b (Some (renew_if p until x)) (lease_on (map (renew_if p until) ls) t)) ≡ is_none (cond b (Some x) (lease_on ls t))) [
      | true ↦ refl
      | false ↦ renewed_free p until ls t
    ])

pub renewed_listed : (rule : RuleValue) (js : List Judging) (ls : List Lease) (ts : List JudgingTasks) (host j until : ℕ) → IsListed rule js ls ts → IsListed rule js (renewed_of ls host j until) ts
renewed_listed rule js ls ts host j until h =
    same_open rule js js ls (renewed_of ls host j until) ts h refl refl (λ t.
    ap (λ b. is_open_in rule t.test (item_of js t.judging) && b) (renewed_free (holds_of host j) until ls t))

dropped_cell : (rule : RuleValue) (judging : Judging) (test : ℕ) (o : Option (Option Kind)) → is_open_cell rule (mark_dropped judging) test o ≡ false
dropped_cell rule judging test None = refl
dropped_cell rule judging test (Some None) = refl
dropped_cell rule judging test (Some (Some k)) = refl

dropped_judging : (rule : RuleValue) (js : List Judging) (j test : ℕ) (o : Option Judging) → item_of js j ≡ o → is_open_in rule test (item_of (with_dropped js j) j) ≡ false
dropped_judging rule js j test None i = rw (i, i) refl
dropped_judging rule js j test (Some judging) i = ap (is_open_in rule test) (change_same js j mark_dropped judging i) ∙ dropped_cell rule judging test (item_of judging.row test)

-- a judging that is dropped has no open task, and the leases on the others stay
pub dropped_listed : (rule : RuleValue) (js : List Judging) (ls : List Lease) (ts : List JudgingTasks) (j : ℕ) → IsListed rule js ls ts
    → IsListed rule (with_dropped js j) (without_judging ls j) (with_hidden_behind ts j 0)
dropped_listed rule js ls ts j h =
    relisted rule js (with_dropped js j) ls (without_judging ls j) ts (with_hidden_behind ts j 0) h (kept_seen (λ x. x.class) js j mark_dropped (λ x. refl)) (kept_seen row_length js j mark_dropped (λ x. refl))
    (classes_behind ts j 0) (widths_behind ts j 0) shown opened where
      stays : (t : Task) → j ≢ t.judging → is_free (without_judging ls j) t ≡ is_free ls t
      stays t n = ap is_none (find_passing (λ x. not (eqb x.task.judging j)) (λ x. same_task x.task t) ls (λ x e. let s : x.task ≡ t = task_is x.task t e in ap (λ (k : Task). not (eqb k.judging j)) s ∙ other t n)) where
        other : (t : Task) → j ≢ t.judging → not (eqb t.judging j) ≡ true
        other t n = let m : t.judging ≢ j = λ e. n (sym e) in grind (arith, nat_tests, m)

      same : (t : Task) → j ≢ t.judging → is_open rule (with_dropped js j) (without_judging ls j) t ≡ is_open rule js ls t
      same t n =
          ap (λ b. b && is_free (without_judging ls j) t) (ap (is_open_in rule t.test) (change_other js j t.judging mark_dropped n))
          ∙ ap (λ b. is_open_in rule t.test (item_of js t.judging) && b) (stays t n)

      closed : (t : Task) → j ≡ t.judging → is_open rule (with_dropped js j) (without_judging ls j) t ≡ false
      closed t s = ap (λ b. b && is_free (without_judging ls j) t) (ap (λ n. is_open_in rule t.test (item_of (with_dropped js j) n)) (sym s) ∙ dropped_judging rule js j t.test (item_of js j) refl)

      gone : (t : Task) → j ≡ t.judging → is_shown (with_hidden_behind ts j 0) t ≡ false
      gone t s = ap (λ n. is_shown (with_hidden_behind ts j 0) (task_of n t.test)) (sym s) ∙ at t.test where
        at : (test : ℕ) → is_shown (with_hidden_behind ts j 0) (task_of j test) ≡ false
        at zero = none_at_0 (with_hidden_behind ts j 0) j
        at (suc test) = behind_hidden ts j 0 (suc test) (omega arith)

      shown : (t : Task) → is_open rule (with_dropped js j) (without_judging ls j) t ≡ true → is_shown (with_hidden_behind ts j 0) t ≡ true
      shown t e = elim (cases_eq j t.judging) [
        | inl s ↦ let z = closed t s in cc
        | inr n ↦ behind_other ts j 0 t (λ u. n (sym u)) ∙ h.shown t (sym (same t n) ∙ e)
      ]

      opened : (t : Task) → is_shown (with_hidden_behind ts j 0) t ≡ true → is_open rule (with_dropped js j) (without_judging ls j) t ≡ true
      opened t e = elim (cases_eq j t.judging) [
        | inl s ↦ let z = gone t s in cc
        | inr n ↦ same t n ∙ h.open_ t (sym (behind_other ts j 0 t (λ u. n (sym u))) ∙ e)
      ]

-- ---- a lease ends

-- an open task is one of the judgings', of a test that there is room for
pub open_there : (rule : RuleValue) (js : List Judging) (ls : List Lease) (ts : List JudgingTasks) (t : Task) → AreWide js ts → is_open rule js ls t ≡ true
    → (t.judging ≤ length js) × HasTask ts t
open_there rule js ls ts t wide e =
    let p = and_parts (is_open_in rule t.test (item_of js t.judging)) (is_free ls t) e in
    by_judging (item_of js t.judging) refl p.0 where
      by_cell : (judging : Judging) (o : Option (Option Kind)) → item_of judging.row t.test ≡ o → is_open_cell rule judging t.test o ≡ true → (1 ≤ t.test) × (t.test ≤ length judging.row)
      by_cell judging None c h = cc
      by_cell judging (Some (Some k)) c h = cc
      by_cell judging (Some None) c h = item_within judging.row t.test None c

      by_judging : (o : Option Judging) → item_of js t.judging ≡ o → is_open_in rule t.test o ≡ true → (t.judging ≤ length js) × HasTask ts t
      by_judging None i h = cc
      by_judging (Some judging) i h =
          let n = item_within js t.judging judging i in
          let c = by_cell judging (item_of judging.row t.test) refl h in
          let rows : tests_judged js t.judging ≡ length judging.row = judged_is js t.judging (length judging.row) (ap (option_map row_length) i) in
          (n.1, record { low = c.0; high = omega (arith, c.1, rows, wide.each t.judging) })

ended_open : (rule : RuleValue) (js : List Judging) (ls : List Lease) (task t : Task) → same_task t task ≡ false → is_open rule js (without_task ls task) t ≡ true → is_open rule js ls t ≡ true
ended_open rule js ls task t s e =
    let p = and_parts (is_open_in rule t.test (item_of js t.judging)) (is_free (without_task ls task) t) e in
    and_both _ _ p.0 (sym (free_others ls task t s) ∙ p.1)

ended_still : (rule : RuleValue) (js : List Judging) (ls : List Lease) (task t : Task) → is_open rule js ls t ≡ true → is_open rule js (without_task ls task) t ≡ true
ended_still rule js ls task t e =
    let p = and_parts (is_open_in rule t.test (item_of js t.judging)) (is_free ls t) e in
    and_both _ _ p.0 (free_fewer (λ x. not (same_task x.task task)) ls t p.1)

-- the task whose lease ended is listed if it is open
pub ended_listed : (rule : RuleValue) (js : List Judging) (ls : List Lease) (ts us : List JudgingTasks) (task : Task) → IsListed rule js ls ts
    → IsShownIfOpen rule js (without_task ls task) task ts us → IsListed rule js (without_task ls task) us
ended_listed rule js ls ts us task h a =
    relisted rule js js ls (without_task ls task) ts us h refl refl a.classes a.widths shown opened where
      shown : (t : Task) → is_open rule js (without_task ls task) t ≡ true → is_shown us t ≡ true
      shown t e = at (same_task t task) refl where
        at : (b : Bool) → same_task t task ≡ b → is_shown us t ≡ true
        at true s = let k = task_is t task s in ap (is_shown us) k ∙ a.shown (sym (ap (is_open rule js (without_task ls task)) k) ∙ e)
        at false s = a.others t s ∙ h.shown t (ended_open rule js ls task t s e)

      opened : (t : Task) → is_shown us t ≡ true → is_open rule js (without_task ls task) t ≡ true
      opened t e = at (same_task t task) refl where
        at : (b : Bool) → same_task t task ≡ b → is_open rule js (without_task ls task) t ≡ true
        at true s =
            let k = task_is t task s in
            ap (is_open rule js (without_task ls task)) k ∙ elim (a.open_ (sym (ap (is_shown us) k) ∙ e)) [
              | inl was ↦ ended_still rule js ls task task (h.open_ task was)
              | inr now ↦ now
            ]
        at false s = ended_still rule js ls task t (h.open_ t (sym (a.others t s) ∙ e))

-- a task that is open is listed
pub shown_if_open : (rule : RuleValue) (js : List Judging) (ls : List Lease) (ts : List JudgingTasks) (task : Task) → HasTask ts task → is_open rule js ls task ≡ true
    → IsShownIfOpen rule js ls task ts (with_shown ts task true)
shown_if_open rule js ls ts task there o = record {
  shown = λ e. shown_here ts task true there;
  open_ = λ e. inr o;
  others = λ t s. shown_other ts task t true there.low s;
  classes = classes_shown ts task true;
  widths = widths_shown ts task true;
}

-- one that is not stays as it was
pub kept_if_closed : (rule : RuleValue) (js : List Judging) (ls : List Lease) (ts : List JudgingTasks) (task : Task) → (is_open rule js ls task ≡ true → ⊥) → IsShownIfOpen rule js ls task ts ts
kept_if_closed rule js ls ts task closed = record {
  shown = λ e. absurd (closed e);
  open_ = λ e. inl e;
  others = λ t s. refl;
  classes = refl;
  widths = refl;
}

-- ---- a judging is added

begins_set : (xs ys : List Class) (c : Class) → Begins xs ys → length xs < length ys → Begins (xs ++ c ∷ []) (set ys (length xs) c)
begins_set [] [] c h l = absurd (omega arith)
begins_set [] (y ∷ ys) c h l = (refl, tt)
begins_set (x ∷ xs) [] c h l = absurd h
begins_set (x ∷ xs) (y ∷ ys) c h l = (h.0, begins_set xs ys c h.1 (omega arith))

-- the listed tasks of a judging that is added: those up to a rank, or none where it was not asked for
pub record IsEntered (class : Class) (asked : Bool) (j wanted : ℕ) (old new : List JudgingTasks) : Type 0 where
  pub shown : asked ≡ true → (test : ℕ) → 1 ≤ test → test ≤ wanted → is_shown new (task_of j test) ≡ true
  pub hidden : (test : ℕ) → is_shown new (task_of j test) ≡ true → (asked ≡ true) × (1 ≤ test) × (test ≤ wanted)
  pub others : (t : Task) → t.judging ≢ j → is_shown new t ≡ is_shown old t
  pub classes : listed_classes new ≡ set (listed_classes old) (j - 1) class
  pub widths : widths new ≡ widths old

pub leb_true : (a b : ℕ) → leb a b ≡ true → a ≤ b
leb_true a b h = grind (arith, nat_tests, h)

pub leb_is : (a b : ℕ) → a ≤ b → leb a b ≡ true
leb_is a b h = grind (arith, nat_tests, h)

replicated : {X : Type 0} (n i : ℕ) (x : X) → i < n → slice_get (replicate n x) i ≡ Some x
replicated zero i x l = absurd (omega (arith, l))
replicated (suc n) zero x l = refl
replicated (suc n) (suc i) x l = replicated n i x (omega (arith, l))

-- no lease is held on a task of a judging to come
free_past : (js : List Judging) (ls : List Lease) (t : Task) → length js < t.judging → AreOnEmptyCells js ls → is_free ls t ≡ true
free_past js [] t l h = refl
free_past js (x ∷ ls) t l h = at (same_task x.task t) refl (free_past js ls t l (All-tail (IsOnEmptyCell js) x ls h)) where
  at : (b : Bool) → same_task x.task t ≡ b → is_free ls t ≡ true → is_free (x ∷ ls) t ≡ true
  at true s rest =
      let k : x.task ≡ t = task_is x.task t s in
      let on : cell_of js x.task.judging x.task.test ≡ Some None = All-head (IsOnEmptyCell js) x ls h in
      let none : item_of js x.task.judging ≡ None = ap (λ (u : Task). item_of js u.judging) k ∙ none_past js t.judging l in
      let off : cell_of js x.task.judging x.task.test ≡ None = rw none refl in
      cc
  at false s rest = rw s rest

pub entered_listed : (rule : RuleValue) (js : List Judging) (ls : List Lease) (old new : List JudgingTasks) (class : Class) (mode : Mode) (asked : Bool) (j tests wanted : ℕ) → IsListed rule js ls old
    → length js + 1 ≡ j → j ≤ length old → tests ≤ tests_listed old j → wanted ≤ tests → IsWantedUpTo rule mode (replicate tests None) wanted → AreOnEmptyCells js ls
    → IsEntered class asked j wanted old new → IsListed rule (js ++ empty_judging class tests mode asked ∷ []) ls new
entered_listed rule js ls old new class mode asked j tests wanted h here known room within upto cells e = record {
  shown = shown;
  open_ = opened;
  classes = subst (λ (cs : List Class). Begins cs (listed_classes new)) (sym pushed) (subst (λ (cs : List Class). Begins (judging_classes js ++ class ∷ []) cs) (sym e.classes)
      (subst (λ (n : ℕ). Begins (judging_classes js ++ class ∷ []) (set (listed_classes old) n class)) place
      (begins_set (judging_classes js) (listed_classes old) class h.classes (omega (arith, length-map js (λ x. x.class), length-map old (λ x. x.class), here, known)))));
  wide = record {
    each = λ n. elim (cases_eq n j) [
      | inl same ↦
          let row : tests_judged (js ++ empty_judging class tests mode asked ∷ []) n ≡ tests = judged_is (js ++ empty_judging class tests mode asked ∷ []) n tests
          (ap (λ m. option_map row_length (item_of (js ++ empty_judging class tests mode asked ∷ []) m)) (same ∙ sym here) ∙ ap (option_map row_length) (pushed_last js (empty_judging class tests mode asked)) ∙ ap (λ (m : ℕ). Some m) (length-replicate tests None)) in
          let there : tests_listed new n ≡ tests_listed old j = listed_same old new n e.widths ∙ ap (tests_listed old) same in
          omega (arith, row, there, room)
      | inr other ↦
          let row : tests_judged (js ++ empty_judging class tests mode asked ∷ []) n ≡ tests_judged js n = ap (λ o. option_map_or row_length o 0) (pushed_other js (empty_judging class tests mode asked) n (λ u. other (u ∙ here))) in
          omega (arith, row, listed_same old new n e.widths, h.wide.each n)
    ];
  };
} where
  pushed : judging_classes (js ++ empty_judging class tests mode asked ∷ []) ≡ judging_classes js ++ class ∷ []
  pushed = map_push (λ x. x.class) js (empty_judging class tests mode asked)

  place : length (judging_classes js) ≡ j - 1
  place = let n = length-map js (λ (x : Judging). x.class) in omega (arith, n, here)

  of_row : (t : Task) (o : Option (Option Kind)) → item_of (empty_judging class tests mode asked).row t.test ≡ o → is_open_cell rule (empty_judging class tests mode asked) t.test o ≡ true
      → (1 ≤ t.test) × (t.test ≤ wanted) × (asked ≡ true)
  of_row t None i p = cc
  of_row t (Some (Some k)) i p = cc
  of_row t (Some None) i p =
      let w = item_within (empty_judging class tests mode asked).row t.test None i in
      let q = and_parts asked (is_wanted rule mode (replicate tests None) t.test) p in
      let at = item_at (empty_judging class tests mode asked).row t.test None i in
      (w.0, leb_true t.test wanted (sym (upto t.test w.0 at.1) ∙ q.1), q.0)

  item : (t : Task) → t.judging ≡ j → item_of (js ++ empty_judging class tests mode asked ∷ []) t.judging ≡ Some (empty_judging class tests mode asked)
  item t same = ap (item_of (js ++ empty_judging class tests mode asked ∷ [])) (same ∙ sym here) ∙ pushed_last js (empty_judging class tests mode asked)

  open_other : (t : Task) → t.judging ≢ j → is_open rule (js ++ empty_judging class tests mode asked ∷ []) ls t ≡ is_open rule js ls t
  open_other t other = ap (λ b. b && is_free ls t) (ap (is_open_in rule t.test) (pushed_other js (empty_judging class tests mode asked) t.judging (λ u. other (u ∙ here))))

  shown : (t : Task) → is_open rule (js ++ empty_judging class tests mode asked ∷ []) ls t ≡ true → is_shown new t ≡ true
  shown t o = elim (cases_eq t.judging j) [
    | inl same ↦
        let p = and_parts (is_open_in rule t.test (item_of (js ++ empty_judging class tests mode asked ∷ []) t.judging)) (is_free ls t) o in
        let r = of_row t (item_of (empty_judging class tests mode asked).row t.test) refl (sym (ap (is_open_in rule t.test) (item t same)) ∙ p.0) in
        ap (λ n. is_shown new (task_of n t.test)) same ∙ e.shown r.2 t.test r.0 r.1
    | inr other ↦ e.others t other ∙ h.shown t (sym (open_other t other) ∙ o)
  ]

  opened_row : (t : Task) → asked ≡ true → 1 ≤ t.test → t.test ≤ wanted → is_open_cell rule (empty_judging class tests mode asked) t.test (item_of (replicate tests None) t.test) ≡ true
  opened_row t a low high =
      let cell : slice_get (empty_judging class tests mode asked).row (t.test - 1) ≡ Some None = replicated tests (t.test - 1) None (omega (arith, low, high, within)) in
      let there : item_of (empty_judging class tests mode asked).row t.test ≡ Some None = item_by (empty_judging class tests mode asked).row t.test None (omega (arith, low)) cell in
      ap (is_open_cell rule (empty_judging class tests mode asked) t.test) there
      ∙ and_both asked (is_wanted rule mode (replicate tests None) t.test) a (upto t.test low cell ∙ leb_is t.test wanted high)

  opened : (t : Task) → is_shown new t ≡ true → is_open rule (js ++ empty_judging class tests mode asked ∷ []) ls t ≡ true
  opened t s = elim (cases_eq t.judging j) [
    | inl same ↦
        let r = e.hidden t.test (sym (ap (λ n. is_shown new (task_of n t.test)) same) ∙ s) in
        and_both _ _ (ap (is_open_in rule t.test) (item t same) ∙ opened_row t r.0 r.1 r.2) (free_past js ls t (omega (arith, same, here)) cells)
    | inr other ↦ open_other t other ∙ h.open_ t (sym (e.others t other) ∙ s)
  ]

-- ---- the tasks of a judging are listed one after the other

classes_classed : (ts : List JudgingTasks) (n : ℕ) (class : Class) → 1 ≤ n → n ≤ length ts → listed_classes (with_class ts n class) ≡ set (listed_classes ts) (n - 1) class
classes_classed ts n class low high = at (item_of ts n) refl where
  at : (o : Option JudgingTasks) → item_of ts n ≡ o → listed_classes (with_class ts n class) ≡ set (listed_classes ts) (n - 1) class
  at None e = absurd (item_some ts n low high e)
  at (Some j) e =
      let is : with_class ts n class ≡ set ts (n - 1) (record { class = class; shown = j.shown }) = rw e refl in
      ap listed_classes is ∙ map-set (λ (x : JudgingTasks). x.class) ts (n - 1) (record { class = class; shown = j.shown })

-- its class is set, and none of its tasks is listed
pub entered_class : (class : Class) (n wanted : ℕ) (ts : List JudgingTasks) → 1 ≤ n → n ≤ length ts → ((test : ℕ) → is_shown ts (task_of n test) ≡ false)
    → IsEntered class false n wanted ts (with_class ts n class)
entered_class class n wanted ts low high none = record {
  shown = λ asked test some most. cc;
  hidden = λ test s. let f = none test in let g = shown_classed ts n class (task_of n test) in cc;
  others = λ t other. shown_classed ts n class t;
  classes = classes_classed ts n class low high;
  widths = widths_classed ts n class;
}

-- and then its tests are listed
pub entered_shown : (class : Class) (n wanted : ℕ) (old new : List JudgingTasks) → 1 ≤ n → n ≤ length old → ((test : ℕ) → is_shown old (task_of n test) ≡ false)
    → AreTestsShown n wanted (with_class old n class) new → IsEntered class true n wanted old new
entered_shown class n wanted old new low high none a = record {
  shown = λ asked test some most. a.shown test some most;
  hidden = λ test s. (
    refl,
    some_test test s,
    elim (cases_lt wanted test) [
      | inl behind ↦ let f = none test in let g = shown_classed old n class (task_of n test) in let r = a.rest test behind in cc
      | inr within ↦ omega (arith, within)
    ],
  );
  others = λ t other. a.others t other ∙ shown_classed old n class t;
  classes = a.classes ∙ classes_classed old n class low high;
  widths = a.widths ∙ widths_classed old n class;
} where
  some_test : (test : ℕ) → is_shown new (task_of n test) ≡ true → 1 ≤ test
  some_test zero s = let f = none_at_0 new n in cc
  some_test (suc test) s = omega arith

pub none_shown : (n : ℕ) (ts : List JudgingTasks) → AreTestsShown n 0 ts ts
none_shown n ts = record {
  shown = λ test some none. absurd (omega arith);
  rest = λ test behind. refl;
  others = λ t other. refl;
  classes = refl;
  widths = refl;
}

pub shown_more : (n i : ℕ) (old new : List JudgingTasks) → AreTestsShown n i old new → HasTask new (task_of n (i + 1)) → AreTestsShown n (i + 1) old (with_shown new (task_of n (i + 1)) true)
shown_more n i old new e there = record {
  shown = λ test some most. elim (cases_eq test (i + 1)) [
    | inl same ↦ ap (λ k. is_shown (with_shown new (task_of n (i + 1)) true) (task_of n k)) same ∙ shown_here new (task_of n (i + 1)) true there
    | inr other ↦ shown_other new (task_of n (i + 1)) (task_of n test) true there.low (let d : test ≢ i + 1 = other in grind (arith, nat_tests, d)) ∙ e.shown test some (omega (arith, other, most))
  ];
  rest = λ test behind.
      let d : test ≢ i + 1 = omega (arith, behind) in
      shown_other new (task_of n (i + 1)) (task_of n test) true there.low (grind (arith, nat_tests, d)) ∙ e.rest test (omega (arith, behind));
  others = λ t other. shown_other new (task_of n (i + 1)) t true there.low (let d : t.judging ≢ n = other in grind (arith, nat_tests, d)) ∙ e.others t other;
  classes = classes_shown new (task_of n (i + 1)) true ∙ e.classes;
  widths = widths_shown new (task_of n (i + 1)) true ∙ e.widths;
}

-- ---- a judging is asked for

-- an open task of a judging that was asked for is one of its tests
asked_within : (rule : RuleValue) (js : List Judging) (ls : List Lease) (j tests : ℕ) (t : Task) → option_map row_length (item_of js j) ≡ Some tests → t.judging ≡ j
    → is_open rule (with_asked js j) ls t ≡ true → (1 ≤ t.test) × (t.test ≤ tests)
asked_within rule js ls j tests t rows same e =
    let p = and_parts (is_open_in rule t.test (item_of (with_asked js j) t.judging)) (is_free ls t) e in
    by_judging (item_of js j) refl rows (sym (ap (λ n. is_open_in rule t.test (item_of (with_asked js j) n)) same) ∙ p.0) where
      by_cell : (judging : Judging) (o : Option (Option Kind)) → item_of judging.row t.test ≡ o → is_open_cell rule (mark_asked judging) t.test o ≡ true → (1 ≤ t.test) × (t.test ≤ length judging.row)
      by_cell judging None c h = cc
      by_cell judging (Some (Some k)) c h = cc
      by_cell judging (Some None) c h = item_within judging.row t.test None c

      by_judging : (o : Option Judging) → item_of js j ≡ o → option_map row_length o ≡ Some tests → is_open_in rule t.test (item_of (with_asked js j) j) ≡ true → (1 ≤ t.test) × (t.test ≤ tests)
      by_judging None i r h = cc
      by_judging (Some judging) i r h =
          let n : length judging.row ≡ tests = cc in
          let w = by_cell judging (item_of judging.row t.test) refl (sym (ap (is_open_in rule t.test) (change_same js j mark_asked judging i)) ∙ h) in
          (w.0, omega (arith, w.1, n))

-- asking changes no row
pub asked_row : (js : List Judging) (j : ℕ) → option_map row_length (item_of js j) ≡ option_map row_length (item_of (with_asked js j) j)
asked_row js j = at (item_of js j) refl where
  at : (o : Option Judging) → item_of js j ≡ o → option_map row_length o ≡ option_map row_length (item_of (with_asked js j) j)
  at None i = rw (i, i) refl
  at (Some judging) i = sym (ap (option_map row_length) (change_same js j mark_asked judging i))

-- no task of a judging is listed that was not asked for
pub none_unasked : (rule : RuleValue) (js : List Judging) (ls : List Lease) (ts : List JudgingTasks) (j : ℕ) → IsListed rule js ls ts → is_asked js j ≡ false
    → (test : ℕ) → is_shown ts (task_of j test) ≡ false
none_unasked rule js ls ts j h waits test = at (is_shown ts (task_of j test)) refl where
  by_cell : (judging : Judging) (o : Option (Option Kind)) → judging.asked ≡ false → is_open_cell rule judging test o ≡ false
  by_cell judging None a = refl
  by_cell judging (Some (Some k)) a = refl
  by_cell judging (Some None) a = ap (λ b. not judging.dropped && b && is_wanted rule judging.mode judging.row test) a ∙ none_of (not judging.dropped) where
    none_of : (d : Bool) → (d && false && is_wanted rule judging.mode judging.row test) ≡ false
    none_of true = refl
    none_of false = refl

  closed : (o : Option Judging) → item_of js j ≡ o → is_open_in rule test (item_of js j) ≡ false
  closed None i = rw i refl
  closed (Some judging) i =
      let a : judging.asked ≡ false = sym (ap (λ (o : Option Judging). unwrap_or (option_map (λ (x : Judging). x.asked) o) false) i) ∙ waits in
      ap (is_open_in rule test) i ∙ by_cell judging (item_of judging.row test) a

  at : (b : Bool) → is_shown ts (task_of j test) ≡ b → b ≡ false
  at true e =
      let p = and_parts (is_open_in rule test (item_of js j)) (is_free ls (task_of j test)) (h.open_ (task_of j test) e) in
      let f = closed (item_of js j) refl in
      let g = p.0 in cc
  at false e = refl

pub none_open_shown : (rule : RuleValue) (js : List Judging) (ls : List Lease) (n : ℕ) (ts : List JudgingTasks) → ((test : ℕ) → is_shown ts (task_of n test) ≡ false) → AreOpenShown rule js ls n 0 ts ts
none_open_shown rule js ls n ts none = record {
  shown = λ test some most o. absurd (omega (arith, some, most));
  open_ = λ test s. let f = none test in cc;
  others = λ t other. refl;
  classes = refl;
  widths = refl;
}

pub open_shown_more : (rule : RuleValue) (js : List Judging) (ls : List Lease) (n i : ℕ) (old mid new : List JudgingTasks) → AreOpenShown rule js ls n i old mid
    → IsShownIfOpen rule js ls (task_of n (i + 1)) mid new → AreOpenShown rule js ls n (i + 1) old new
open_shown_more rule js ls n i old mid new e a = record {
  shown = λ test some most o. elim (cases_eq test (i + 1)) [
    | inl same ↦ ap (λ k. is_shown new (task_of n k)) same ∙ a.shown (sym (ap (λ k. is_open rule js ls (task_of n k)) same) ∙ o)
    | inr other ↦ a.others (task_of n test) (let d : test ≢ i + 1 = other in grind (arith, nat_tests, d)) ∙ e.shown test some (omega (arith, other, most)) o
  ];
  open_ = λ test s. elim (cases_eq test (i + 1)) [
    | inl same ↦ ap (λ k. is_open rule js ls (task_of n k)) same ∙ elim (a.open_ (sym (ap (λ k. is_shown new (task_of n k)) same) ∙ s)) [
      | inl was ↦ e.open_ (i + 1) was
      | inr now ↦ now
    ]
    | inr other ↦ e.open_ test (sym (a.others (task_of n test) (let d : test ≢ i + 1 = other in grind (arith, nat_tests, d))) ∙ s)
  ];
  others = λ t other. a.others t (let d : t.judging ≢ n = other in grind (arith, nat_tests, d)) ∙ e.others t other;
  classes = a.classes ∙ e.classes;
  widths = a.widths ∙ e.widths;
}

pub wide_kept : (js : List Judging) (old new : List JudgingTasks) → widths new ≡ widths old → AreWide js old → AreWide js new
wide_kept js old new e h = record { each = λ n. omega (arith, h.each n, listed_same old new n e) }

-- asking changes no number of tests
pub asked_wide : (js : List Judging) (ts : List JudgingTasks) (j : ℕ) → AreWide js ts → AreWide (with_asked js j) ts
asked_wide js ts j h = record { each = λ n. omega (arith, h.each n, judged_same js (with_asked js j) n (kept_seen row_length js j mark_asked (λ x. refl))) }

-- once its open tests are listed
pub asked_listed : (rule : RuleValue) (js : List Judging) (ls : List Lease) (ts us : List JudgingTasks) (j tests : ℕ) → IsListed rule js ls ts
    → option_map row_length (item_of js j) ≡ Some tests → AreOpenShown rule (with_asked js j) ls j tests ts us → IsListed rule (with_asked js j) ls us
asked_listed rule js ls ts us j tests h rows a =
    relisted rule js (with_asked js j) ls ls ts us h (kept_seen (λ x. x.class) js j mark_asked (λ x. refl)) (kept_seen row_length js j mark_asked (λ x. refl)) a.classes a.widths shown opened where
      same : (t : Task) → t.judging ≢ j → is_open rule (with_asked js j) ls t ≡ is_open rule js ls t
      same t other = ap (λ b. b && is_free ls t) (ap (is_open_in rule t.test) (change_other js j t.judging mark_asked (λ u. other (sym u))))

      shown : (t : Task) → is_open rule (with_asked js j) ls t ≡ true → is_shown us t ≡ true
      shown t e = elim (cases_eq t.judging j) [
        | inl here ↦
            let w = asked_within rule js ls j tests t rows here e in
            ap (λ n. is_shown us (task_of n t.test)) here ∙ a.shown t.test w.0 w.1 (sym (ap (λ n. is_open rule (with_asked js j) ls (task_of n t.test)) here) ∙ e)
        | inr other ↦ a.others t other ∙ h.shown t (sym (same t other) ∙ e)
      ]

      opened : (t : Task) → is_shown us t ≡ true → is_open rule (with_asked js j) ls t ≡ true
      opened t e = elim (cases_eq t.judging j) [
        | inl here ↦ ap (λ n. is_open rule (with_asked js j) ls (task_of n t.test)) here ∙ a.open_ t.test (sym (ap (λ n. is_shown us (task_of n t.test)) here) ∙ e)
        | inr other ↦ same t other ∙ h.open_ t (sym (a.others t other) ∙ e)
      ]

-- a task of a judging that there is room for
pub room_for : (n test tests : ℕ) (old new : List JudgingTasks) → widths new ≡ widths old → tests ≤ tests_listed old n → 1 ≤ test → test ≤ tests → HasTask new (task_of n test)
room_for n test tests old new e room some most = record { low = some; high = omega (arith, most, room, listed_same old new n e) }

-- ---- in a judge

pub count_is : (js : List KeptJudging) → length (judging_values js) ≡ length js
count_is js = length-map js judging_value

-- behind the judgings nothing is listed
pub none_listed_past : (rule : RuleValue) (js : List Judging) (ls : List Lease) (ts : List JudgingTasks) (t : Task) → IsListed rule js ls ts → length js < t.judging → is_shown ts t ≡ false
none_listed_past rule js ls ts t h l = at (is_shown ts t) refl where
  at : (b : Bool) → is_shown ts t ≡ b → b ≡ false
  at true e = let w = (open_there rule js ls ts t h.wide (h.open_ t e)).0 in absurd (omega (arith, w, l))
  at false e = refl

-- a judging that is added has a row of empty cells
pub row_size : (kept : KeptJudging) (class : Class) (tests : ℕ) (mode : Mode) (asked : Bool) → judging_value kept ≡ empty_judging class tests mode asked → length kept.row.cells ≡ tests
row_size kept class tests mode asked e = ap (λ (j : Judging). length j.row) e ∙ length-replicate tests None

pub wanted_of_new : (rule : RuleValue) (kept : KeptJudging) (class : Class) (tests : ℕ) (mode : Mode) (asked : Bool) (last : ℕ) → kept.row.rule ≡ rule → judging_value kept ≡ empty_judging class tests mode asked
    → IsWantedUpTo kept.row.rule kept.mode kept.row.cells last → IsWantedUpTo rule mode (replicate tests None) last
wanted_of_new rule kept class tests mode asked last by e h =
    subst (λ (j : Judging). IsWantedUpTo rule j.mode j.row last) e (subst (λ (r : RuleValue). IsWantedUpTo r kept.mode kept.row.cells last) by h)

-- the judgings are seen through a slice
pub listed_seen : (rule : RuleValue) (seen js : List KeptJudging) (ls ms : List Lease) (old new : List JudgingTasks) → seen ≡ js
    → ((r : RuleValue) → AreRuledBy r seen → IsListed r (judging_values seen) ls old → IsListed r (judging_values seen) ms new)
    → AreRuledBy rule js → IsListed rule (judging_values js) ls old → IsListed rule (judging_values js) ms new
listed_seen rule seen js ls ms old new e kept ruled h =
    subst (λ (xs : List KeptJudging). IsListed rule (judging_values xs) ms new) e
    (kept rule (subst (AreRuledBy rule) (sym e) ruled) (subst (λ (xs : List KeptJudging). IsListed rule (judging_values xs) ls old) (sym e) h))

pub shown_seen : (rule : RuleValue) (seen js : List KeptJudging) (values : List Judging) (ls : List Lease) (n tests : ℕ) (old new : List JudgingTasks) → seen ≡ js → judging_values js ≡ values
    → ((r : RuleValue) → AreRuledBy r seen → AreWide (judging_values seen) old → AreOpenShown r (judging_values seen) ls n tests old new)
    → AreRuledBy rule js → AreWide values old → AreOpenShown rule values ls n tests old new
shown_seen rule seen js values ls n tests old new e v shown ruled wide =
    let value : judging_values seen ≡ values = ap judging_values e ∙ v in
    subst (λ (xs : List Judging). AreOpenShown rule xs ls n tests old new) value
    (shown rule (subst (AreRuledBy rule) (sym e) ruled) (subst (λ (xs : List Judging). AreWide xs old) (sym value) wide))

-- of no judgings none is listed
pub nothing_listed : (rule : RuleValue) → IsListed rule [] [] []
nothing_listed rule = record {
  shown = λ t e. let w = none_open t in cc;
  open_ = λ t e. let f = nothing_shown t in cc;
  classes = tt;
  wide = record { each = none_judged };
} where
  none_there : {X : Type 0} (n : ℕ) → item_of {X = X} [] n ≡ None
  none_there zero = refl
  none_there (suc n) = let yes : ltb 0 (suc n) ≡ true = grind (arith, nat_tests) in rw yes refl

  none_judged : (n : ℕ) → tests_judged [] n ≤ tests_listed [] n
  none_judged n = let z : tests_judged [] n ≡ 0 = rw (none_there {X = Judging} n) refl in omega (arith, z)

  none_open : (t : Task) → is_open rule [] [] t ≡ false
  none_open t = rw (none_there {X = Judging} t.judging) refl
