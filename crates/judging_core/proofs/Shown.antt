-- Listed tasks that are shown or hidden, and judgings that are added to the list or get room for more tests.
use Rattle.std.proofs.Common.{ℕ, zero, suc, ◌≡◌, ◌≢◌, ◌+◌, ◌-◌, ◌<◌, ◌≤◌, List, [], ◌∷◌, ◌++◌, Option, Some, None, Bool, true, false, ltb, refl, sym, ap, subst, ◌∙◌, arith, inl, inr, length, map, slice_get, unwrap_or, length-set}
use Rattle.std.specs.Prelude.{replicate}
use Rattle.std.specs.Option.{option_map, option_map_or}
use Rattle.std.proofs.lemmas.Bool.{cases_eq, cases_lt}
use Rattle.std.proofs.lemmas.Bool.Decides.{nat_tests}
use Rattle.std.proofs.lemmas.List.{length-append, length-replicate, length-map}
use Rattle.farm_kinds.specs.declared.outcomes.Class.{Class}
use Rattle.farm_kinds.specs.declared.outcomes.Task.{Task}
use Rattle.farm_model.specs.Numbered.{item_of, with_item}
use Rattle.farm_model.specs.Leases.{same_task}
use Rattle.farm_model.specs.Judgings.{Judging, task_of}
use Rattle.task_tree.specs.Shown.{JudgingTasks, hidden, hidden_behind, tests_listed, is_shown, with_shown, with_hidden_behind, with_class, with_room, widened, HasTask}
use Rattle.judging_core.specs.Listed.{listed_classes, widths, tests_judged}
use Rattle.judging_core.specs.JudgeShape.{row_length}
use Rattle.judging_core.proofs.Items.{item_seen, item_by, with_same, with_other, change_same, change_other, kept_seen, pushed_other, pushed_last, none_past, item_some}

-- another task of the same judging is of another test
pub apart : (a b : Task) → same_task a b ≡ false → a.judging ≡ b.judging → a.test ≢ b.test
apart a b h j t = let s : same_task a b ≡ true = grind (arith, nat_tests, j, t) in cc

abbrev shown_by : Option JudgingTasks → ℕ → Bool
shown_by o test = unwrap_or (item_of (option_map_or (λ (j : JudgingTasks). j.shown) o []) test) false

pub shown_other : (tasks : List JudgingTasks) (task t : Task) (b : Bool) → 1 ≤ task.test → same_task t task ≡ false → is_shown (with_shown tasks task b) t ≡ is_shown tasks t
shown_other tasks task t b low h = elim (cases_eq task.judging t.judging) [
  | inr other ↦ ap (λ o. shown_by o t.test) (change_other tasks task.judging t.judging _ other)
  | inl same ↦ here (item_of tasks task.judging) refl same
] where
  here : (o : Option JudgingTasks) → item_of tasks task.judging ≡ o → task.judging ≡ t.judging → is_shown (with_shown tasks task b) t ≡ is_shown tasks t
  here None e same = rw e refl
  here (Some j) e same =
      let differ : task.test ≢ t.test = λ u. apart t task h (sym same) (sym u) in
      let new : item_of (with_shown tasks task b) t.judging ≡ Some (record j { shown = with_item j.shown task.test b }) = ap (item_of (with_shown tasks task b)) (sym same) ∙ change_same tasks task.judging _ j e in
      let old : item_of tasks t.judging ≡ Some j = ap (item_of tasks) (sym same) ∙ e in
      ap (λ o. shown_by o t.test) new
      ∙ ap (λ (o : Option Bool). unwrap_or o false) (with_other j.shown task.test t.test b (omega (arith, low)) differ)
      ∙ sym (ap (λ o. shown_by o t.test) old)

some_bit : (xs : List Bool) (i : ℕ) → i < length xs → (x : Bool) × (slice_get xs i ≡ Some x)
some_bit [] i l = absurd (omega arith)
some_bit (x ∷ xs) zero l = (x, refl)
some_bit (x ∷ xs) (suc i) l = some_bit xs i (omega arith)

there : (tasks : List JudgingTasks) (task : Task) → HasTask tasks task → (o : Option JudgingTasks) → item_of tasks task.judging ≡ o → (j : JudgingTasks) × (o ≡ Some j) × (task.test ≤ length j.shown)
there tasks task h None e = let z : tests_listed tasks task.judging ≡ 0 = rw e refl in absurd (omega (arith, z, h.low, h.high))
there tasks task h (Some j) e = let z : tests_listed tasks task.judging ≡ length j.shown = rw e refl in (j, refl, omega (arith, z, h.high))

pub shown_here : (tasks : List JudgingTasks) (task : Task) (b : Bool) → HasTask tasks task → is_shown (with_shown tasks task b) task ≡ b
shown_here tasks task b h =
    let a = there tasks task h (item_of tasks task.judging) refl in
    let bit = some_bit a.0.shown (task.test - 1) (omega (arith, h.low, a.2)) in
    ap (λ o. shown_by o task.test) (change_same tasks task.judging _ a.0 a.1)
    ∙ ap (λ (o : Option Bool). unwrap_or o false) (with_same a.0.shown task.test bit.0 b (item_by a.0.shown task.test bit.0 (omega (arith, h.low)) bit.1))

pub classes_shown : (tasks : List JudgingTasks) (task : Task) (b : Bool) → listed_classes (with_shown tasks task b) ≡ listed_classes tasks
classes_shown tasks task b = kept_seen (λ j. j.class) tasks task.judging (λ j. record j { shown = with_item j.shown task.test b }) (λ j. refl)

pub widths_shown : (tasks : List JudgingTasks) (task : Task) (b : Bool) → widths (with_shown tasks task b) ≡ widths tasks
widths_shown tasks task b = kept_seen (λ j. length j.shown) tasks task.judging (λ j. record j { shown = with_item j.shown task.test b }) (λ j. length-set j.shown (task.test - 1) b)

size_of : (tasks : List JudgingTasks) → length (widths tasks) ≡ length tasks
size_of tasks = length-map tasks (λ j. length j.shown)

pub same_size : (old new : List JudgingTasks) → widths new ≡ widths old → length new ≡ length old
same_size old new e = omega (arith, size_of new, size_of old, ap length e)

-- ---- how many tests a judging has, and has room for

abbrev width_in : Option JudgingTasks → ℕ
width_in o = option_map_or (λ (j : JudgingTasks). length j.shown) o 0

abbrev tests_in : Option Judging → ℕ
tests_in o = option_map_or row_length o 0

by_width : (o : Option JudgingTasks) → width_in o ≡ unwrap_or (option_map (λ (j : JudgingTasks). length j.shown) o) 0
by_width None = refl
by_width (Some j) = refl

by_tests : (o : Option Judging) → tests_in o ≡ unwrap_or (option_map row_length o) 0
by_tests None = refl
by_tests (Some j) = refl

listed_by : (tasks : List JudgingTasks) (n : ℕ) → tests_listed tasks n ≡ unwrap_or (item_of (widths tasks) n) 0
listed_by tasks n = by_width (item_of tasks n) ∙ ap (λ (o : Option ℕ). unwrap_or o 0) (sym (item_seen (λ j. length j.shown) tasks n))

judged_by : (js : List Judging) (n : ℕ) → tests_judged js n ≡ unwrap_or (item_of (map row_length js) n) 0
judged_by js n = by_tests (item_of js n) ∙ ap (λ (o : Option ℕ). unwrap_or o 0) (sym (item_seen row_length js n))

pub listed_same : (old new : List JudgingTasks) (n : ℕ) → widths new ≡ widths old → tests_listed new n ≡ tests_listed old n
listed_same old new n e = listed_by new n ∙ ap (λ (ws : List ℕ). unwrap_or (item_of ws n) 0) e ∙ sym (listed_by old n)

pub judged_same : (js ks : List Judging) (n : ℕ) → map row_length ks ≡ map row_length js → tests_judged ks n ≡ tests_judged js n
judged_same js ks n e = judged_by ks n ∙ ap (λ (ws : List ℕ). unwrap_or (item_of ws n) 0) e ∙ sym (judged_by js n)

pub judged_is : (js : List Judging) (n tests : ℕ) → option_map row_length (item_of js n) ≡ Some tests → tests_judged js n ≡ tests
judged_is js n tests e = by_tests (item_of js n) ∙ ap (λ (o : Option ℕ). unwrap_or o 0) e

-- ---- a judging with no shown task is added, or changes its class

none_shown : (n i : ℕ) → unwrap_or (slice_get (replicate n false) i) false ≡ false
none_shown zero i = refl
none_shown (suc n) zero = refl
none_shown (suc n) (suc i) = none_shown n i

no_test : (n test : ℕ) → unwrap_or (item_of (replicate n false) test) false ≡ false
no_test n zero = refl
no_test n (suc test) =
    let yes : ltb 0 (suc test) ≡ true = grind (arith, nat_tests) in
    rw yes (none_shown n (suc test - 1))

nothing_in : (test : ℕ) → unwrap_or (item_of {X = Bool} [] test) false ≡ false
nothing_in zero = refl
nothing_in (suc test) = let yes : ltb 0 (suc test) ≡ true = grind (arith, nat_tests) in rw yes refl

-- of a judging that is not there no task is shown
pub past_hidden : (tasks : List JudgingTasks) (task : Task) → length tasks < task.judging → is_shown tasks task ≡ false
past_hidden tasks task l = ap (λ o. shown_by o task.test) (none_past tasks task.judging l) ∙ nothing_in task.test

pub shown_pushed : (tasks : List JudgingTasks) (class : Class) (tests : ℕ) (task : Task) → is_shown (tasks ++ hidden class tests ∷ []) task ≡ is_shown tasks task
shown_pushed tasks class tests task = elim (cases_eq task.judging (length tasks + 1)) [
  | inr other ↦ ap (λ o. shown_by o task.test) (pushed_other tasks (hidden class tests) task.judging other)
  | inl same ↦
      ap (λ o. shown_by o task.test) (ap (item_of (tasks ++ hidden class tests ∷ [])) same ∙ pushed_last tasks (hidden class tests))
      ∙ no_test tests task.test
      ∙ sym (past_hidden tasks task (omega (arith, same)))
]

pub listed_pushed : (tasks : List JudgingTasks) (class : Class) (tests n : ℕ) → n ≢ length tasks + 1 → tests_listed (tasks ++ hidden class tests ∷ []) n ≡ tests_listed tasks n
listed_pushed tasks class tests n other = ap width_in (pushed_other tasks (hidden class tests) n other)

pub listed_last : (tasks : List JudgingTasks) (class : Class) (tests : ℕ) → tests_listed (tasks ++ hidden class tests ∷ []) (length tasks + 1) ≡ tests
listed_last tasks class tests = ap width_in (pushed_last tasks (hidden class tests)) ∙ length-replicate tests false

-- a judging that is not there has room for no test
pub listed_past : (tasks : List JudgingTasks) (n : ℕ) → length tasks < n → tests_listed tasks n ≡ 0
listed_past tasks n l = ap width_in (none_past tasks n l)

pub shown_classed : (tasks : List JudgingTasks) (n : ℕ) (class : Class) (task : Task) → is_shown (with_class tasks n class) task ≡ is_shown tasks task
shown_classed tasks n class task = elim (cases_eq n task.judging) [
  | inr other ↦ ap (λ o. shown_by o task.test) (change_other tasks n task.judging _ other)
  | inl same ↦ here (item_of tasks n) refl same
] where
  here : (o : Option JudgingTasks) → item_of tasks n ≡ o → n ≡ task.judging → is_shown (with_class tasks n class) task ≡ is_shown tasks task
  here None e same = rw e refl
  here (Some j) e same =
      ap (λ o. shown_by o task.test) (ap (item_of (with_class tasks n class)) (sym same) ∙ change_same tasks n _ j e)
      ∙ sym (ap (λ o. shown_by o task.test) (ap (item_of tasks) (sym same) ∙ e))

pub widths_classed : (tasks : List JudgingTasks) (n : ℕ) (class : Class) → widths (with_class tasks n class) ≡ widths tasks
widths_classed tasks n class = kept_seen (λ j. length j.shown) tasks n (λ j. record j { class = class }) (λ j. refl)

-- ---- a judging gets room for more tests

more_get : (bits : List Bool) (k i : ℕ) → unwrap_or (slice_get (bits ++ replicate k false) i) false ≡ unwrap_or (slice_get bits i) false
more_get [] k i = none_shown k i
more_get (x ∷ bits) k zero = refl
more_get (x ∷ bits) k (suc i) = more_get bits k i

more_tests : (bits : List Bool) (k test : ℕ) → unwrap_or (item_of (bits ++ replicate k false) test) false ≡ unwrap_or (item_of bits test) false
more_tests bits k zero = refl
more_tests bits k (suc test) =
    let yes : ltb 0 (suc test) ≡ true = grind (arith, nat_tests) in
    rw yes (more_get bits k (suc test - 1))

pub shown_widened : (tasks : List JudgingTasks) (n tests : ℕ) (task : Task) → is_shown (with_room tasks n tests) task ≡ is_shown tasks task
shown_widened tasks n tests task = elim (cases_eq n task.judging) [
  | inr other ↦ ap (λ o. shown_by o task.test) (change_other tasks n task.judging _ other)
  | inl same ↦ here (item_of tasks n) refl same
] where
  here : (o : Option JudgingTasks) → item_of tasks n ≡ o → n ≡ task.judging → is_shown (with_room tasks n tests) task ≡ is_shown tasks task
  here None e same = rw e refl
  here (Some j) e same =
      ap (λ o. shown_by o task.test) (ap (item_of (with_room tasks n tests)) (sym same) ∙ change_same tasks n _ j e)
      ∙ more_tests j.shown (tests - length j.shown) task.test
      ∙ sym (ap (λ o. shown_by o task.test) (ap (item_of tasks) (sym same) ∙ e))

pub classes_widened : (tasks : List JudgingTasks) (n tests : ℕ) → listed_classes (with_room tasks n tests) ≡ listed_classes tasks
classes_widened tasks n tests = kept_seen (λ j. j.class) tasks n (widened tests) (λ j. refl)

pub size_widened : (tasks : List JudgingTasks) (n tests : ℕ) → length (with_room tasks n tests) ≡ length tasks
size_widened tasks n tests = sym (length-map (with_room tasks n tests) (λ j. j.class)) ∙ ap length (classes_widened tasks n tests) ∙ length-map tasks (λ j. j.class)

width_is : (j : JudgingTasks) (tests : ℕ) → length (widened tests j).shown ≡ length j.shown + (tests - length j.shown)
width_is j tests = length-append j.shown (replicate (tests - length j.shown) false) ∙ ap (λ (k : ℕ). length j.shown + k) (length-replicate (tests - length j.shown) false)

pub listed_widened : (tasks : List JudgingTasks) (n tests m : ℕ) → tests_listed tasks m ≤ tests_listed (with_room tasks n tests) m
listed_widened tasks n tests m = elim (cases_eq n m) [
  | inr other ↦ let same : tests_listed (with_room tasks n tests) m ≡ tests_listed tasks m = ap width_in (change_other tasks n m _ other) in omega (arith, same)
  | inl same ↦ subst (λ (k : ℕ). tests_listed tasks k ≤ tests_listed (with_room tasks n tests) k) same (here (item_of tasks n) refl)
] where
  here : (o : Option JudgingTasks) → item_of tasks n ≡ o → tests_listed tasks n ≤ tests_listed (with_room tasks n tests) n
  here None e = let old : tests_listed tasks n ≡ 0 = ap width_in e in omega (arith, old)
  here (Some j) e =
      let old : tests_listed tasks n ≡ length j.shown = ap width_in e in
      let new : tests_listed (with_room tasks n tests) n ≡ length j.shown + (tests - length j.shown) = ap width_in (change_same tasks n _ j e) ∙ width_is j tests in
      omega (arith, old, new)

pub room_widened : (tasks : List JudgingTasks) (n tests : ℕ) → 1 ≤ n → n ≤ length tasks → tests ≤ tests_listed (with_room tasks n tests) n
room_widened tasks n tests low high = here (item_of tasks n) refl where
  here : (o : Option JudgingTasks) → item_of tasks n ≡ o → tests ≤ tests_listed (with_room tasks n tests) n
  here None e = absurd (item_some tasks n low high e)
  here (Some j) e =
      let new : tests_listed (with_room tasks n tests) n ≡ length j.shown + (tests - length j.shown) = ap width_in (change_same tasks n _ j e) ∙ width_is j tests in
      omega (arith, new)

-- ---- the tasks of a judging are hidden behind a rank

kept_bit : (rank : ℕ) (xs : List Bool) (i : ℕ) → i < rank → slice_get (hidden_behind rank xs) i ≡ slice_get xs i
kept_bit zero xs i l = absurd (omega (arith, l))
kept_bit (suc rank) [] i l = refl
kept_bit (suc rank) (x ∷ xs) zero l = refl
kept_bit (suc rank) (x ∷ xs) (suc i) l = kept_bit rank xs i (omega (arith, l))

gone_bit : (rank : ℕ) (xs : List Bool) (i : ℕ) → rank ≤ i → unwrap_or (slice_get (hidden_behind rank xs) i) false ≡ false
gone_bit zero xs i l = none_shown (length xs) i
gone_bit (suc rank) [] i l = refl
gone_bit (suc rank) (x ∷ xs) zero l = absurd (omega (arith, l))
gone_bit (suc rank) (x ∷ xs) (suc i) l = gone_bit rank xs i (omega (arith, l))

kept_test : (rank : ℕ) (xs : List Bool) (test : ℕ) → test ≤ rank → item_of (hidden_behind rank xs) test ≡ item_of xs test
kept_test rank xs zero l = refl
kept_test rank xs (suc test) l =
    let yes : ltb 0 (suc test) ≡ true = grind (arith, nat_tests) in
    rw yes (kept_bit rank xs (suc test - 1) (omega (arith, l)))

gone_test : (rank : ℕ) (xs : List Bool) (test : ℕ) → rank < test → unwrap_or (item_of (hidden_behind rank xs) test) false ≡ false
gone_test rank xs zero l = absurd (omega (arith, l))
gone_test rank xs (suc test) l =
    let yes : ltb 0 (suc test) ≡ true = grind (arith, nat_tests) in
    rw yes (gone_bit rank xs (suc test - 1) (omega (arith, l)))

width_behind : (rank : ℕ) (xs : List Bool) → length (hidden_behind rank xs) ≡ length xs
width_behind zero xs = length-replicate (length xs) false
width_behind (suc rank) [] = refl
width_behind (suc rank) (x ∷ xs) = ap suc (width_behind rank xs)

-- a task of another judging, or of a rank before it, stays as it was
pub behind_other : (tasks : List JudgingTasks) (n rank : ℕ) (task : Task) → task.judging ≢ n → is_shown (with_hidden_behind tasks n rank) task ≡ is_shown tasks task
behind_other tasks n rank task other = ap (λ o. shown_by o task.test) (change_other tasks n task.judging _ (λ e. other (sym e)))

pub behind_kept : (tasks : List JudgingTasks) (n rank : ℕ) (task : Task) → task.test ≤ rank → is_shown (with_hidden_behind tasks n rank) task ≡ is_shown tasks task
behind_kept tasks n rank task l = elim (cases_eq n task.judging) [
  | inr other ↦ behind_other tasks n rank task (λ e. other (sym e))
  | inl same ↦ here (item_of tasks n) refl same
] where
  here : (o : Option JudgingTasks) → item_of tasks n ≡ o → n ≡ task.judging → is_shown (with_hidden_behind tasks n rank) task ≡ is_shown tasks task
  here None e same = rw e refl
  here (Some j) e same =
      ap (λ o. shown_by o task.test) (ap (item_of (with_hidden_behind tasks n rank)) (sym same) ∙ change_same tasks n _ j e)
      ∙ ap (λ (o : Option Bool). unwrap_or o false) (kept_test rank j.shown task.test l)
      ∙ sym (ap (λ o. shown_by o task.test) (ap (item_of tasks) (sym same) ∙ e))

pub behind_hidden : (tasks : List JudgingTasks) (n rank test : ℕ) → rank < test → is_shown (with_hidden_behind tasks n rank) (task_of n test) ≡ false
behind_hidden tasks n rank test l = here (item_of tasks n) refl where
  here : (o : Option JudgingTasks) → item_of tasks n ≡ o → is_shown (with_hidden_behind tasks n rank) (task_of n test) ≡ false
  here None e = rw (e, e) (nothing_in test)
  here (Some j) e = ap (λ o. shown_by o test) (change_same tasks n _ j e) ∙ gone_test rank j.shown test l

-- none is shown that was not shown before
pub behind_before : (tasks : List JudgingTasks) (n rank : ℕ) (task : Task) → is_shown (with_hidden_behind tasks n rank) task ≡ true → is_shown tasks task ≡ true
behind_before tasks n rank task e = elim (cases_eq task.judging n) [
  | inr other ↦ sym (behind_other tasks n rank task other) ∙ e
  | inl same ↦ elim (cases_lt rank task.test) [
    | inl behind ↦
        let gone : is_shown (with_hidden_behind tasks n rank) task ≡ false = ap (λ m. is_shown (with_hidden_behind tasks n rank) (task_of m task.test)) same ∙ behind_hidden tasks n rank task.test behind in
        cc
    | inr within ↦ sym (behind_kept tasks n rank task (omega (arith, within))) ∙ e
  ]
]

pub classes_behind : (tasks : List JudgingTasks) (n rank : ℕ) → listed_classes (with_hidden_behind tasks n rank) ≡ listed_classes tasks
classes_behind tasks n rank = kept_seen (λ j. j.class) tasks n (λ j. record j { shown = hidden_behind rank j.shown }) (λ j. refl)

pub widths_behind : (tasks : List JudgingTasks) (n rank : ℕ) → widths (with_hidden_behind tasks n rank) ≡ widths tasks
widths_behind tasks n rank = kept_seen (λ j. length j.shown) tasks n (λ j. record j { shown = hidden_behind rank j.shown }) (λ j. width_behind rank j.shown)

-- ---- a list of nothing

pub nothing_shown : (task : Task) → is_shown [] task ≡ false
nothing_shown task = ap (λ o. shown_by o task.test) (none_at task.judging) ∙ nothing_in task.test where
  none_at : (n : ℕ) → item_of {X = JudgingTasks} [] n ≡ None
  none_at zero = refl
  none_at (suc n) = let yes : ltb 0 (suc n) ≡ true = grind (arith, nat_tests) in rw yes refl

-- no test has the rank 0
pub none_at_0 : (tasks : List JudgingTasks) (n : ℕ) → is_shown tasks (task_of n 0) ≡ false
none_at_0 tasks n = refl
