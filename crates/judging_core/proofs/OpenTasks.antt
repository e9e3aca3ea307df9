-- The open tasks are those of the listed ones that are open.
use Rattle.std.proofs.Common.{ℕ, zero, suc, ◌≡◌, ◌+◌, ◌-◌, ◌<◌, ◌≤◌, List, [], ◌∷◌, ◌++◌, Option, Some, None, Bool, true, false, cond, ltb, ◌&&◌, refl, sym, ap, subst, ◌∙◌, arith, length, map, slice_get, unwrap_or}
use Rattle.std.specs.Prelude.{slice_index_or, IfSome}
use Rattle.std.specs.Option.{is_none}
use Rattle.std.specs.List.{filter, flat_map, range_with_len, enumerate_from}
use Rattle.std.proofs.lemmas.Bool.Decides.{nat_tests}
use Rattle.std.proofs.lemmas.List.Elements.{filter-append}
use Rattle.farm_kinds.specs.declared.kinds.Kind.{Kind}
use Rattle.farm_kinds.specs.declared.outcomes.Class.{Class}
use Rattle.farm_kinds.specs.declared.outcomes.Class.TheVariants.{High, Normal, Low}
use Rattle.farm_kinds.specs.declared.outcomes.Task.{Task}
use Rattle.farm_kinds.specs.RuleValue.{RuleValue}
use Rattle.farm_model.specs.declared.records.Lease.{Lease}
use Rattle.farm_model.specs.Numbered.{item_of}
use Rattle.farm_model.specs.Judgings.{Judging, task_of}
use Rattle.farm_model.specs.Open.{same_class, is_free, is_empty_cell, is_wanted, is_active, open_in, open_in_class, open_tasks}
use Rattle.task_tree.specs.Shown.{JudgingTasks, is_shown, is_shown_test, shown_in, shown_in_class, shown_tasks, first_shown}
use Rattle.judging_core.specs.Listed.{is_open, is_open_in, is_open_cell, judging_classes, listed_classes, Begins, IsListed}

-- ---- filters over a range

pub fused : (p q : ℕ → Bool) (f : Task → Bool) (g : ℕ → Task) (xs : List ℕ) → filter f (map g (filter q (filter p xs))) ≡ map g (filter (λ x. p x && (q x && f (g x))) xs)
fused p q f g [] = refl
fused p q f g (x ∷ xs) = at (p x) (q x) (f (g x)) refl refl refl (fused p q f g xs) where
  at : (a b c : Bool) → p x ≡ a → q x ≡ b → f (g x) ≡ c → filter f (map g (filter q (filter p xs))) ≡ map g (filter (λ x. p x && (q x && f (g x))) xs)
      → filter f (map g (filter q (filter p (x ∷ xs)))) ≡ map g (filter (λ x. p x && (q x && f (g x))) (x ∷ xs))
  at false b c i j k rest = rw i rest
  at true false c i j k rest = rw (i, j) rest
  at true true false i j k rest = rw (i, j, k) rest
  at true true true i j k rest = rw (i, j, k) (ap (λ ys. g x ∷ ys) rest)

fused_shown : (p : ℕ → Bool) (f : Task → Bool) (g : ℕ → Task) (xs : List ℕ) → filter f (map g (filter p xs)) ≡ map g (filter (λ x. p x && f (g x)) xs)
fused_shown p f g [] = refl
fused_shown p f g (x ∷ xs) = at (p x) (f (g x)) refl refl (fused_shown p f g xs) where
  at : (a c : Bool) → p x ≡ a → f (g x) ≡ c → filter f (map g (filter p xs)) ≡ map g (filter (λ x. p x && f (g x)) xs)
      → filter f (map g (filter p (x ∷ xs))) ≡ map g (filter (λ x. p x && f (g x)) (x ∷ xs))
  at false c i k rest = rw i rest
  at true false i k rest = rw (i, k) rest
  at true true i k rest = rw (i, k) (ap (λ ys. g x ∷ ys) rest)

none_in : (p : ℕ → Bool) (a n : ℕ) → ((i : ℕ) → i < n → p (a + i) ≡ false) → filter p (range_with_len a n) ≡ []
none_in p a zero h = refl
none_in p a (suc n) h =
    let here : p a ≡ false = ap p (omega arith) ∙ h 0 (omega arith) in
    rw here (none_in p (a + 1) n (λ i l. ap p (omega arith) ∙ h (suc i) (omega arith)))

-- two ranges from one number on, and two tests: they agree as far as both go, and none passes behind
same_in : (p q : ℕ → Bool) (a n m : ℕ) → ((i : ℕ) → i < n → i < m → p (a + i) ≡ q (a + i)) → ((i : ℕ) → m ≤ i → i < n → p (a + i) ≡ false) → ((i : ℕ) → n ≤ i → i < m → q (a + i) ≡ false)
    → filter p (range_with_len a n) ≡ filter q (range_with_len a m)
same_in p q a zero m h u v = sym (none_in q a m (λ i l. v i (omega arith) l))
same_in p q a (suc n) zero h u v = none_in p a (suc n) (λ i l. u i (omega arith) l)
same_in p q a (suc n) (suc m) h u v =
    let here : p a ≡ q a = ap p (omega arith) ∙ h 0 (omega arith) (omega arith) ∙ ap q (omega arith) in
    let rest : filter p (range_with_len (a + 1) n) ≡ filter q (range_with_len (a + 1) m) =
    same_in p q (a + 1) n m (λ i l k. ap p (omega arith) ∙ h (suc i) (omega arith) (omega arith) ∙ ap q (omega arith)) (λ i l k. ap p (omega arith) ∙ u (suc i) (omega arith) (omega arith)) (λ i l k. ap q (omega arith) ∙ v (suc i) (omega arith) (omega arith)) in
    rw here (ap (λ xs. cond (q a) (a ∷ xs) xs) rest)

-- ---- one judging

pub item_next : {X : Type 0} (xs : List X) (i : ℕ) → item_of xs (1 + i) ≡ slice_get xs i
item_next xs i =
    let here : 1 + i - 1 ≡ i = omega arith in
    let yes : ltb 0 (1 + i) ≡ true = grind (arith, nat_tests) in
    rw (yes, here) refl

read_or : {X : Type 0} (xs : List X) (i : ℕ) (d : X) → slice_index_or xs i d ≡ unwrap_or (slice_get xs i) d
read_or [] i d = refl
read_or (x ∷ xs) zero d = refl
read_or (x ∷ xs) (suc i) d = read_or xs i d

get_past : {X : Type 0} (xs : List X) (i : ℕ) → length xs ≤ i → slice_get xs i ≡ None
get_past [] i l = refl
get_past (x ∷ xs) zero l = absurd (omega arith)
get_past (x ∷ xs) (suc i) l = get_past xs i (omega arith)

get_some : {X : Type 0} (xs : List X) (i : ℕ) → i < length xs → (x : X) × (slice_get xs i ≡ Some x)
get_some [] i l = absurd (omega arith)
get_some (x ∷ xs) zero l = (x, refl)
get_some (x ∷ xs) (suc i) l = get_some xs i (omega arith)

and_false : (a : Bool) → (a && false) ≡ false
and_false true = refl
and_false false = refl

and_true : (a b : Bool) → (a && b) ≡ true → (a ≡ true) × (b ≡ true)
and_true true b h = (refl, h)
and_true false b h = cc

both : (s o : Bool) → (o ≡ true → s ≡ true) → (s && o) ≡ o
both true o h = refl
both false true h = let f = h refl in cc
both false false h = refl

-- the open tasks of a judging are those of the shown ones that pass the test
abbrev opens : RuleValue → List Lease → ℕ → Judging → ℕ → Bool
opens rule leases n judging test = is_open_in rule test (Some judging) && is_free leases (task_of n test)

open_numbers : (rule : RuleValue) (leases : List Lease) (n : ℕ) (judging : Judging) (i : ℕ) → is_active judging ≡ true → i < length judging.row
    → (is_empty_cell judging.row (1 + i) && (is_wanted rule judging.mode judging.row (1 + i) && is_free leases (task_of n (1 + i)))) ≡ opens rule leases n judging (1 + i)
open_numbers rule leases n judging i live l =
    let cell = get_some judging.row i l in
    let place : 1 + i - 1 ≡ i = omega arith in
    let item : item_of judging.row (1 + i) ≡ Some cell.0 = item_next judging.row i ∙ cell.1 in
    let empty : is_empty_cell judging.row (1 + i) ≡ is_none cell.0 = ap (λ m. is_none (slice_index_or judging.row m None)) place ∙ ap is_none (read_or judging.row i None ∙ ap (λ o. unwrap_or o None) cell.1) in
    rw (empty, item) (by_cell cell.0) where
      by_cell : (c : Option Kind) → (is_none c && (is_wanted rule judging.mode judging.row (1 + i) && is_free leases (task_of n (1 + i)))) ≡ (is_open_cell rule judging (1 + i) (Some c) && is_free leases (task_of n (1 + i)))
      by_cell (Some k) = refl
      by_cell None = rw live refl

past_closed : (rule : RuleValue) (leases : List Lease) (n : ℕ) (judging : Judging) (i : ℕ) → length judging.row ≤ i → opens rule leases n judging (1 + i) ≡ false
past_closed rule leases n judging i l = rw (item_next judging.row i ∙ get_past judging.row i l) refl

-- the test of a judging is shown
abbrev shows : JudgingTasks → ℕ → Bool
shows tasks test = unwrap_or (item_of tasks.shown test) false

shows_as : (tasks : JudgingTasks) (i : ℕ) → is_shown_test tasks.shown (1 + i) ≡ shows tasks (1 + i)
shows_as tasks i =
    let place : 1 + i - 1 ≡ i = omega arith in
    ap (λ m. slice_index_or tasks.shown m false) place ∙ read_or tasks.shown i false ∙ ap (λ (o : Option Bool). unwrap_or o false) (sym (item_next tasks.shown i))

shows_past : (tasks : JudgingTasks) (i : ℕ) → length tasks.shown ≤ i → shows tasks (1 + i) ≡ false
shows_past tasks i l = ap (λ (o : Option Bool). unwrap_or o false) (item_next tasks.shown i ∙ get_past tasks.shown i l)

one_judging : (rule : RuleValue) (leases : List Lease) (n : ℕ) (judging : Judging) (tasks : JudgingTasks) (test : Task → Bool)
    → ((t : ℕ) → test (task_of n t) ≡ opens rule leases n judging t) → ((t : ℕ) → opens rule leases n judging t ≡ true → shows tasks t ≡ true) → is_active judging ≡ true
    → open_in rule leases (n, judging) ≡ filter test (shown_in (n, tasks))
one_judging rule leases n judging tasks test h shown live =
    let p : ℕ → Bool = λ t. is_empty_cell judging.row t && (is_wanted rule judging.mode judging.row t && is_free leases (task_of n t)) in
    let q : ℕ → Bool = λ t. is_shown_test tasks.shown t && test (task_of n t) in
    let seen : (i : ℕ) → q (1 + i) ≡ opens rule leases n judging (1 + i) = λ i.
    ap (λ b. b && test (task_of n (1 + i))) (shows_as tasks i) ∙ ap (λ b. shows tasks (1 + i) && b) (h (1 + i)) ∙ both (shows tasks (1 + i)) (opens rule leases n judging (1 + i)) (shown (1 + i)) in
    fused (is_empty_cell judging.row) (is_wanted rule judging.mode judging.row) (is_free leases) (task_of n) (range_with_len 1 (length judging.row))
    ∙ ap (map (task_of n)) (same_in p q 1 (length judging.row) (length tasks.shown)
    (λ i l k. open_numbers rule leases n judging i live l ∙ sym (seen i))
    (λ i l k. open_numbers rule leases n judging i live k ∙ not_shown i l)
    (λ i l k. seen i ∙ past_closed rule leases n judging i l))
    ∙ sym (fused_shown (is_shown_test tasks.shown) test (task_of n) (range_with_len 1 (length tasks.shown))) where
      not_shown : (i : ℕ) → length tasks.shown ≤ i → opens rule leases n judging (1 + i) ≡ false
      not_shown i l = by_bool (opens rule leases n judging (1 + i)) refl where
        by_bool : (b : Bool) → opens rule leases n judging (1 + i) ≡ b → b ≡ false
        by_bool true e = let a = shown (1 + i) e in let b = shows_past tasks i l in cc
        by_bool false e = refl

none_pass : (test : Task → Bool) (xs : List Task) → ((t : Task) → test t ≡ false) → filter test xs ≡ []
none_pass test [] h = refl
none_pass test (x ∷ xs) h = rw (h x) (none_pass test xs h)

none_of : (test : Task → Bool) (n : ℕ) (ts : List ℕ) → ((t : ℕ) → test (task_of n t) ≡ false) → filter test (map (task_of n) ts) ≡ []
none_of test n [] h = refl
none_of test n (t ∷ ts) h = rw (h t) (none_of test n ts h)

-- ---- the judgings of a class

abbrev pub open_from : RuleValue → List Lease → Class → ℕ → List Judging → List Task
open_from rule leases class n judgings =
    flat_map (open_in rule leases) (filter (λ p. same_class p.1.class class) (filter (λ p. is_active p.1) (enumerate_from n judgings)))

abbrev shown_from : Class → ℕ → List JudgingTasks → List Task
shown_from class n tasks = flat_map shown_in (filter (λ p. same_class p.1.class class) (enumerate_from n tasks))

-- how the test of tasks and the shown tasks of a judging belong together
record IsTestOf (rule : RuleValue) (leases : List Lease) (n : ℕ) (judging : Option Judging) (tasks : JudgingTasks) (test : Task → Bool) : Type 0 where
  opens : (t : ℕ) → test (task_of n t) ≡ (is_open_in rule t judging && is_free leases (task_of n t))
  shown : (t : ℕ) → test (task_of n t) ≡ true → shows tasks t ≡ true

inactive_closed : (rule : RuleValue) (leases : List Lease) (n : ℕ) (judging : Judging) (t : ℕ) → is_active judging ≡ false → opens rule leases n judging t ≡ false
inactive_closed rule leases n judging t gone = by_item (item_of judging.row t) where
  by_item : (o : Option (Option Kind)) → (is_open_cell rule judging t o && is_free leases (task_of n t)) ≡ false
  by_item None = refl
  by_item (Some (Some k)) = refl
  by_item (Some None) = rw gone refl

in_judging : (rule : RuleValue) (leases : List Lease) (n : ℕ) (judging : Judging) (tasks : JudgingTasks) (test : Task → Bool)
    → IsTestOf rule leases n (Some judging) tasks test → (b : Bool) → is_active judging ≡ b
    → cond b (open_in rule leases (n, judging)) [] ≡ filter test (shown_in (n, tasks))
in_judging rule leases n judging tasks test h true live =
    one_judging rule leases n judging tasks test h.opens (λ t o. h.shown t (h.opens t ∙ o)) live
in_judging rule leases n judging tasks test h false gone =
    sym (none_of test n (filter (is_shown_test tasks.shown) (range_with_len 1 (length tasks.shown))) (λ t. h.opens t ∙ inactive_closed rule leases n judging t gone))

-- one judging before others
put_before : (rule : RuleValue) (leases : List Lease) (class : Class) (n : ℕ) (judging : Judging) (tasks : JudgingTasks) (test : Task → Bool) (js : List (ℕ × Judging)) (ts : List (ℕ × JudgingTasks)) (a s : Bool)
    → cond a (open_in rule leases (n, judging)) [] ≡ filter test (shown_in (n, tasks))
    → same_class judging.class class ≡ s
    → flat_map (open_in rule leases) (filter (λ p. same_class p.1.class class) js) ≡ filter test (flat_map shown_in ts)
    → flat_map (open_in rule leases) (filter (λ p. same_class p.1.class class) (cond a ((n, judging) ∷ js) js)) ≡ filter test (flat_map shown_in (cond s ((n, tasks) ∷ ts) ts))
put_before rule leases class n judging tasks test js ts true true h e rest =
    rw e (ap (λ xs. xs ++ flat_map (open_in rule leases) (filter (λ p. same_class p.1.class class) js)) h ∙ ap (λ ys. filter test (shown_in (n, tasks)) ++ ys) rest ∙ sym (filter-append test (shown_in (n, tasks)) (flat_map shown_in ts)))
put_before rule leases class n judging tasks test js ts true false h e rest = rw e rest
put_before rule leases class n judging tasks test js ts false true h e rest =
    rest ∙ ap (λ xs. xs ++ filter test (flat_map shown_in ts)) h ∙ sym (filter-append test (shown_in (n, tasks)) (flat_map shown_in ts))
put_before rule leases class n judging tasks test js ts false false h e rest = rest

-- no task of a judging that is not there is open
none_behind : (rule : RuleValue) (leases : List Lease) (class : Class) (n : ℕ) (all : List JudgingTasks) (test : Task → Bool)
    → ((i : ℕ) (tasks : JudgingTasks) → slice_get all i ≡ Some tasks → IsTestOf rule leases (n + i) None tasks test) → [] ≡ filter test (shown_from class n all)
none_behind rule leases class n [] test h = refl
none_behind rule leases class n (tasks ∷ all) test h =
    let at : n + 0 ≡ n = omega arith in
    let first = (h 0 tasks refl).opens in
    let here : filter test (shown_in (n, tasks)) ≡ [] = none_of test n (filter (is_shown_test tasks.shown) (range_with_len 1 (length tasks.shown))) (λ t. ap (λ m. test (task_of m t)) (sym at) ∙ first t) in
    let rest = none_behind rule leases class (n + 1) all test (λ i x e. ap_test (h (suc i) x e) (omega arith)) in
    by_class (same_class tasks.class class) here rest where
      ap_test : {m k : ℕ} {x : JudgingTasks} → IsTestOf rule leases m None x test → m ≡ k → IsTestOf rule leases k None x test
      ap_test {m} {k} {x} a e = subst (λ (j : ℕ). IsTestOf rule leases j None x test) e a

      by_class : (s : Bool) → filter test (shown_in (n, tasks)) ≡ [] → [] ≡ filter test (shown_from class (n + 1) all)
          → [] ≡ filter test (flat_map shown_in (cond s ((n, tasks) ∷ filter (λ p. same_class p.1.class class) (enumerate_from (n + 1) all)) (filter (λ p. same_class p.1.class class) (enumerate_from (n + 1) all))))
      by_class true here rest = rest ∙ ap (λ xs. xs ++ filter test (shown_from class (n + 1) all)) (sym here) ∙ sym (filter-append test (shown_in (n, tasks)) (shown_from class (n + 1) all))
      by_class false here rest = rest

of_class : (rule : RuleValue) (leases : List Lease) (class : Class) (n : ℕ) (judgings : List Judging) (all : List JudgingTasks) (test : Task → Bool)
    → Begins (judging_classes judgings) (listed_classes all)
    → ((i : ℕ) (tasks : JudgingTasks) → slice_get all i ≡ Some tasks → IsTestOf rule leases (n + i) (slice_get judgings i) tasks test)
    → open_from rule leases class n judgings ≡ filter test (shown_from class n all)
of_class rule leases class n [] all test b h = none_behind rule leases class n all test h
of_class rule leases class n (judging ∷ judgings) [] test b h = absurd b
of_class rule leases class n (judging ∷ judgings) (tasks ∷ all) test b h =
    let at : n + 0 ≡ n = omega arith in
    let first : IsTestOf rule leases n (Some judging) tasks test = subst (λ (m : ℕ). IsTestOf rule leases m (Some judging) tasks test) at (h 0 tasks refl) in
    let same : same_class judging.class class ≡ same_class tasks.class class = ap (λ c. same_class c class) (sym b.0) in
    put_before rule leases class n judging tasks test (filter (λ p. is_active p.1) (enumerate_from (n + 1) judgings)) (filter (λ p. same_class p.1.class class) (enumerate_from (n + 1) all)) (is_active judging) (same_class tasks.class class)
    (in_judging rule leases n judging tasks test first (is_active judging) refl) same
    (of_class rule leases class (n + 1) judgings all test b.1 (λ i x e. subst (λ (m : ℕ). IsTestOf rule leases m (slice_get judgings i) x test) (omega arith) (h (suc i) x e)))

-- ---- all of them

tests_there : (rule : RuleValue) (judgings : List Judging) (leases : List Lease) (tasks : List JudgingTasks) → IsListed rule judgings leases tasks
    → (i : ℕ) (x : JudgingTasks) → slice_get tasks i ≡ Some x → IsTestOf rule leases (1 + i) (slice_get judgings i) x (is_open rule judgings leases)
tests_there rule judgings leases tasks h i x e = record {
  opens = λ t. ap (λ o. is_open_in rule t o && is_free leases (task_of (1 + i) t)) (item_next judgings i);
  shown = λ t o. shown_there t (h.shown (task_of (1 + i) t) o);
} where
  shown_there : (t : ℕ) → is_shown tasks (task_of (1 + i) t) ≡ true → shows x t ≡ true
  shown_there t s = let item : item_of tasks (1 + i) ≡ Some x = item_next tasks i ∙ e in rw item at s

pub all_open : (rule : RuleValue) (judgings : List Judging) (leases : List Lease) (tasks : List JudgingTasks) → IsListed rule judgings leases tasks
    → open_tasks rule judgings leases ≡ filter (is_open rule judgings leases) (shown_tasks tasks)
all_open rule judgings leases tasks h =
    let test = is_open rule judgings leases in
    let class : (c : Class) → open_in_class rule judgings leases c ≡ filter test (shown_in_class tasks c) = λ c. of_class rule leases c 1 judgings tasks test h.classes (tests_there rule judgings leases tasks h) in
    rw (class High, class Normal, class Low)
    (sym (filter-append test (shown_in_class tasks High ++ shown_in_class tasks Normal) (shown_in_class tasks Low) ∙ ap (λ xs. xs ++ filter test (shown_in_class tasks Low)) (filter-append test (shown_in_class tasks High) (shown_in_class tasks Normal))))

first_kept : (test : Task → Bool) (xs : List Task) (task : Task) → slice_get xs 0 ≡ Some task → test task ≡ true → slice_get (filter test xs) 0 ≡ Some task
first_kept test [] task e h = cc
first_kept test (x ∷ xs) task e h =
    let same : x ≡ task = cc in
    let passes : test x ≡ true = ap test same ∙ h in
    rw passes (ap (λ (t : Task). Some t) same)

no_first : (xs : List Task) → slice_get xs 0 ≡ None → xs ≡ []
no_first [] e = refl
no_first (x ∷ xs) e = cc

-- the first listed task is the first open one, if it is open
pub first_is_open : (rule : RuleValue) (judgings : List Judging) (leases : List Lease) (tasks : List JudgingTasks) (task : Task) → IsListed rule judgings leases tasks
    → Some task ≡ first_shown tasks → is_open rule judgings leases task ≡ true → Some task ≡ slice_get (open_tasks rule judgings leases) 0
first_is_open rule judgings leases tasks task h e o =
    sym (ap (λ xs. slice_get xs 0) (all_open rule judgings leases tasks h) ∙ first_kept (is_open rule judgings leases) (shown_tasks tasks) task (sym e) o)

-- where nothing is listed nothing is open
pub none_is_open : (rule : RuleValue) (judgings : List Judging) (leases : List Lease) (tasks : List JudgingTasks) → IsListed rule judgings leases tasks
    → None ≡ first_shown tasks → None ≡ slice_get (open_tasks rule judgings leases) 0
none_is_open rule judgings leases tasks h e =
    sym (ap (λ xs. slice_get xs 0) (all_open rule judgings leases tasks h ∙ ap (filter (is_open rule judgings leases)) (no_first (shown_tasks tasks) (sym e))))

-- the first listed task is the first open one
pub first_listed : (rule : RuleValue) (judgings : List Judging) (leases : List Lease) (tasks : List JudgingTasks) (first : Option Task) → IsListed rule judgings leases tasks
    → first ≡ first_shown tasks → IfSome first (λ task. is_shown tasks task ≡ true) → first ≡ slice_get (open_tasks rule judgings leases) 0
first_listed rule judgings leases tasks None h e s = none_is_open rule judgings leases tasks h e
first_listed rule judgings leases tasks (Some task) h e s = first_is_open rule judgings leases tasks task h e (h.open_ task s)

pub listed_open : (rule : RuleValue) (judgings : List Judging) (leases : List Lease) (tasks : List JudgingTasks) (first : Option Task) → IsListed rule judgings leases tasks
    → IfSome first (λ task. is_shown tasks task ≡ true) → IfSome first (λ task. is_open rule judgings leases task ≡ true)
listed_open rule judgings leases tasks None h s = tt
listed_open rule judgings leases tasks (Some task) h s = h.open_ task s
