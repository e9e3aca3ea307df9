-- Sets seen as lists of tests.
use Rattle.std.proofs.Common.{ℕ, zero, suc, ◌≡◌, ◌≢◌, ◌+◌, ◌-◌, ◌<◌, ◌≤◌, List, [], ◌∷◌, length, get_or, set, Bool, true, false, refl, sym, ap, ◌∙◌, arith, inl, inr, length-set, get_or-set_same, get_or-set_other, slice_get, Option, Some, unwrap_or}
use Rattle.std.specs.Prelude.{◌==◌, replicate, nat_lt}
use Rattle.std.specs.Option.{option_map_or}
use Rattle.std.proofs.lemmas.Bool.{cases_eq, cases_lt}
use Rattle.std.proofs.lemmas.Bool.Decides.{nat_tests}
use Rattle.std.proofs.lemmas.List.{ext_get_or}
use Rattle.farm_kinds.specs.declared.outcomes.Task.{Task}
use Rattle.task_tree.specs.Bits.{bit, IsInserted, IsRemoved, IsCut, IsEmpty}
use Rattle.farm_model.specs.Numbered.{item_of}
use Rattle.farm_model.specs.Judgings.{task_of}
use Rattle.task_tree.specs.Shown.{JudgingTasks, hidden_behind, tests_listed, is_shown, HasTask}
use Rattle.task_tree.specs.TreeLayout.{shown_from, tasks_value, tasks_values, kept_at, IsSized}
use Rattle.task_tree.specs.declared.tree.KeptTasks.{KeptTasks}

pub length_shown : (words : List ℕ) (i n : ℕ) → length (shown_from words i n) ≡ n
length_shown words i zero = refl
length_shown words i (suc n) = ap suc (length_shown words (i + 1) n)

pub get_shown : (words : List ℕ) (i n k : ℕ) → k < n → get_or (shown_from words i n) k false ≡ (bit words (i + k) == 1)
get_shown words i zero k h = absurd (omega arith)
get_shown words i (suc n) zero h = ap (λ m. bit words m == 1) (omega arith)
get_shown words i (suc n) (suc k) h = get_shown words (i + 1) n k (omega arith) ∙ ap (λ m. bit words m == 1) (omega arith)

-- one number changes
shown_changed : (w v : List ℕ) (n k : ℕ) (b : Bool) → k < n → (bit v k == 1) ≡ b → ((i : ℕ) → i ≢ k → bit v i ≡ bit w i) → shown_from v 0 n ≡ set (shown_from w 0 n) k b
shown_changed w v n k b h e f =
    let xs = shown_from w 0 n in
    ext_get_or false (shown_from v 0 n) (set xs k b) (length_shown v 0 n ∙ sym (length-set xs k b ∙ length_shown w 0 n)) (λ i l.
    let small : i < n = omega (arith, l, length_shown v 0 n) in
    let at : 0 + i ≡ i = omega arith in
    get_shown v 0 n i small ∙ ap (λ m. bit v m == 1) at ∙ elim (cases_eq i k) [
      | inl same ↦ ap (λ m. bit v m == 1) same ∙ e ∙ sym (ap (λ m. get_or (set xs k b) m false) same ∙ get_or-set_same xs k b false (omega (arith, h, length_shown w 0 n)))
      | inr other ↦ ap (λ m. m == 1) (f i other) ∙ ap (λ m. bit w m == 1) (sym at) ∙ sym (get_or-set_other xs k i b false other ∙ get_shown w 0 n i small)
    ])

pub shown_inserted : (w v : List ℕ) (n k : ℕ) → k < n → IsInserted w v k → shown_from v 0 n ≡ set (shown_from w 0 n) k true
shown_inserted w v n k h d = shown_changed w v n k true h (ap (λ m. m == 1) d.here) d.others

pub shown_removed : (w v : List ℕ) (n k : ℕ) → k < n → IsRemoved w v k → shown_from v 0 n ≡ set (shown_from w 0 n) k false
shown_removed w v n k h d = shown_changed w v n k false h (ap (λ m. m == 1) d.here) d.others

pub shown_empty : (w : List ℕ) (i n : ℕ) → IsEmpty w → shown_from w i n ≡ replicate n false
shown_empty w i zero e = refl
shown_empty w i (suc n) e = ap (λ b. b ∷ shown_from w (i + 1) n) (ap (λ m. m == 1) (e.none i)) ∙ ap (λ xs. false ∷ xs) (shown_empty w (i + 1) n e)

-- the numbers from one on are taken out
shown_none : (v : List ℕ) (m i n : ℕ) → ((k : ℕ) → m ≤ k → bit v k ≡ 0) → m ≤ i → shown_from v i n ≡ replicate n false
shown_none v m i zero h l = refl
shown_none v m i (suc n) h l = ap (λ b. b ∷ shown_from v (i + 1) n) (ap (λ k. k == 1) (h i l)) ∙ ap (λ xs. false ∷ xs) (shown_none v m (i + 1) n h (omega (arith, l)))

pub shown_cut : (w v : List ℕ) (m i n k : ℕ) → IsCut w v m → i + k ≡ m → shown_from v i n ≡ hidden_behind k (shown_from w i n)
shown_cut w v m i n zero d e = shown_none v m i n d.above (omega (arith, e)) ∙ ap (λ l. replicate l false) (sym (length_shown w i n))
shown_cut w v m i zero (suc k) d e = refl
shown_cut w v m i (suc n) (suc k) d e =
    ap (λ b. (b == 1) ∷ shown_from v (i + 1) n) (d.below i (omega (arith, e)))
    ∙ ap (λ xs. (bit w i == 1) ∷ xs) (shown_cut w v m (i + 1) n k d (omega (arith, e)))

-- ---- a task that is there

pub record InRange (judgings : List KeptTasks) (task : Task) : Type 0 where
  pub numbered : 1 ≤ task.judging
  pub known : task.judging ≤ length judgings
  pub low : 1 ≤ task.test
  pub high : task.test ≤ (kept_at judgings (task.judging - 1)).tests

read_tests : (ks : List KeptTasks) (m t : ℕ) → 1 ≤ t → t ≤ option_map_or (λ (j : JudgingTasks). length j.shown) (slice_get (tasks_values ks) m) 0 → (m < length ks) × (t ≤ (kept_at ks m).tests)
read_tests [] m t l h = absurd (omega arith)
read_tests (k ∷ ks) zero t l h = (omega arith, omega (arith, length_shown k.shown 0 k.tests, h))
read_tests (k ∷ ks) (suc m) t l h = let r = read_tests ks m t l h in (omega (arith, r.0), r.1)

tests_at : (ks : List KeptTasks) (n t : ℕ) → 1 ≤ t → t ≤ tests_listed (tasks_values ks) n → (1 ≤ n) × (n ≤ length ks) × (t ≤ (kept_at ks (n - 1)).tests)
tests_at ks zero t l h = absurd (omega arith)
tests_at ks (suc m) t l h =
    let yes : nat_lt 0 (suc m) ≡ true = grind (arith, nat_tests) in
    let r = read_tests ks (suc m - 1) t l (rw yes at h) in
    (omega arith, omega (arith, r.0), r.1)

pub in_range : (ks : List KeptTasks) (task : Task) → HasTask (tasks_values ks) task → InRange ks task
in_range ks task h = let r = tests_at ks task.judging task.test h.low h.high in record { numbered = r.0; known = r.1; low = h.low; high = r.2 }

-- ---- sizes

-- what is left was in before
pub cut_part : (w v : List ℕ) (k : ℕ) → IsCut w v k → (i : ℕ) → bit v i ≡ 1 → bit w i ≡ 1
cut_part w v k d i b = elim (cases_lt i k) [
  | inl under ↦ sym (d.below i under) ∙ b
  | inr over ↦ absurd (clash (bit v i) (d.above i over) b)
] where
  clash : (n : ℕ) → n ≡ 0 → n ≡ 1 → ⊥
  clash n a b = omega arith

pub sized_inserted : (x y : KeptTasks) (k : ℕ) → IsSized x → y.tests ≡ x.tests → k < x.tests → IsInserted x.shown y.shown k → IsSized y
sized_inserted x y k s t h d = record {
  tests = omega (arith, s.tests, t);
  words = omega (arith, s.words, d.size);
  room = omega (arith, s.room, t, d.size);
  bound = λ i b. elim (cases_eq i k) [ inl same ↦ omega (arith, same, t, h) | inr other ↦ let u = s.bound i (sym (d.others i other) ∙ b) in omega (arith, t, u) ];
}

pub sized_removed : (x y : KeptTasks) (k : ℕ) → IsSized x → y.tests ≡ x.tests → k < x.tests → IsRemoved x.shown y.shown k → IsSized y
sized_removed x y k s t h d = record {
  tests = omega (arith, s.tests, t);
  words = omega (arith, s.words, d.size);
  room = omega (arith, s.room, t, d.size);
  bound = λ i b. elim (cases_eq i k) [ inl same ↦ omega (arith, same, t, h) | inr other ↦ let u = s.bound i (sym (d.others i other) ∙ b) in omega (arith, t, u) ];
}

pub sized_cut : (x y : KeptTasks) (k : ℕ) → IsSized x → y.tests ≡ x.tests → IsCut x.shown y.shown k → IsSized y
sized_cut x y k s t d = record {
  tests = omega (arith, s.tests, t);
  words = omega (arith, s.words, d.size);
  room = omega (arith, s.room, t, d.size);
  bound = λ i b. let u = s.bound i (cut_part x.shown y.shown k d i b) in omega (arith, t, u);
}

tests_there : (ks : List KeptTasks) (i t : ℕ) → i < length ks → t ≤ (kept_at ks i).tests → t ≤ option_map_or (λ (j : JudgingTasks). length j.shown) (slice_get (tasks_values ks) i) 0
tests_there [] i t l h = absurd (omega arith)
tests_there (x ∷ ks) zero t l h = omega (arith, h, length_shown x.shown 0 x.tests)
tests_there (x ∷ ks) (suc i) t l h = tests_there ks i t (omega arith) h

pub has_task_at : (ks : List KeptTasks) (task : Task) → 1 ≤ task.judging → 1 ≤ task.test → task.judging - 1 < length ks → task.test ≤ (kept_at ks (task.judging - 1)).tests → HasTask (tasks_values ks) task
has_task_at ks task low some l h =
    let yes : nat_lt 0 task.judging ≡ true = grind (arith, nat_tests) in
    record { low = some; high = rw yes (tests_there ks (task.judging - 1) task.test l h) }

pub has_task : (ks : List KeptTasks) (i k : ℕ) → i < length ks → k < (kept_at ks i).tests → HasTask (tasks_values ks) (record { judging = i + 1; test = k + 1 })
has_task ks i k l h =
    let place : i + 1 - 1 ≡ i = omega arith in
    has_task_at ks (record { judging = i + 1; test = k + 1 }) (omega arith) (omega arith) (rw place l) (rw place (omega arith))

-- ---- whether a task is shown

item_next : {X : Type 0} (xs : List X) (i : ℕ) → item_of xs (i + 1) ≡ slice_get xs i
item_next xs i =
    let here : i + 1 - 1 ≡ i = omega arith in
    let yes : nat_lt 0 (i + 1) ≡ true = grind (arith, nat_tests) in
    rw (yes, here) refl

value_at : (ks : List KeptTasks) (i : ℕ) → i < length ks → slice_get (tasks_values ks) i ≡ Some (tasks_value (kept_at ks i))
value_at [] i l = absurd (omega arith)
value_at (k ∷ ks) zero l = refl
value_at (k ∷ ks) (suc i) l = value_at ks i (omega arith)

get_there : (xs : List Bool) (k : ℕ) → k < length xs → unwrap_or (slice_get xs k) false ≡ get_or xs k false
get_there [] k l = absurd (omega arith)
get_there (x ∷ xs) zero l = refl
get_there (x ∷ xs) (suc k) l = get_there xs k (omega arith)

-- the test of a judging is shown where its bit is set
pub is_shown_at : (ks : List KeptTasks) (i k : ℕ) → i < length ks → k < (kept_at ks i).tests → is_shown (tasks_values ks) (task_of (i + 1) (k + 1)) ≡ (bit (kept_at ks i).shown k == 1)
is_shown_at ks i k l h =
    let kept = kept_at ks i in
    let bits = shown_from kept.shown 0 kept.tests in
    let there : item_of (tasks_values ks) (i + 1) ≡ Some (tasks_value kept) = item_next (tasks_values ks) i ∙ value_at ks i l in
    ap (λ o. unwrap_or (item_of (option_map_or (λ (j : JudgingTasks). j.shown) o []) (k + 1)) false) there
    ∙ ap (λ (o : Option Bool). unwrap_or o false) (item_next bits k)
    ∙ get_there bits k (omega (arith, h, length_shown kept.shown 0 kept.tests))
    ∙ get_shown kept.shown 0 kept.tests k h
    ∙ ap (λ m. bit kept.shown m == 1) (omega arith)

-- a judging of which no task is shown has no bit set
pub none_shown_at : (ks : List KeptTasks) (n : ℕ) → 1 ≤ n → n ≤ length ks → IsSized (kept_at ks (n - 1)) → ((test : ℕ) → is_shown (tasks_values ks) (task_of n test) ≡ false)
    → (k : ℕ) → bit (kept_at ks (n - 1)).shown k ≢ 1
none_shown_at ks n low high s h k b =
    let place : n - 1 + 1 ≡ n = omega arith in
    let one : (bit (kept_at ks (n - 1)).shown k == 1) ≡ true = ap (λ m. m == 1) b in
    let t : is_shown (tasks_values ks) (task_of n (k + 1)) ≡ true = ap (λ m. is_shown (tasks_values ks) (task_of m (k + 1))) (sym place) ∙ is_shown_at ks (n - 1) k (omega arith) (s.bound k b) ∙ one in
    let f = h (k + 1) in
    cc
