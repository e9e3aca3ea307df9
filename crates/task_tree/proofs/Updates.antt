-- A task is shown or hidden, and a judging is added or gets room for more tests.
use Rattle.std.proofs.Common.{ℕ, zero, suc, ◌≡◌, ◌≢◌, ◌+◌, ◌-◌, ◌/◌, ◌<◌, ◌≤◌, List, [], ◌∷◌, ◌++◌, length, get_or, set, Bool, false, refl, sym, ap, ◌∙◌, arith, subst, inl, inr}
use Rattle.std.proofs.lemmas.Bool.{cases_eq}
use Rattle.std.proofs.lemmas.Bool.Decides.{nat_tests}
use Rattle.std.specs.Prelude.{◌==◌, replicate}
use Rattle.std.proofs.lemmas.List.{get_or_read, map_push, length-map, length-replicate}
use Rattle.farm_kinds.specs.declared.outcomes.Class.{Class}
use Rattle.farm_kinds.specs.declared.outcomes.Task.{Task}
use Rattle.farm_model.specs.Numbered.{with_item}
use Rattle.task_tree.specs.Bits.{word, bit, IsRemoved, IsCut, IsEmpty}
use Rattle.task_tree.specs.Shown.{JudgingTasks, hidden, hidden_behind, with_shown, with_hidden_behind, widened, with_room}
use Rattle.task_tree.specs.Tree.{of_class}
use Rattle.task_tree.specs.TreeLayout.{shown_from, tasks_value, tasks_values, no_tasks, kept_at, IsSized, AreSized, IsIndexed}
use Rattle.task_tree.specs.declared.tree.KeptTasks.{KeptTasks}
use Rattle.task_tree.specs.declared.classes.Classes.{Classes}
use Rattle.task_tree.proofs.Bitwise.{none_in}
use Rattle.task_tree.proofs.ShownTests.{InRange, length_shown, shown_empty, shown_cut}
use Rattle.task_tree.proofs.Changed.{changed}

pub read : (ks : List KeptTasks) (task : Task) (x : KeptTasks) → InRange ks task → x ≡ get_or ks (task.judging - 1) x → x ≡ kept_at ks (task.judging - 1)
read ks task x r e = get_or_read ks (task.judging - 1) x (omega (arith, r.numbered, r.known)) e no_tasks

pub sized_at : (ks : List KeptTasks) (task : Task) (x : KeptTasks) → InRange ks task → x ≡ get_or ks (task.judging - 1) x → AreSized ks → IsSized x
sized_at ks task x r e s = subst IsSized (sym (read ks task x r e)) (s.each (task.judging - 1) (omega (arith, r.numbered, r.known)))

pub small : (ks : List KeptTasks) (task : Task) (x : KeptTasks) → InRange ks task → x ≡ get_or ks (task.judging - 1) x → task.test - 1 < x.tests
small ks task x r e = let t = ap (λ (k : KeptTasks). k.tests) (read ks task x r e) in omega (arith, r.low, r.high, t)

pub test_room : (ks : List KeptTasks) (task : Task) (x : KeptTasks) → InRange ks task → x ≡ get_or ks (task.judging - 1) x → AreSized ks → (task.test - 1) / 64 < length x.shown
test_room ks task x r e s = let z = sized_at ks task x r e s in omega (arith, small ks task x r e, z.room)

pub place_room : (ks : List KeptTasks) (task : Task) (classes : Classes) (c : Class) → InRange ks task → IsIndexed ks classes → (task.judging - 1) / 64 < length (of_class classes c).numbers
place_room ks task classes c r a = omega (arith, r.numbered, r.known, a.room c)

pub value_changed : (ks : List KeptTasks) (task : Task) (x : KeptTasks) (v : List ℕ) (b : Bool) → InRange ks task → x ≡ get_or ks (task.judging - 1) x
    → shown_from v 0 x.tests ≡ set (shown_from x.shown 0 x.tests) (task.test - 1) b
    → tasks_values (set ks (task.judging - 1) (record { class = x.class; tests = x.tests; shown = v })) ≡ with_shown (tasks_values ks) task b
value_changed ks task x v b r e h =
    let made : List Bool → JudgingTasks = λ s. record { class = x.class; shown = s } in
    changed tasks_value ks task.judging x (record { class = x.class; tests = x.tests; shown = v }) (λ j. record j { shown = with_item j.shown task.test b })
    (omega (arith, r.numbered)) r.known e (ap made h)

-- a judging that is seen is one that is kept
pub known_value : (ks : List KeptTasks) (seen : List JudgingTasks) (n : ℕ) → tasks_values ks ≡ seen → n ≤ length seen → n ≤ length ks
known_value ks seen n e h = omega (arith, h, ap length e, length-map ks tasks_value)

-- the tasks of a judging are hidden behind a rank
pub value_cut : (ks : List KeptTasks) (n rank : ℕ) (x : KeptTasks) (v : List ℕ) → 1 ≤ n → n ≤ length ks → x ≡ get_or ks (n - 1) x → IsCut x.shown v rank
    → tasks_values (set ks (n - 1) (record { class = x.class; tests = x.tests; shown = v })) ≡ with_hidden_behind (tasks_values ks) n rank
value_cut ks n rank x v low high e d =
    let made : List Bool → JudgingTasks = λ s. record { class = x.class; shown = s } in
    changed tasks_value ks n x (record { class = x.class; tests = x.tests; shown = v }) (λ j. record j { shown = hidden_behind rank j.shown })
    (omega (arith, low)) high e (ap made (shown_cut x.shown v rank 0 x.tests rank d (omega arith)))

zero_words : (n p : ℕ) → word (replicate n 0) p ≡ 0
zero_words zero zero = refl
zero_words zero (suc p) = refl
zero_words (suc n) zero = refl
zero_words (suc n) (suc p) = zero_words n p

pub empty_words : (n : ℕ) → IsEmpty (replicate n 0)
empty_words n = record { none = λ i. none_in (replicate n 0) i (zero_words n (i / 64)) }

pub sized_new : (class : Class) (tests : ℕ) (v : List ℕ) → tests ≤ 1000 → v ≡ replicate ((tests + 63) / 64) 0 → IsSized (record { class = class; tests = tests; shown = v })
sized_new class tests v few e =
    let len : length v ≡ (tests + 63) / 64 = ap length e ∙ length-replicate ((tests + 63) / 64) 0 in
    record {
      tests = few;
      words = omega (arith, len, few);
      room = omega (arith, len);
      bound = λ k b. let z : bit v k ≡ 0 = ap (λ w. bit w k) e ∙ (empty_words ((tests + 63) / 64)).none k in absurd (omega (arith, z, b));
    }

pub value_pushed : (ks : List KeptTasks) (class : Class) (tests : ℕ) (v : List ℕ) → v ≡ replicate ((tests + 63) / 64) 0
    → tasks_values (ks ++ (record { class = class; tests = tests; shown = v }) ∷ []) ≡ tasks_values ks ++ hidden class tests ∷ []
value_pushed ks class tests v e =
    let made : List Bool → JudgingTasks = λ s. record { class = class; shown = s } in
    map_push tasks_value ks (record { class = class; tests = tests; shown = v })
    ∙ ap (λ s. tasks_values ks ++ made s ∷ []) (ap (λ w. shown_from w 0 tests) e ∙ shown_empty (replicate ((tests + 63) / 64) 0) 0 tests (empty_words ((tests + 63) / 64)))

pub empty_words_as : (tests : ℕ) (v : List ℕ) → v ≡ replicate ((tests + 63) / 64) 0 → IsEmpty v
empty_words_as tests v e = subst IsEmpty (sym e) (empty_words ((tests + 63) / 64))

pub unset_words : (tests : ℕ) (v : List ℕ) → v ≡ replicate ((tests + 63) / 64) 0 → (k : ℕ) → bit v k ≢ 1
unset_words tests v e k b = let z = (empty_words_as tests v e).none k in omega (arith, z, b)

-- what is left of a judging was in it before
pub removed_part : (ks : List KeptTasks) (task : Task) (x : KeptTasks) (v : List ℕ) (k : ℕ) → InRange ks task → x ≡ get_or ks (task.judging - 1) x → IsRemoved x.shown v k
    → (i : ℕ) → bit v i ≡ 1 → bit (kept_at ks (task.judging - 1)).shown i ≡ 1
removed_part ks task x v k r e d i b =
    subst (λ (z : KeptTasks). bit z.shown i ≡ 1) (read ks task x r e) (elim (cases_eq i k) [
      | inl same ↦ absurd (clash (bit v k) d.here (sym (ap (bit v) same) ∙ b))
      | inr other ↦ sym (d.others i other) ∙ b
    ]) where
      clash : (n : ℕ) → n ≡ 0 → n ≡ 1 → ⊥
      clash n a b = omega arith

-- ---- a judging of which no task is shown gets room for more tests

append_none : {X : Type 0} (xs : List X) → xs ++ [] ≡ xs
append_none [] = refl
append_none (x ∷ xs) = ap (λ ys. x ∷ ys) (append_none xs)

set_itself : (ks : List KeptTasks) (i : ℕ) (x : KeptTasks) → i < length ks → x ≡ get_or ks i x → set ks i x ≡ ks
set_itself [] i x l e = absurd (omega arith)
set_itself (k ∷ ks) zero x l e = ap (λ y. y ∷ ks) e
set_itself (k ∷ ks) (suc i) x l e = ap (λ ys. k ∷ ys) (set_itself ks i x (omega arith) e)

-- with as many tests as wanted it stays
pub room_kept : (ks : List KeptTasks) (n : ℕ) (x : KeptTasks) (tests : ℕ) → 1 ≤ n → n ≤ length ks → x ≡ get_or ks (n - 1) x → tests ≤ x.tests → tasks_values ks ≡ with_room (tasks_values ks) n tests
room_kept ks n x tests low high e enough =
    let bits = shown_from x.shown 0 x.tests in
    let made : List Bool → JudgingTasks = λ s. record { class = x.class; shown = s } in
    let none : tests - length bits ≡ 0 = omega (arith, enough, length_shown x.shown 0 x.tests) in
    let same : widened tests (tasks_value x) ≡ tasks_value x = ap made (ap (λ (k : ℕ). bits ++ replicate k false) none ∙ append_none bits) in
    ap tasks_values (sym (set_itself ks (n - 1) x (omega (arith, low, high)) e))
    ∙ changed tasks_value ks n x x (widened tests) (omega (arith, low)) high e (sym same)

unshown : (w : List ℕ) (i n : ℕ) → ((k : ℕ) → bit w k ≢ 1) → shown_from w i n ≡ replicate n false
unshown w i zero h = refl
unshown w i (suc n) h =
    let here : (bit w i == 1) ≡ false = let d = h i in grind (arith, nat_tests, d) in
    ap (λ b. b ∷ shown_from w (i + 1) n) here ∙ ap (λ xs. false ∷ xs) (unshown w (i + 1) n h)

replicate_more : (a b : ℕ) → replicate a false ++ replicate b false ≡ replicate (a + b) false
replicate_more zero b = ap (λ (n : ℕ). replicate n false) (omega arith)
replicate_more (suc a) b = ap (λ xs. false ∷ xs) (replicate_more a b) ∙ ap (λ (n : ℕ). replicate n false) (let e : suc (a + b) ≡ suc a + b = omega arith in e)

-- with fewer it gets new words
pub room_made : (ks : List KeptTasks) (n : ℕ) (x : KeptTasks) (tests : ℕ) (v : List ℕ) → 1 ≤ n → n ≤ length ks → x ≡ get_or ks (n - 1) x → x.tests ≤ tests → ((k : ℕ) → bit x.shown k ≢ 1)
    → v ≡ replicate ((tests + 63) / 64) 0
    → tasks_values (set ks (n - 1) (record { class = x.class; tests = tests; shown = v })) ≡ with_room (tasks_values ks) n tests
room_made ks n x tests v low high e fewer none zeros =
    let bits = shown_from x.shown 0 x.tests in
    let made : List Bool → JudgingTasks = λ s. record { class = x.class; shown = s } in
    let all : x.tests + (tests - length bits) ≡ tests = omega (arith, fewer, length_shown x.shown 0 x.tests) in
    let after : shown_from v 0 tests ≡ replicate tests false = shown_empty v 0 tests (empty_words_as tests v zeros) in
    let before : bits ++ replicate (tests - length bits) false ≡ replicate tests false =
    ap (λ (xs : List Bool). xs ++ replicate (tests - length bits) false) (unshown x.shown 0 x.tests none) ∙ replicate_more x.tests (tests - length bits) ∙ ap (λ (k : ℕ). replicate k false) all in
    changed tasks_value ks n x (record { class = x.class; tests = tests; shown = v }) (widened tests) (omega (arith, low)) high e (ap made (after ∙ sym before))
