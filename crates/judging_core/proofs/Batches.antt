-- The open tasks of one judging, before and after one of them is handed out.
use Rattle.std.proofs.Common.{ℕ, zero, suc, ◌≡◌, ◌+◌, ◌<◌, ◌≤◌, ◌⊎◌, List, [], ◌∷◌, ◌++◌, Option, Some, None, Bool, true, false, not, cond, leb, ◌&&◌, refl, sym, ap, subst, ◌∙◌, arith, inl, inr, length, map, slice_get, take, filter, find, unwrap_or}
use Rattle.std.specs.Option.{is_none, option_map}
use Rattle.std.specs.List.{flat_map, range_with_len, enumerate_from}
use Rattle.std.proofs.lemmas.Bool.Decides.{nat_tests}
use Rattle.std.proofs.lemmas.List.{append_assoc, append-nil, length_push}
use Rattle.std.proofs.lemmas.List.Elements.{filter-append}
use Rattle.farm_kinds.specs.declared.outcomes.Class.{Class}
use Rattle.farm_kinds.specs.declared.outcomes.Class.TheVariants.{High, Normal, Low}
use Rattle.farm_kinds.specs.declared.outcomes.Fetched.TheVariants as fetch
use Rattle.farm_kinds.specs.declared.outcomes.Task.{Task}
use Rattle.farm_kinds.specs.RuleValue.{RuleValue}
use Rattle.farm_model.specs.declared.records.Lease.{Lease}
use Rattle.farm_model.specs.Numbered.{item_of}
use Rattle.farm_model.specs.Leases.{same_task, with_lease, holds, held_count}
use Rattle.farm_model.specs.Judgings.{Judging, task_of, with_handed, mark_handed}
use Rattle.farm_model.specs.Open.{same_class, is_free, is_empty_cell, is_wanted, wanted_tests, is_active, open_in, open_in_class, open_tasks}
use Rattle.farm_model.specs.Judge.{JudgeState, first_open, hand_out, hand_out_all, handed_batch, lease_end, open_of, ranks_of, batch_size, judge_fetch}
use Rattle.lease_book.proofs.Counts.{one_if, count_push}
use Rattle.lease_book.proofs.Singly.{same_self}
use Rattle.judging_core.specs.Batches.{ComesFirst}
use Rattle.judging_core.proofs.Items.{item_seen, kept_seen}
use Rattle.judging_core.proofs.OpenTasks.{fused, item_next, open_from}

-- ---- one lease more

abbrev other_task : Task → Task → Bool
other_task a b = not (same_task a b)

free_with : (q : Lease → Bool) (ls : List Lease) (l : Lease) → is_none (find q (ls ++ l ∷ [])) ≡ (is_none (find q ls) && not (q l))
free_with q [] l = elim (q l) as (λ b. is_none (cond b (Some l) None) ≡ not b) [ true ↦ refl | false ↦ refl ]
free_with q (y ∷ ls) l =
    elim (q y) as (λ b. is_none (cond b (Some y) (find q (ls ++ l ∷ []))) ≡ (is_none (cond b (Some y) (find q ls)) && not (q l))) [
      | true ↦ refl
      | false ↦ free_with q ls l
    ]

filter_as : (p q : Task → Bool) (xs : List Task) → ((x : Task) → p x ≡ q x) → filter p xs ≡ filter q xs
filter_as p q [] h = refl
filter_as p q (x ∷ xs) h = rw (h x) (ap (λ ys. cond (q x) (x ∷ ys) ys) (filter_as p q xs h))

filter_twice : (p q : Task → Bool) (xs : List Task) → filter (λ x. p x && q x) xs ≡ filter q (filter p xs)
filter_twice p q [] = refl
filter_twice p q (x ∷ xs) = at (p x) (q x) refl refl (filter_twice p q xs) where
  at : (a b : Bool) → p x ≡ a → q x ≡ b → filter (λ y. p y && q y) xs ≡ filter q (filter p xs) → filter (λ y. p y && q y) (x ∷ xs) ≡ filter q (filter p (x ∷ xs))
  at true true i j rest = rw (i, j) (ap (λ ys. x ∷ ys) rest)
  at true false i j rest = rw (i, j) rest
  at false b i j rest = rw i rest

flat_filtered : {X : Type 0} (f g : X → List Task) (p : Task → Bool) (xs : List X) → ((x : X) → f x ≡ filter p (g x)) → flat_map f xs ≡ filter p (flat_map g xs)
flat_filtered f g p [] h = refl
flat_filtered f g p (x ∷ xs) h =
    ap (λ ys. ys ++ flat_map f xs) (h x) ∙ ap (λ ys. filter p (g x) ++ ys) (flat_filtered f g p xs h) ∙ sym (filter-append p (g x) (flat_map g xs))

-- the task with the new lease is not open any more, and the others are as they were
leased : (rule : RuleValue) (ls : List Lease) (host until : ℕ) (t : Task) (p : ℕ × Judging) → open_in rule (with_lease ls host t until) p ≡ filter (other_task t) (open_in rule ls p)
leased rule ls host until t p =
    let wanted = map (task_of p.0) (wanted_tests rule p.1.mode p.1.row) in
    filter_as (is_free (with_lease ls host t until)) (λ x. is_free ls x && other_task t x) wanted (λ x. free_with (λ l. same_task l.task x) ls (record { host = host; task = t; until = until }))
    ∙ filter_twice (is_free ls) (other_task t) wanted

-- ---- what was handed out makes no task open or closes it

abbrev unmarked : Judging → Judging
unmarked judging = record judging { handed = [] }

put_first : (rule : RuleValue) (ls : List Lease) (class : Class) (x y : ℕ × Judging) (xs ys : List (ℕ × Judging)) (a s : Bool) → open_in rule ls x ≡ open_in rule ls y → same_class x.1.class class ≡ s → same_class y.1.class class ≡ s
    → flat_map (open_in rule ls) (filter (λ p. same_class p.1.class class) xs) ≡ flat_map (open_in rule ls) (filter (λ p. same_class p.1.class class) ys)
    → flat_map (open_in rule ls) (filter (λ p. same_class p.1.class class) (cond a (x ∷ xs) xs)) ≡ flat_map (open_in rule ls) (filter (λ p. same_class p.1.class class) (cond a (y ∷ ys) ys))
put_first rule ls class x y xs ys true true o i j rest =
    rw (i, j) (ap (λ zs. zs ++ flat_map (open_in rule ls) (filter (λ p. same_class p.1.class class) xs)) o ∙ ap (λ zs. open_in rule ls y ++ zs) rest)
put_first rule ls class x y xs ys true false o i j rest = rw (i, j) rest
put_first rule ls class x y xs ys false s o i j rest = rest

class_unmarked : (rule : RuleValue) (ls : List Lease) (class : Class) (n : ℕ) (js : List Judging) → open_from rule ls class n (map unmarked js) ≡ open_from rule ls class n js
class_unmarked rule ls class n [] = refl
class_unmarked rule ls class n (z ∷ js) =
    put_first rule ls class (n, unmarked z) (n, z) (filter (λ p. is_active p.1) (enumerate_from (n + 1) (map unmarked js))) (filter (λ p. is_active p.1) (enumerate_from (n + 1) js))
    (is_active z) (same_class z.class class) refl refl refl (class_unmarked rule ls class (n + 1) js)

class_handed : (s : JudgeState) (host : ℕ) (t : Task) (class : Class) → open_in_class s.rule (hand_out s host t).judgings (hand_out s host t).leases class ≡ filter (other_task t) (open_in_class s.rule s.judgings s.leases class)
class_handed s host t class =
    let until = s.now + s.lease in
    let ls = with_lease s.leases host t until in
    sym (class_unmarked s.rule ls class 1 (with_handed s.judgings t))
    ∙ ap (open_from s.rule ls class 1) (kept_seen unmarked s.judgings t.judging (mark_handed t.test) (λ j. refl))
    ∙ class_unmarked s.rule ls class 1 s.judgings
    ∙ flat_filtered (open_in s.rule ls) (open_in s.rule s.leases) (other_task t) (filter (λ p. same_class p.1.class class) (filter (λ p. is_active p.1) (enumerate_from 1 s.judgings))) (leased s.rule s.leases host until t)

all_handed : (s : JudgeState) (host : ℕ) (t : Task) → open_tasks s.rule (hand_out s host t).judgings (hand_out s host t).leases ≡ filter (other_task t) (open_tasks s.rule s.judgings s.leases)
all_handed s host t =
    let high = open_in_class s.rule s.judgings s.leases High in
    let normal = open_in_class s.rule s.judgings s.leases Normal in
    let low = open_in_class s.rule s.judgings s.leases Low in
    rw (class_handed s host t High, class_handed s host t Normal, class_handed s host t Low)
    (sym (filter-append (other_task t) (high ++ normal) low ∙ ap (λ xs. xs ++ filter (other_task t) low) (filter-append (other_task t) high normal)))

abbrev open_at : RuleValue → List Lease → ℕ → Option Judging → List Task
open_at rule ls j o = unwrap_or (option_map (λ judging. open_in rule ls (j, judging)) o) []

at_unmarked : (rule : RuleValue) (ls : List Lease) (j : ℕ) (o : Option Judging) → open_at rule ls j (option_map unmarked o) ≡ open_at rule ls j o
at_unmarked rule ls j None = refl
at_unmarked rule ls j (Some judging) = refl

at_leased : (rule : RuleValue) (ls : List Lease) (host until : ℕ) (t : Task) (j : ℕ) (o : Option Judging) → open_at rule (with_lease ls host t until) j o ≡ filter (other_task t) (open_at rule ls j o)
at_leased rule ls host until t j None = refl
at_leased rule ls host until t j (Some judging) = leased rule ls host until t (j, judging)

own_handed : (s : JudgeState) (host : ℕ) (t : Task) (j : ℕ) → open_of (hand_out s host t) j ≡ filter (other_task t) (open_of s j)
own_handed s host t j =
    let until = s.now + s.lease in
    let ls = with_lease s.leases host t until in
    let new = with_handed s.judgings t in
    let kept = kept_seen unmarked s.judgings t.judging (mark_handed t.test) (λ x. refl) in
    sym (at_unmarked s.rule ls j (item_of new j))
    ∙ ap (open_at s.rule ls j) (sym (item_seen unmarked new j) ∙ ap (λ xs. item_of xs j) kept ∙ item_seen unmarked s.judgings j)
    ∙ at_unmarked s.rule ls j (item_of s.judgings j)
    ∙ at_leased s.rule s.leases host until t j (item_of s.judgings j)

-- ---- a task is open once

stay : (j k a n : ℕ) (p : ℕ → Bool) → k < a → filter (other_task (task_of j k)) (map (task_of j) (filter p (range_with_len a n))) ≡ map (task_of j) (filter p (range_with_len a n))
stay j k a zero p l = refl
stay j k a (suc n) p l = at (p a) refl (stay j k (a + 1) n p (omega arith)) where
  at : (b : Bool) → p a ≡ b → filter (other_task (task_of j k)) (map (task_of j) (filter p (range_with_len (a + 1) n))) ≡ map (task_of j) (filter p (range_with_len (a + 1) n))
      → filter (other_task (task_of j k)) (map (task_of j) (filter p (range_with_len a (suc n)))) ≡ map (task_of j) (filter p (range_with_len a (suc n)))
  at true e rest = let o : other_task (task_of j k) (task_of j a) ≡ true = grind (arith, nat_tests, l) in rw (e, o) (ap (λ xs. task_of j a ∷ xs) rest)
  at false e rest = rw e rest

once : (j a n : ℕ) (p : ℕ → Bool) (t : Task) (tasks : List Task) → map (task_of j) (filter p (range_with_len a n)) ≡ t ∷ tasks → filter (other_task t) tasks ≡ tasks
once j a zero p t tasks e = cc
once j a (suc n) p t tasks e = at (p a) refl (once j (a + 1) n p t tasks) where
  at : (b : Bool) → p a ≡ b → (map (task_of j) (filter p (range_with_len (a + 1) n)) ≡ t ∷ tasks → filter (other_task t) tasks ≡ tasks) → filter (other_task t) tasks ≡ tasks
  at true f rest =
      let all : task_of j a ∷ map (task_of j) (filter p (range_with_len (a + 1) n)) ≡ t ∷ tasks = rw f at e in
      let same : task_of j a ≡ t = cc in
      let left : map (task_of j) (filter p (range_with_len (a + 1) n)) ≡ tasks = cc in
      ap (λ x. filter (other_task x) tasks) (sym same) ∙ ap (filter (other_task (task_of j a))) (sym left) ∙ stay j a (a + 1) n p (omega arith) ∙ left
  at false f rest = rest (rw f at e)

in_rank_order : (rule : RuleValue) (ls : List Lease) (j : ℕ) (o : Option Judging) (t : Task) (tasks : List Task) → open_at rule ls j o ≡ t ∷ tasks → filter (other_task t) tasks ≡ tasks
in_rank_order rule ls j None t tasks e = cc
in_rank_order rule ls j (Some judging) t tasks e =
    let row = judging.row in
    once j 1 (length row) (λ x. is_empty_cell row x && (is_wanted rule judging.mode row x && is_free ls (task_of j x))) t tasks
    (sym (fused (is_empty_cell row) (is_wanted rule judging.mode row) (is_free ls) (task_of j) (range_with_len 1 (length row))) ∙ e)

-- once its first open task is handed out, the judging has the others
pub rest_open : (s : JudgeState) (host j : ℕ) (t : Task) (tasks : List Task) → open_of s j ≡ t ∷ tasks → open_of (hand_out s host t) j ≡ tasks
rest_open s host j t tasks e =
    let self : same_task t t ≡ true = same_self t in
    let gone : filter (other_task t) (t ∷ tasks) ≡ filter (other_task t) tasks = rw self refl in
    own_handed s host t j ∙ ap (filter (other_task t)) e ∙ gone ∙ in_rank_order s.rule s.leases j (item_of s.judgings j) t tasks e

-- ---- the judging of the first open task

named : (j : ℕ) (ns : List ℕ) (t : Task) (tasks : List Task) → map (task_of j) ns ≡ t ∷ tasks → t.judging ≡ j
named j [] t tasks e = cc
named j (n ∷ ns) t tasks e = let same : task_of j n ≡ t = cc in ap (λ (x : Task). x.judging) (sym same)

in_its_judging : (rule : RuleValue) (ls : List Lease) (j : ℕ) (judging : Judging) (t : Task) (tasks : List Task) → open_in rule ls (j, judging) ≡ t ∷ tasks → t.judging ≡ j
in_its_judging rule ls j judging t tasks e =
    let row = judging.row in
    named j (filter (λ x. is_empty_cell row x && (is_wanted rule judging.mode row x && is_free ls (task_of j x))) (range_with_len 1 (length row))) t tasks
    (sym (fused (is_empty_cell row) (is_wanted rule judging.mode row) (is_free ls) (task_of j) (range_with_len 1 (length row))) ∙ e)

own_judging : (rule : RuleValue) (ls : List Lease) (j : ℕ) (o : Option Judging) (t : Task) (tasks : List Task) → open_at rule ls j o ≡ t ∷ tasks → t.judging ≡ j
own_judging rule ls j None t tasks e = cc
own_judging rule ls j (Some judging) t tasks e = in_its_judging rule ls j judging t tasks e

-- the tasks begin with those of the judging of this task, which is the first
record IsLed (rule : RuleValue) (ls : List Lease) (n : ℕ) (js : List Judging) (all : List Task) (t : Task) : Type 0 where
  place : ℕ
  judging : Judging
  own : List Task
  others : List Task
  number : t.judging ≡ n + place
  there : slice_get js place ≡ Some judging
  first : open_in rule ls (t.judging, judging) ≡ t ∷ own
  is : all ≡ open_in rule ls (t.judging, judging) ++ others

led_more : (rule : RuleValue) (ls : List Lease) (n : ℕ) (js : List Judging) (all more : List Task) (t : Task) → IsLed rule ls n js all t → IsLed rule ls n js (all ++ more) t
led_more rule ls n js all more t h = record {
  place = h.place;
  judging = h.judging;
  own = h.own;
  others = h.others ++ more;
  number = h.number;
  there = h.there;
  first = h.first;
  is = ap (λ xs. xs ++ more) h.is ∙ append_assoc (open_in rule ls (t.judging, h.judging)) h.others more;
}

led_behind : (rule : RuleValue) (ls : List Lease) (n : ℕ) (z : Judging) (js : List Judging) (all : List Task) (t : Task) → IsLed rule ls (n + 1) js all t → IsLed rule ls n (z ∷ js) all t
led_behind rule ls n z js all t h = record {
  place = suc h.place;
  judging = h.judging;
  own = h.own;
  others = h.others;
  number = let e = h.number in omega (arith, e);
  there = h.there;
  first = h.first;
  is = h.is;
}

head_of : (xs ys : List Task) (t : Task) → slice_get (xs ++ ys) 0 ≡ Some t → (slice_get xs 0 ≡ Some t) ⊎ ((xs ≡ []) × (slice_get ys 0 ≡ Some t))
head_of [] ys t e = inr (refl, e)
head_of (x ∷ xs) ys t e = inl e

led_by : (rule : RuleValue) (ls : List Lease) (class : Class) (n : ℕ) (js : List Judging) (t : Task) → slice_get (open_from rule ls class n js) 0 ≡ Some t → IsLed rule ls n js (open_from rule ls class n js) t
led_by rule ls class n [] t e = cc
led_by rule ls class n (z ∷ js) t e = at (led_by rule ls class (n + 1) js t) (is_active z) (same_class z.class class) refl refl where
  rest : List Task
  rest = open_from rule ls class (n + 1) js

  here : (slice_get rest 0 ≡ Some t → IsLed rule ls (n + 1) js rest t) → (o : List Task) → open_in rule ls (n, z) ≡ o → slice_get (o ++ rest) 0 ≡ Some t → IsLed rule ls n (z ∷ js) (o ++ rest) t
  here later [] i f = led_behind rule ls n z js rest t (later f)
  here later (x ∷ xs) i f =
      let same : x ≡ t = cc in
      let its : open_in rule ls (n, z) ≡ t ∷ xs = i ∙ ap (λ y. y ∷ xs) same in
      let number : t.judging ≡ n = in_its_judging rule ls n z t xs its in
      let first : open_in rule ls (t.judging, z) ≡ t ∷ xs = ap (λ m. open_in rule ls (m, z)) number ∙ its in
      record {
        place = 0;
        judging = z;
        own = xs;
        others = rest;
        number = omega (arith, number);
        there = refl;
        first = first;
        is = ap (λ ys. ys ++ rest) (ap (λ y. y ∷ xs) same ∙ sym first);
      }

  at : (slice_get rest 0 ≡ Some t → IsLed rule ls (n + 1) js rest t) → (a s : Bool) → is_active z ≡ a → same_class z.class class ≡ s → IsLed rule ls n (z ∷ js) (open_from rule ls class n (z ∷ js)) t
  at later true true i k =
      let is : open_from rule ls class n (z ∷ js) ≡ open_in rule ls (n, z) ++ rest = rw (i, k) refl in
      subst (λ xs. IsLed rule ls n (z ∷ js) xs t) (sym is) (here later (open_in rule ls (n, z)) refl (ap (λ xs. slice_get xs 0) (sym is) ∙ e))
  at later true false i k =
      let is : open_from rule ls class n (z ∷ js) ≡ rest = rw (i, k) refl in
      subst (λ xs. IsLed rule ls n (z ∷ js) xs t) (sym is) (led_behind rule ls n z js rest t (later (ap (λ xs. slice_get xs 0) (sym is) ∙ e)))
  at later false s i k =
      let is : open_from rule ls class n (z ∷ js) ≡ rest = rw i refl in
      subst (λ xs. IsLed rule ls n (z ∷ js) xs t) (sym is) (led_behind rule ls n z js rest t (later (ap (λ xs. slice_get xs 0) (sym is) ∙ e)))

all_led : (s : JudgeState) (t : Task) → first_open s ≡ Some t → IsLed s.rule s.leases 1 s.judgings (open_tasks s.rule s.judgings s.leases) t
all_led s t e = elim (head_of (high ++ normal) low t e) [
  | inl f ↦ led_more s.rule s.leases 1 s.judgings (high ++ normal) low t (elim (head_of high normal t f) [
    | inl g ↦ led_more s.rule s.leases 1 s.judgings high normal t (led_by s.rule s.leases High 1 s.judgings t g)
    | inr g ↦ subst (λ xs. IsLed s.rule s.leases 1 s.judgings (xs ++ normal) t) (sym g.0) (led_by s.rule s.leases Normal 1 s.judgings t g.1)
  ])
  | inr f ↦ subst (λ xs. IsLed s.rule s.leases 1 s.judgings (xs ++ low) t) (sym f.0) (led_by s.rule s.leases Low 1 s.judgings t f.1)
] where
  high : List Task
  high = open_in_class s.rule s.judgings s.leases High

  normal : List Task
  normal = open_in_class s.rule s.judgings s.leases Normal

  low : List Task
  low = open_in_class s.rule s.judgings s.leases Low

open_there : (s : JudgeState) (t : Task) (all : List Task) (h : IsLed s.rule s.leases 1 s.judgings all t) → open_of s t.judging ≡ open_in s.rule s.leases (t.judging, h.judging)
open_there s t all h = ap (open_at s.rule s.leases t.judging) (ap (item_of s.judgings) h.number ∙ item_next s.judgings h.place ∙ h.there)

-- the first open task is the first of its judging
pub own_first : (s : JudgeState) (t : Task) → first_open s ≡ Some t → (tasks : List Task) × (open_of s t.judging ≡ t ∷ tasks)
own_first s t e = let h = all_led s t e in (h.own, open_there s t (open_tasks s.rule s.judgings s.leases) h ∙ h.first)

pub comes_first : (s : JudgeState) (t : Task) → first_open s ≡ Some t → ComesFirst s t.judging
comes_first s t e =
    let h = all_led s t e in
    record { others = h.others; first = h.is ∙ ap (λ xs. xs ++ h.others) (sym (open_there s t (open_tasks s.rule s.judgings s.leases) h)) }

-- no other judging comes before it once one of its tasks is handed out
pub still_first : (s : JudgeState) (host j : ℕ) (t : Task) → ComesFirst s j → ComesFirst (hand_out s host t) j
still_first s host j t h = record {
  others = filter (other_task t) h.others;
  first = all_handed s host t ∙ ap (filter (other_task t)) h.first ∙ filter-append (other_task t) (open_of s j) h.others ∙ ap (λ xs. xs ++ filter (other_task t) h.others) (sym (own_handed s host t j));
}

-- where the first open task is of another judging, or there is none, the judging that comes first has none
pub none_left : (s : JudgeState) (j : ℕ) → ComesFirst s j → ((t : Task) → first_open s ≡ Some t → t.judging ≡ j → ⊥) → slice_get (open_of s j) 0 ≡ None
none_left s j h none = at (open_of s j) refl where
  at : (o : List Task) → open_of s j ≡ o → slice_get o 0 ≡ None
  at [] e = refl
  at (t ∷ tasks) e =
      let first : first_open s ≡ Some t = ap (λ xs. slice_get xs 0) (h.first ∙ ap (λ xs. xs ++ h.others) e) in
      absurd (none t first (own_judging s.rule s.leases j (item_of s.judgings j) t tasks e))

-- ---- a batch

-- so many tasks of the judging are left to be handed out: with them all is as it should be
pub record IsPartOfBatch (old : JudgeState) (old_tests : List ℕ) (host j more : ℕ) (s : JudgeState) (tests : List ℕ) (left : ℕ) : Type 0 where
  pub first : ComesFirst s j
  pub few : held_count s.leases host + left ≤ 64
  pub room : length tests + left ≤ 16
  pub state : hand_out_all s host (take left (open_of s j)) ≡ hand_out_all old host (take more (open_of old j))
  pub ranks : tests ++ ranks_of (take left (open_of s j)) ≡ old_tests ++ ranks_of (take more (open_of old j))

-- what is left is nothing
pub batch_ends : (old : JudgeState) (old_tests : List ℕ) (host j more : ℕ) (s : JudgeState) (tests : List ℕ) (left : ℕ) → IsPartOfBatch old old_tests host j more s tests left → take left (open_of s j) ≡ []
    → (s ≡ hand_out_all old host (take more (open_of old j))) × (tests ≡ old_tests ++ ranks_of (take more (open_of old j)))
batch_ends old old_tests host j more s tests left h e =
    (ap (hand_out_all s host) (sym e) ∙ h.state, sym (append-nil tests) ∙ ap (λ ts. tests ++ ranks_of ts) (sym e) ∙ h.ranks)

pub none_taken : (left : ℕ) (tasks : List Task) → slice_get tasks 0 ≡ None → take left tasks ≡ []
none_taken zero tasks e = refl
none_taken (suc left) [] e = refl
none_taken (suc left) (t ∷ tasks) e = cc

holds_more : (b : Bool) (n left : ℕ) → n + suc left ≤ 64 → n + one_if b + left ≤ 64
holds_more true n left h = omega (arith, h)
holds_more false n left h = omega (arith, h)

-- one more is handed out
pub batch_goes_on : (old : JudgeState) (old_tests : List ℕ) (host j more : ℕ) (s : JudgeState) (tests : List ℕ) (left : ℕ) (t : Task) → IsPartOfBatch old old_tests host j more s tests (suc left) → Some t ≡ slice_get (open_of s j) 0
    → IsPartOfBatch old old_tests host j more (hand_out s host t) (tests ++ t.test ∷ []) left
batch_goes_on old old_tests host j more s tests left t h e = by_open (open_of s j) refl e where
  lease : Lease
  lease = record { host = host; task = t; until = s.now + s.lease }

  by_open : (o : List Task) → open_of s j ≡ o → Some t ≡ slice_get o 0 → IsPartOfBatch old old_tests host j more (hand_out s host t) (tests ++ t.test ∷ []) left
  by_open [] i f = cc
  by_open (x ∷ tasks) i f =
      let same : x ≡ t = cc in
      let is : open_of s j ≡ t ∷ tasks = i ∙ ap (λ y. y ∷ tasks) same in
      let rest : open_of (hand_out s host t) j ≡ tasks = rest_open s host j t tasks is in
      let ranks : (tests ++ t.test ∷ []) ++ ranks_of (take left tasks) ≡ tests ++ ranks_of (take (suc left) (t ∷ tasks)) = append_assoc tests (t.test ∷ []) (ranks_of (take left tasks)) in
      let held : held_count (hand_out s host t).leases host ≡ held_count s.leases host + one_if (holds host lease) = count_push (holds host) s.leases lease in
      let few = holds_more (holds host lease) (held_count s.leases host) left h.few in
      record {
        first = still_first s host j t h.first;
        few = omega (arith, held, few);
        room = omega (arith, h.room, length_push tests t.test);
        state = ap (λ ts. hand_out_all (hand_out s host t) host (take left ts)) rest ∙ ap (λ ts. hand_out_all s host (take (suc left) ts)) (sym is) ∙ h.state;
        ranks = ap (λ ts. (tests ++ t.test ∷ []) ++ ranks_of (take left ts)) rest ∙ ranks ∙ ap (λ ts. tests ++ ranks_of (take (suc left) ts)) (sym is) ∙ h.ranks;
      }

-- a fetch hands out the first open task, and then the rest of the batch
pub batch_is : (s : JudgeState) (host most more : ℕ) (t : Task) → held_count s.leases host < 64 → first_open s ≡ Some t → suc more ≡ batch_size most (held_count s.leases host)
    → judge_fetch s host most ≡ (
      hand_out_all (hand_out s host t) host (take more (open_of (hand_out s host t) t.judging)),
      fetch.Batch t.judging (t.test ∷ ranks_of (take more (open_of (hand_out s host t) t.judging))) (lease_end s),
    )
batch_is s host most more t few e size =
    let own = own_first s t e in
    let may : leb 64 (held_count s.leases host) ≡ false = grind (arith, nat_tests, few) in
    let begins : judge_fetch s host most ≡ handed_batch s host t.judging (take (batch_size most (held_count s.leases host)) (open_of s t.judging)) = rw (may, e) refl in
    let tasks : take (batch_size most (held_count s.leases host)) (open_of s t.judging) ≡ t ∷ take more (open_of (hand_out s host t) t.judging) =
    ap (λ n. take n (open_of s t.judging)) (sym size) ∙ ap (take (suc more)) own.1 ∙ ap (λ xs. t ∷ take more xs) (sym (rest_open s host t.judging t own.0 own.1)) in
    begins ∙ ap (handed_batch s host t.judging) tasks
