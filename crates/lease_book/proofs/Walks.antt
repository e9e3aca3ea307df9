-- Walks over leases in order.
use Rattle.std.proofs.Common.{ℕ, ◌≡◌, ◌≢◌, ◌-◌, ◌<◌, List, [], ◌∷◌, Option, Some, None, Bool, true, false, not, refl, sym, ◌∙◌, subst, arith, find, count_by, ◌&&◌, ◌||◌}
use Rattle.std.specs.Prelude.{nat_lt, IfSome}
use Rattle.std.proofs.lemmas.Bool.Decides.{nat_tests}
use Rattle.farm_kinds.specs.declared.outcomes.Task.{Task}
use Rattle.farm_model.specs.declared.records.Lease.{Lease}
use Rattle.farm_model.specs.Leases.{holds_of, renew_if, renewed, renewed_of}
use Rattle.lease_tree.specs.declared.keys.Order.{Order}
use Rattle.lease_tree.specs.declared.keys.Order.TheVariants as order
use Rattle.lease_tree.specs.Keys.{is_before, is_behind as stands_behind, NoneEarlier}
use Rattle.lease_tree.specs.TreeValue.{OrderedLeases}
use Rattle.lease_book.specs.Book.{IsSinglyLeased}
use Rattle.lease_book.specs.BookLayout.{IsIndex}
use Rattle.lease_book.specs.Behind.{is_behind, behind_count}
use Rattle.lease_book.specs.Walks.{IsFirstOf, FirstOf, is_after, is_left, key_at, stands_after, IsNext}
use Rattle.lease_book.proofs.Counts.{count_wider, found_passes, none_counts}
use Rattle.lease_book.proofs.Singly.{on, held_on, ends_one}
use Rattle.lease_book.proofs.Index.{there_same}
use Rattle.lease_book.proofs.Renewed.{is_other, count_map, count_either, renewed_idle, renewed_twice, none_foreign}

-- ---- what a tree finds first is the first of the book's leases

first_in : (by : Order) (p : Lease → Bool) (xs : List Lease) (n : ℕ) (tree : OrderedLeases) (o : Option Lease) → IsIndex by xs n tree → IsSinglyLeased xs → o ≡ find p tree.leases → IfSome o (λ x. NoneEarlier by p tree.leases x) → FirstOf by p xs o
first_in by p xs n tree None h single is least = h.same.count p ∙ none_counts p tree.leases (sym is)
first_in by p xs n tree (Some x) h single is least = record {
  passes = found_passes p tree.leases x (sym is);
  least = h.same.count (λ other. p other && is_before by other x) ∙ least;
  ends = λ q t. ends_one q xs x single (held_on xs x single (there_same p xs tree.leases x h.same (sym is))) t;
}

pub tree_first : (by : Order) (p : Order → Lease → Bool) (xs : List Lease) (n : ℕ) (tree : OrderedLeases) (o : Option Lease) → IsIndex by xs n tree → IsSinglyLeased xs → o ≡ find (p tree.order) tree.leases → IfSome o (λ x. NoneEarlier tree.order (p tree.order) tree.leases x) → FirstOf by (p by) xs o
tree_first by p xs n tree o h single is least =
    first_in by (p by) xs n tree o h single (subst (λ (b : Order). o ≡ find (p b) tree.leases) h.order is)
    (subst (λ (b : Order). IfSome o (λ x. NoneEarlier b (p b) tree.leases x)) h.order least)

-- ---- the tests of a judging behind one of them

abbrev behind : ℕ → ℕ → Lease → Bool
behind judging test x = stands_behind order.Judging (key_at judging judging test) x

behind_stands : (judging test : ℕ) (x : Lease) → is_behind judging test x ≡ true → behind judging test x ≡ true
behind_stands judging test x h = grind (arith, nat_tests)

pub behind_none : (judging test : ℕ) (xs : List Lease) → count_by (behind judging test) xs ≡ 0 → behind_count xs judging test ≡ 0
behind_none judging test xs none =
    omega (arith, none, count_wider (behind judging test) (is_behind judging test) (behind_stands judging test) xs)

other_before : (judging test : ℕ) (x y : Lease) → behind judging test x ≡ true → x.task.judging ≢ judging → is_behind judging test y ≡ true → (behind judging test y && is_before order.Judging y x) ≡ true
other_before judging test x y a ne b =
    let lt : judging < x.task.judging = grind (arith, nat_tests) in
    grind (arith, nat_tests)

pub behind_other : (judging test : ℕ) (xs : List Lease) (x : Lease) → IsFirstOf order.Judging (behind judging test) xs x → x.task.judging ≢ judging → behind_count xs judging test ≡ 0
behind_other judging test xs x first ne =
    omega (arith, first.least, count_wider (λ y. behind judging test y && is_before order.Judging y x) (is_behind judging test) (λ y b. other_before judging test x y first.passes ne b) xs)

pub behind_here : (judging test : ℕ) (x : Lease) → behind judging test x ≡ true → x.task.judging ≡ judging → is_behind judging test x ≡ true
behind_here judging test x a e = grind (arith, nat_tests)

-- what the tree by judgings finds first behind the test
pub behind_first : (judging test : ℕ) (xs : List Lease) (n : ℕ) (tree : OrderedLeases) (found o : Option Lease) → IsIndex order.Judging xs n tree → IsSinglyLeased xs → found ≡ find (stands_behind tree.order (key_at judging judging test)) tree.leases
    → IfSome found (λ x. NoneEarlier tree.order (stands_behind tree.order (key_at judging judging test)) tree.leases x) → found ≡ o → FirstOf order.Judging (behind judging test) xs o
behind_first judging test xs n tree found o h single is least same =
    subst (λ (p : Option Lease). FirstOf order.Judging (behind judging test) xs p) same
    (tree_first order.Judging (λ by. stands_behind by (key_at judging judging test)) xs n tree found h single is least)

-- ---- the leases of a host on the tasks of a judging

abbrev after : ℕ → ℕ → Option ℕ → Lease → Bool
after host judging last x = stands_after host judging last order.Host x

left_stands : (host judging : ℕ) (last : Option ℕ) (x : Lease) → is_left host judging last x ≡ true → after host judging last x ≡ true
left_stands host judging None x h = grind (arith, nat_tests)
left_stands host judging (Some last) x h = grind (arith, nat_tests)

pub left_none : (host judging : ℕ) (last : Option ℕ) (xs : List Lease) → count_by (after host judging last) xs ≡ 0 → count_by (is_left host judging last) xs ≡ 0
left_none host judging last xs none =
    omega (arith, none, count_wider (after host judging last) (is_left host judging last) (left_stands host judging last) xs)

past_host : (host judging : ℕ) (last : Option ℕ) (x : Lease) → after host judging last x ≡ true → x.host ≢ host → host < x.host
past_host host judging None x a ne = grind (arith, nat_tests)
past_host host judging (Some last) x a ne = grind (arith, nat_tests)

past_judging : (host judging : ℕ) (last : Option ℕ) (x : Lease) → after host judging last x ≡ true → x.host ≡ host → x.task.judging ≢ judging → judging < x.task.judging
past_judging host judging None x a e ne = grind (arith, nat_tests)
past_judging host judging (Some last) x a e ne = grind (arith, nat_tests)

before_host : (host judging : ℕ) (last : Option ℕ) (x y : Lease) → host < x.host → is_left host judging last y ≡ true → is_before order.Host y x ≡ true
before_host host judging None x y lt h = grind (arith, nat_tests)
before_host host judging (Some last) x y lt h = grind (arith, nat_tests)

before_judging : (host judging : ℕ) (last : Option ℕ) (x y : Lease) → x.host ≡ host → judging < x.task.judging → is_left host judging last y ≡ true → is_before order.Host y x ≡ true
before_judging host judging None x y e lt h = grind (arith, nat_tests)
before_judging host judging (Some last) x y e lt h = grind (arith, nat_tests)

both_true : (a b : Bool) → a ≡ true → b ≡ true → (a && b) ≡ true
both_true a b h k = rw (h, k) refl

left_past : (host judging : ℕ) (last : Option ℕ) (xs : List Lease) (x : Lease) → IsFirstOf order.Host (after host judging last) xs x → ((y : Lease) → is_left host judging last y ≡ true → is_before order.Host y x ≡ true) → count_by (is_left host judging last) xs ≡ 0
left_past host judging last xs x first before =
    omega (
      arith,
      first.least,
      count_wider (λ y. after host judging last y && is_before order.Host y x) (is_left host judging last)
          (λ y b. both_true (after host judging last y) (is_before order.Host y x) (left_stands host judging last y b) (before y b)) xs,
    )

pub left_other_host : (host judging : ℕ) (last : Option ℕ) (xs : List Lease) (x : Lease) → IsFirstOf order.Host (after host judging last) xs x → x.host ≢ host → count_by (is_left host judging last) xs ≡ 0
left_other_host host judging last xs x first ne =
    left_past host judging last xs x first (λ y b. before_host host judging last x y (past_host host judging last x first.passes ne) b)

pub left_other_judging : (host judging : ℕ) (last : Option ℕ) (xs : List Lease) (x : Lease) → IsFirstOf order.Host (after host judging last) xs x → x.host ≡ host → x.task.judging ≢ judging → count_by (is_left host judging last) xs ≡ 0
left_other_judging host judging last xs x first e ne =
    left_past host judging last xs x first (λ y b. before_judging host judging last x y e (past_judging host judging last x first.passes e ne) b)

here_after : (host judging : ℕ) (last : Option ℕ) (x : Lease) → after host judging last x ≡ true → x.host ≡ host → x.task.judging ≡ judging → is_after last x.task.test ≡ true
here_after host judging None x a e f = refl
here_after host judging (Some last) x a e f = grind (arith, nat_tests)

before_here : (host judging : ℕ) (last : Option ℕ) (x y : Lease) → x.host ≡ host → x.task.judging ≡ judging → (is_left host judging last y && nat_lt y.task.test x.task.test) ≡ true → (after host judging last y && is_before order.Host y x) ≡ true
before_here host judging None x y e f h = grind (arith, nat_tests)
before_here host judging (Some last) x y e f h = grind (arith, nat_tests)

pub next_is : (host judging : ℕ) (last : Option ℕ) (xs : List Lease) (x : Lease) → IsFirstOf order.Host (after host judging last) xs x → x.host ≡ host → x.task.judging ≡ judging → IsNext host judging last xs x.task
next_is host judging last xs x first e f = record {
  judging_is = f;
  after = here_after host judging last x first.passes e f;
  none_before = omega (arith, first.least, count_wider (λ y. after host judging last y && is_before order.Host y x) (λ y. is_left host judging last y && nat_lt y.task.test x.task.test) (λ y b. before_here host judging last x y e f b) xs);
  ends = first.ends (holds_of host judging) (grind (arith, nat_tests));
}

-- ---- renewing them one after the other

-- a lease that was passed, and has another end
abbrev pub is_stale : ℕ → ℕ → ℕ → Option ℕ → Lease → Bool
is_stale host judging until last x = is_other (λ (y : Lease). holds_of host judging y && not (is_after last y.task.test)) until x

stale_start : (host judging until : ℕ) (x : Lease) → is_stale host judging until None x ≡ true → (false || false) ≡ true
stale_start host judging until x h = grind (arith, nat_tests)

pub none_stale : (host judging until : ℕ) (xs : List Lease) → count_by (is_stale host judging until None) xs ≡ 0
none_stale host judging until xs = count_either (is_stale host judging until None) (λ _. false) (λ _. false) (stale_start host judging until) xs (nothing xs) (nothing xs) where
  nothing : (xs : List Lease) → count_by (λ (x : Lease). false) xs ≡ 0
  nothing [] = refl
  nothing (x ∷ xs) = nothing xs

stale_before : (host judging until : ℕ) (last : Option ℕ) (task : Task) (x : Lease) → task.judging ≡ judging → is_stale host judging until (Some task.test) (renew_if (on task) until x) ≡ true → (is_stale host judging until last x || (is_left host judging last x && nat_lt x.task.test task.test)) ≡ true
stale_before host judging until None task x e h = grind (arith, nat_tests)
stale_before host judging until (Some last) task x e h = grind (arith, nat_tests)

pub stale_next : (host judging until : ℕ) (last : Option ℕ) (xs : List Lease) (task : Task) → count_by (is_stale host judging until last) xs ≡ 0 → IsNext host judging last xs task → count_by (is_stale host judging until (Some task.test)) (renewed xs task until) ≡ 0
stale_next host judging until last xs task none next =
    count_map (is_stale host judging until (Some task.test)) (renew_if (on task) until) xs
    ∙ count_either (λ x. is_stale host judging until (Some task.test) (renew_if (on task) until x)) (is_stale host judging until last) (λ x. is_left host judging last x && nat_lt x.task.test task.test)
    (λ x h. stale_before host judging until last task x next.judging_is h) xs none next.none_before

pub renewed_next : (host judging until : ℕ) (last : Option ℕ) (xs : List Lease) (task : Task) → IsNext host judging last xs task → renewed_of (renewed xs task until) host judging until ≡ renewed_of xs host judging until
renewed_next host judging until last xs task next =
    renewed_twice (holds_of host judging) (on task) until (λ x. refl) xs (none_foreign (holds_of host judging) xs task next.ends)

stale_or_left : (host judging until : ℕ) (last : Option ℕ) (x : Lease) → is_other (holds_of host judging) until x ≡ true → (is_stale host judging until last x || is_left host judging last x) ≡ true
stale_or_left host judging until None x h = grind (arith, nat_tests)
stale_or_left host judging until (Some last) x h = grind (arith, nat_tests)

pub all_renewed : (host judging until : ℕ) (last : Option ℕ) (xs : List Lease) → count_by (is_stale host judging until last) xs ≡ 0 → count_by (is_left host judging last) xs ≡ 0 → renewed_of xs host judging until ≡ xs
all_renewed host judging until last xs stale left =
    renewed_idle (holds_of host judging) until xs
    (count_either (is_other (holds_of host judging) until) (is_stale host judging until last) (is_left host judging last) (stale_or_left host judging until last) xs stale left)

-- how many tests may come yet, and one more at the start
abbrev pub tests_left : Option ℕ → ℕ
tests_left None = 65537
tests_left (Some last) = 65536 - last
