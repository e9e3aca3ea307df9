-- The first lease at a key or behind it.
use Rattle.std.proofs.Common.{◌≡◌, List, [], ◌∷◌, ◌++◌, Option, Some, None, Bool, true, false, not, cond, refl, sym, ap, ◌∙◌, subst, arith, ◌&&◌}
use Rattle.std.specs.Prelude.{find, count_by, IfSome}
use Rattle.std.specs.Option.{option_or}
use Rattle.std.proofs.lemmas.Bool.Decides.{nat_tests}
use Rattle.std.proofs.lemmas.List.Folds.{find-append}
use Rattle.std.proofs.lemmas.List.Sums.{sum_by-cons}
use Rattle.farm_model.specs.declared.records.Lease.{Lease}
use Rattle.lease_tree.specs.declared.keys.Key.{Key}
use Rattle.lease_tree.specs.declared.keys.Order.{Order}
use Rattle.lease_tree.specs.Keys.{key_of, is_key_before, is_before, is_from, is_behind, NoneEarlier, Rising}
use Rattle.lease_tree.proofs.KeyOrder.{before_trans, not_after}
use Rattle.lease_tree.proofs.Rises.{Each, each_weaker, all_before, one_if, none_counted, found_right}

found_here : (p : Lease → Bool) (xs : List Lease) (x : Lease) (ys : List Lease) → p x ≡ true → find p xs ≡ None → find p (xs ++ x ∷ ys) ≡ Some x
found_here p xs x ys here none =
    find-append p xs (x ∷ ys) ∙ ap (λ (o : Option Lease). option_or o (find p (x ∷ ys))) none ∙ rw here refl

found_first : (p : Lease → Bool) (xs ys : List Lease) (x : Lease) → find p xs ≡ Some x → find p (xs ++ ys) ≡ Some x
found_first p xs ys x some = find-append p xs ys ∙ ap (λ (o : Option Lease). option_or o (find p ys)) some

-- ---- at the key or behind it

pub from_right : (by : Order) (xs : List Lease) (x : Lease) (ys : List Lease) (key : Key) → Rising by (xs ++ x ∷ ys) → is_key_before (key_of by x) key ≡ true → find (is_from by key) (xs ++ x ∷ ys) ≡ find (is_from by key) ys
from_right by xs x ys key h lt =
    let no : is_from by key x ≡ false = ap not lt in
    let none : Each (λ y. is_from by key y ≡ false) xs = each_weaker (λ y. is_before by y x ≡ true) (λ y. is_from by key y ≡ false) (λ y b. ap not (before_trans (key_of by y) (key_of by x) key b lt)) xs (all_before by xs x ys h) in
    found_right (is_from by key) xs (x ∷ ys) none ∙ rw no refl

pub from_here : (by : Order) (xs : List Lease) (x : Lease) (ys : List Lease) (key : Key) → is_key_before (key_of by x) key ≡ false → find (is_from by key) xs ≡ None → find (is_from by key) (xs ++ x ∷ ys) ≡ Some x
from_here by xs x ys key ge none = found_here (is_from by key) xs x ys (ap not ge) none

pub from_first : (by : Order) (xs ys : List Lease) (x : Lease) (key : Key) → find (is_from by key) xs ≡ Some x → find (is_from by key) (xs ++ ys) ≡ Some x
from_first by xs ys x key some = found_first (is_from by key) xs ys x some

-- ---- behind the key

not_behind : (key a b : Key) → is_key_before a b ≡ true → is_key_before key b ≡ false → is_key_before key a ≡ false
not_behind key a b h k = grind (arith, nat_tests)

pub behind_right : (by : Order) (xs : List Lease) (x : Lease) (ys : List Lease) (key : Key) → Rising by (xs ++ x ∷ ys) → is_key_before key (key_of by x) ≡ false → find (is_behind by key) (xs ++ x ∷ ys) ≡ find (is_behind by key) ys
behind_right by xs x ys key h last =
    let none : Each (λ y. is_behind by key y ≡ false) xs = each_weaker (λ y. is_before by y x ≡ true) (λ y. is_behind by key y ≡ false) (λ y b. not_behind key (key_of by y) (key_of by x) b last) xs (all_before by xs x ys h) in
    found_right (is_behind by key) xs (x ∷ ys) none ∙ rw last refl

pub behind_here : (by : Order) (xs : List Lease) (x : Lease) (ys : List Lease) (key : Key) → is_key_before key (key_of by x) ≡ true → find (is_behind by key) xs ≡ None → find (is_behind by key) (xs ++ x ∷ ys) ≡ Some x
behind_here by xs x ys key gt none = found_here (is_behind by key) xs x ys gt none

pub behind_first : (by : Order) (xs ys : List Lease) (x : Lease) (key : Key) → find (is_behind by key) xs ≡ Some x → find (is_behind by key) (xs ++ ys) ≡ Some x
behind_first by xs ys x key some = found_first (is_behind by key) xs ys x some

-- ---- what is found is the least that passes

abbrev earlier : Order → (Lease → Bool) → Lease → Lease → Bool
earlier by p x other = p other && is_before by other x

and_second : (a b : Bool) → b ≡ false → (a && b) ≡ false
and_second true b h = h
and_second false b h = refl

pub least_found : (by : Order) (p : Lease → Bool) (xs : List Lease) (x : Lease) → Rising by xs → find p xs ≡ Some x → NoneEarlier by p xs x
least_found by p [] x h e = cc
least_found by p (y ∷ ys) x h e =
    elim (p y) as (λ t. p y ≡ t → cond t (Some y) (find p ys) ≡ Some x → count_by (earlier by p x) (y ∷ ys) ≡ 0) [
      | true ↦ λ t f.
          let is : y ≡ x = cc in
          let itself : is_before by y y ≡ false = grind (arith, nat_tests) in
          let here : earlier by p y y ≡ false = and_second (p y) (is_before by y y) itself in
          let rest : Each (λ z. earlier by p y z ≡ false) ys = each_weaker (λ z. is_before by y z ≡ true) (λ z. earlier by p y z ≡ false) (λ z b. and_second (p z) (is_before by z y) (not_after (key_of by y) (key_of by z) b)) ys h.0 in
          subst (λ (w : Lease). count_by (earlier by p w) (y ∷ ys) ≡ 0) is (none_counted (earlier by p y) (y ∷ ys) (here, rest))
      | false ↦ λ t f.
          let here : one_if (earlier by p x y) ≡ 0 = ap (λ b. one_if (b && is_before by y x)) t in
          omega (arith, sum_by-cons (λ z. cond (earlier by p x z) 1 0) y ys, here, least_found by p ys x h.1 f)
    ] refl e

pub least_if : (by : Order) (p : Lease → Bool) (xs : List Lease) (o : Option Lease) → o ≡ find p xs → Rising by xs → IfSome o (λ lease. NoneEarlier by p xs lease)
least_if by p xs None is h = tt
least_if by p xs (Some x) is h = least_found by p xs x h (sym is)
