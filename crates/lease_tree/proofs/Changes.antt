-- Leases in order, of which there is one more or one less.
use Rattle.std.proofs.Common.{◌≡◌, ◌+◌, List, [], ◌∷◌, ◌++◌, Some, None, Bool, true, false, cond, length, append_assoc, length-append, refl, sym, ap, ◌∙◌, subst, arith}
use Rattle.std.specs.Prelude.{find}
use Rattle.farm_model.specs.declared.records.Lease.{Lease}
use Rattle.lease_tree.specs.declared.keys.Key.{Key}
use Rattle.lease_tree.specs.declared.keys.Order.{Order}
use Rattle.lease_tree.specs.Keys.{key_of, is_key_before, is_before, has_key, Rising, IsAdded, IsTaken}
use Rattle.lease_tree.proofs.KeyOrder.{before_trans, same_place}
use Rattle.lease_tree.proofs.Rises.{Each, each_left, each_right, each_join, each_weaker, all_before, all_after, rising_left, rising_right}

-- ---- one more

pub added_alone : (x : Lease) → IsAdded [] (x ∷ []) x
added_alone x = record { before = []; after = []; old_is = refl; new_is = refl }

pub added_left : (old new : List Lease) (r : Lease) (rest : List Lease) (x : Lease) → IsAdded old new x → IsAdded (old ++ r ∷ rest) (new ++ r ∷ rest) x
added_left old new r rest x h = record {
  before = h.before;
  after = h.after ++ r ∷ rest;
  old_is = ap (λ xs. xs ++ r ∷ rest) h.old_is ∙ append_assoc h.before h.after (r ∷ rest);
  new_is = ap (λ xs. xs ++ r ∷ rest) h.new_is ∙ append_assoc h.before (x ∷ h.after) (r ∷ rest);
}

pub added_right : (prefix : List Lease) (r : Lease) (old new : List Lease) (x : Lease) → IsAdded old new x → IsAdded (prefix ++ r ∷ old) (prefix ++ r ∷ new) x
added_right prefix r old new x h = record {
  before = prefix ++ r ∷ h.before;
  after = h.after;
  old_is = ap (λ xs. prefix ++ r ∷ xs) h.old_is ∙ sym (append_assoc prefix (r ∷ h.before) h.after);
  new_is = ap (λ xs. prefix ++ r ∷ xs) h.new_is ∙ sym (append_assoc prefix (r ∷ h.before) (x ∷ h.after));
}

each_added : (P : Lease → Type 0) (old new : List Lease) (x : Lease) → IsAdded old new x → Each P old → P x → Each P new
each_added P old new x h all one =
    let parts : Each P (h.before ++ h.after) = subst (Each P) h.old_is all in
    subst (Each P) (sym h.new_is) (each_join P h.before (x ∷ h.after) (each_left P h.before h.after parts) (one, each_right P h.before h.after parts))

rising_join : (by : Order) (xs : List Lease) (r : Lease) (ys : List Lease) → Rising by xs → Each (λ y. is_before by y r ≡ true) xs → Rising by (r ∷ ys) → Rising by (xs ++ r ∷ ys)
rising_join by [] r ys h b k = k
rising_join by (x ∷ xs) r ys h b k =
    let first : is_before by x r ≡ true = b.0 in
    let behind : Each (λ y. is_before by x y ≡ true) ys = each_weaker (λ y. is_before by r y ≡ true) (λ y. is_before by x y ≡ true) (λ y c. before_trans (key_of by x) (key_of by r) (key_of by y) first c) ys k.0 in
    (each_join (λ y. is_before by x y ≡ true) xs (r ∷ ys) h.0 (first, behind), rising_join by xs r ys h.1 b.1 k)

-- what is not found in the whole is not found in a part
pub absent_left : (p : Lease → Bool) (xs ys : List Lease) → find p (xs ++ ys) ≡ None → find p xs ≡ None
absent_left p [] ys e = refl
absent_left p (x ∷ xs) ys e = elim (p x) as (λ b. cond b (Some x) (find p (xs ++ ys)) ≡ None → cond b (Some x) (find p xs) ≡ None) [ true ↦ λ e. cc | false ↦ λ e. absent_left p xs ys e ] e

pub absent_right : (p : Lease → Bool) (xs ys : List Lease) → find p (xs ++ ys) ≡ None → find p ys ≡ None
absent_right p [] ys e = e
absent_right p (x ∷ xs) ys e = elim (p x) as (λ b. cond b (Some x) (find p (xs ++ ys)) ≡ None → find p ys ≡ None) [ true ↦ λ e. cc | false ↦ λ e. absent_right p xs ys e ] e

absent_head : (p : Lease → Bool) (x : Lease) (xs : List Lease) → find p (x ∷ xs) ≡ None → p x ≡ false
absent_head p x xs e = elim (p x) as (λ b. cond b (Some x) (find p xs) ≡ None → b ≡ false) [ true ↦ λ e. cc | false ↦ λ e. refl ] e

-- a lease that does not come before r, and does not stand where r stands, comes after it
comes_after : (by : Order) (r x : Lease) → is_key_before (key_of by x) (key_of by r) ≡ false → has_key by (key_of by x) r ≡ false → is_before by r x ≡ true
comes_after by r x ge other = elim (is_before by r x) as (λ b. is_before by r x ≡ b → b ≡ true) [ true ↦ λ e. refl | false ↦ λ e. let same = same_place (key_of by r) (key_of by x) e ge in cc ] refl

-- nothing stands there
abbrev pub IsFree : Order → Key → List Lease → Type 0
IsFree by key leases = find (has_key by key) leases ≡ None

-- the lease belongs on the left of r, or on its right
pub grown_left : (by : Order) (old new : List Lease) (r : Lease) (ys : List Lease) (x : Lease) → is_key_before (key_of by x) (key_of by r) ≡ true → IsAdded old new x → (Rising by old → IsFree by (key_of by x) old → Rising by new)
    → Rising by (old ++ r ∷ ys) → IsFree by (key_of by x) (old ++ r ∷ ys) → Rising by (new ++ r ∷ ys)
grown_left by old new r ys x lt added inner h free =
    let up = inner (rising_left by old (r ∷ ys) h) (absent_left (has_key by (key_of by x)) old (r ∷ ys) free) in
    rising_join by new r ys up (each_added (λ y. is_before by y r ≡ true) old new x added (all_before by old r ys h) lt) (all_after by old r ys h, rising_right by old r ys h)

pub grown_right : (by : Order) (xs : List Lease) (r : Lease) (old new : List Lease) (x : Lease) → is_key_before (key_of by x) (key_of by r) ≡ false → IsAdded old new x → (Rising by old → IsFree by (key_of by x) old → Rising by new)
    → Rising by (xs ++ r ∷ old) → IsFree by (key_of by x) (xs ++ r ∷ old) → Rising by (xs ++ r ∷ new)
grown_right by xs r old new x ge added inner h free =
    let p : Lease → Bool = has_key by (key_of by x) in
    let behind : find p (r ∷ old) ≡ None = absent_right p xs (r ∷ old) free in
    let up = inner (rising_right by xs r old h) (absent_right p (r ∷ []) old behind) in
    let after : is_before by r x ≡ true = comes_after by r x ge (absent_head p r old behind) in
    rising_join by xs r new (rising_left by xs (r ∷ old) h) (all_before by xs r old h) (each_added (λ y. is_before by r y ≡ true) old new x added (all_after by xs r old h) after, up)

-- ---- one less

pub taken_here : (xs ys : List Lease) (x : Lease) → IsTaken (xs ++ x ∷ ys) (xs ++ ys) x
taken_here xs ys x = record { before = xs; after = ys; old_is = refl; new_is = refl }

pub taken_left : (old new : List Lease) (r : Lease) (rest : List Lease) (x : Lease) → IsTaken old new x → IsTaken (old ++ r ∷ rest) (new ++ r ∷ rest) x
taken_left old new r rest x h = record {
  before = h.before;
  after = h.after ++ r ∷ rest;
  old_is = ap (λ xs. xs ++ r ∷ rest) h.old_is ∙ append_assoc h.before (x ∷ h.after) (r ∷ rest);
  new_is = ap (λ xs. xs ++ r ∷ rest) h.new_is ∙ append_assoc h.before h.after (r ∷ rest);
}

pub taken_right : (prefix : List Lease) (r : Lease) (old new : List Lease) (x : Lease) → IsTaken old new x → IsTaken (prefix ++ r ∷ old) (prefix ++ r ∷ new) x
taken_right prefix r old new x h = record {
  before = prefix ++ r ∷ h.before;
  after = h.after;
  old_is = ap (λ xs. prefix ++ r ∷ xs) h.old_is ∙ sym (append_assoc prefix (r ∷ h.before) (x ∷ h.after));
  new_is = ap (λ xs. prefix ++ r ∷ xs) h.new_is ∙ sym (append_assoc prefix (r ∷ h.before) h.after);
}

rising_taken : (by : Order) (xs : List Lease) (x : Lease) (ys : List Lease) → Rising by (xs ++ x ∷ ys) → Rising by (xs ++ ys)
rising_taken by [] x ys h = h.1
rising_taken by (z ∷ xs) x ys h =
    let P : Lease → Type 0 = λ y. is_before by z y ≡ true in
    (each_join P xs ys (each_left P xs (x ∷ ys) h.0) (each_right P xs (x ∷ ys) h.0).1, rising_taken by xs x ys h.1)

pub taken_rising : (by : Order) (old new : List Lease) (x : Lease) → IsTaken old new x → Rising by old → Rising by new
taken_rising by old new x h up = subst (Rising by) (sym h.new_is) (rising_taken by h.before x h.after (subst (Rising by) h.old_is up))

-- ---- counts

pub added_length : (old new : List Lease) (x : Lease) → IsAdded old new x → length new ≡ length old + 1
added_length old new x h = omega (arith, ap length h.old_is, ap length h.new_is, length-append h.before h.after, length-append h.before (x ∷ h.after))

pub taken_length : (old new : List Lease) (x : Lease) → IsTaken old new x → length old ≡ length new + 1
taken_length old new x h = omega (arith, ap length h.old_is, ap length h.new_is, length-append h.before h.after, length-append h.before (x ∷ h.after))
