-- Leases in order.
use Rattle.std.proofs.Common.{ℕ, ◌≡◌, ◌+◌, ◌<◌, ◌≤◌, List, [], ◌∷◌, ◌++◌, Option, Some, None, Bool, true, false, cond, length, refl, sym, ap, ◌∙◌, subst, arith, rules, ◌-◌, ◌^◌, min}
use Rattle.std.specs.Prelude.{find, count_by, slice_get, IfSome, nat_lt}
use Rattle.std.specs.List.{AllByRecursion}
use Rattle.std.specs.Option.{option_or}
use Rattle.std.proofs.lemmas.Bool.Decides.{nat_tests}
use Rattle.std.proofs.lemmas.List.Folds.{find-append}
use Rattle.std.proofs.lemmas.List.Sums.{sum_by-append, sum_by-cons}
use Rattle.farm_model.specs.declared.records.Lease.{Lease}
use Rattle.lease_tree.specs.declared.keys.Key.{Key}
use Rattle.lease_tree.specs.declared.keys.Order.{Order}
use Rattle.lease_tree.specs.Keys.{group_of, key_of, is_key_before, is_before, has_group, has_key, count_below, NoneBefore, Rising}
use Rattle.lease_tree.proofs.KeyOrder.{before_trans, not_after, not_same, not_same_after, same_key, group_before}

abbrev pub Each : (Lease → Type 0) → List Lease → Type 0
Each P xs = AllByRecursion P xs

pub each_left : (P : Lease → Type 0) (xs ys : List Lease) → Each P (xs ++ ys) → Each P xs
each_left P [] ys h = tt
each_left P (x ∷ xs) ys h = (h.0, each_left P xs ys h.1)

pub each_right : (P : Lease → Type 0) (xs ys : List Lease) → Each P (xs ++ ys) → Each P ys
each_right P [] ys h = h
each_right P (x ∷ xs) ys h = each_right P xs ys h.1

pub each_join : (P : Lease → Type 0) (xs ys : List Lease) → Each P xs → Each P ys → Each P (xs ++ ys)
each_join P [] ys h k = k
each_join P (x ∷ xs) ys h k = (h.0, each_join P xs ys h.1 k)

pub each_weaker : (P Q : Lease → Type 0) → ((x : Lease) → P x → Q x) → (xs : List Lease) → Each P xs → Each Q xs
each_weaker P Q f [] h = tt
each_weaker P Q f (x ∷ xs) h = (f x h.0, each_weaker P Q f xs h.1)

-- ---- parts of what rises

pub rising_left : (by : Order) (xs ys : List Lease) → Rising by (xs ++ ys) → Rising by xs
rising_left by [] ys h = tt
rising_left by (x ∷ xs) ys h = (each_left (λ y. is_before by x y ≡ true) xs ys h.0, rising_left by xs ys h.1)

pub rising_right : (by : Order) (xs : List Lease) (x : Lease) (ys : List Lease) → Rising by (xs ++ x ∷ ys) → Rising by ys
rising_right by [] x ys h = h.1
rising_right by (z ∷ xs) x ys h = rising_right by xs x ys h.1

-- what stands in front of a lease comes before it, and what stands behind it comes after it
pub all_before : (by : Order) (xs : List Lease) (x : Lease) (ys : List Lease) → Rising by (xs ++ x ∷ ys) → Each (λ y. is_before by y x ≡ true) xs
all_before by [] x ys h = tt
all_before by (z ∷ xs) x ys h = ((each_right (λ y. is_before by z y ≡ true) xs (x ∷ ys) h.0).0, all_before by xs x ys h.1)

pub all_after : (by : Order) (xs : List Lease) (x : Lease) (ys : List Lease) → Rising by (xs ++ x ∷ ys) → Each (λ y. is_before by x y ≡ true) ys
all_after by [] x ys h = h.0
all_after by (z ∷ xs) x ys h = all_after by xs x ys h.1

-- ---- what is found or counted in one part alone

abbrev pub one_if : Bool → ℕ
one_if b = cond b 1 0

none_found : (p : Lease → Bool) (xs : List Lease) → Each (λ x. p x ≡ false) xs → find p xs ≡ None
none_found p [] h = refl
none_found p (x ∷ xs) h = let no : p x ≡ false = h.0 in rw no (none_found p xs h.1)

pub none_counted : (p : Lease → Bool) (xs : List Lease) → Each (λ x. p x ≡ false) xs → count_by p xs ≡ 0
none_counted p [] h = refl
none_counted p (x ∷ xs) h =
    let none : one_if (p x) ≡ 0 = ap one_if h.0 in
    omega (arith, sum_by-cons (λ y. cond (p y) 1 0) x xs, none, none_counted p xs h.1)

all_counted : (p : Lease → Bool) (xs : List Lease) → Each (λ x. p x ≡ true) xs → count_by p xs ≡ length xs
all_counted p [] h = refl
all_counted p (x ∷ xs) h =
    let one : one_if (p x) ≡ 1 = ap one_if h.0 in
    omega (arith, sum_by-cons (λ y. cond (p y) 1 0) x xs, one, all_counted p xs h.1)

found_left : (p : Lease → Bool) (xs ys : List Lease) → Each (λ y. p y ≡ false) ys → find p (xs ++ ys) ≡ find p xs
found_left p [] ys h = none_found p ys h
found_left p (x ∷ xs) ys h = ap (λ o. cond (p x) (Some x) o) (found_left p xs ys h)

pub found_right : (p : Lease → Bool) (xs ys : List Lease) → Each (λ y. p y ≡ false) xs → find p (xs ++ ys) ≡ find p ys
found_right p [] ys h = refl
found_right p (x ∷ xs) ys h = let no : p x ≡ false = h.0 in rw no (found_right p xs ys h.1)

pub counted : (p : Lease → Bool) (xs : List Lease) (x : Lease) (ys : List Lease) → count_by p (xs ++ x ∷ ys) ≡ count_by p xs + (cond (p x) 1 0 + count_by p ys)
counted p xs x ys = sum_by-append (λ y. cond (p y) 1 0) xs (x ∷ ys) ∙ ap (λ n. count_by p xs + n) (sum_by-cons (λ y. cond (p y) 1 0) x ys)

-- ---- where a key is found

-- behind a lease that comes after the key, nothing stands there
none_behind : (by : Order) (x : Lease) (ys : List Lease) (key : Key) → Each (λ y. is_before by x y ≡ true) ys → is_key_before key (key_of by x) ≡ true → Each (λ y. has_key by key y ≡ false) (x ∷ ys)
none_behind by x ys key h lt =
    (not_same_after key (key_of by x) lt, each_weaker (λ y. is_before by x y ≡ true) (λ y. has_key by key y ≡ false) (λ y b. not_same_after key (key_of by y) (before_trans key (key_of by x) (key_of by y) lt b)) ys h)

none_ahead : (by : Order) (x : Lease) (xs : List Lease) (key : Key) → Each (λ y. is_before by y x ≡ true) xs → is_key_before (key_of by x) key ≡ true → Each (λ y. has_key by key y ≡ false) xs
none_ahead by x xs key h lt =
    each_weaker (λ y. is_before by y x ≡ true) (λ y. has_key by key y ≡ false) (λ y b. not_same (key_of by y) key (before_trans (key_of by y) (key_of by x) key b lt)) xs h

pub key_left : (by : Order) (xs : List Lease) (x : Lease) (ys : List Lease) (key : Key) → Rising by (xs ++ x ∷ ys) → is_key_before key (key_of by x) ≡ true → find (has_key by key) (xs ++ x ∷ ys) ≡ find (has_key by key) xs
key_left by xs x ys key h lt = found_left (has_key by key) xs (x ∷ ys) (none_behind by x ys key (all_after by xs x ys h) lt)

pub key_right : (by : Order) (xs : List Lease) (x : Lease) (ys : List Lease) (key : Key) → Rising by (xs ++ x ∷ ys) → is_key_before (key_of by x) key ≡ true → find (has_key by key) (xs ++ x ∷ ys) ≡ find (has_key by key) ys
key_right by xs x ys key h lt =
    let no : has_key by key x ≡ false = not_same (key_of by x) key lt in
    found_right (has_key by key) xs (x ∷ ys) (none_ahead by x xs key (all_before by xs x ys h) lt) ∙ rw no refl

pub key_here : (by : Order) (xs : List Lease) (x : Lease) (ys : List Lease) (key : Key) → Rising by (xs ++ x ∷ ys) → is_key_before key (key_of by x) ≡ false → is_key_before (key_of by x) key ≡ false → find (has_key by key) (xs ++ x ∷ ys) ≡ Some x
key_here by xs x ys key h a b =
    let same : key_of by x ≡ key = same_key (key_of by x) key b a in
    let none : Each (λ y. has_key by key y ≡ false) xs = each_weaker (λ y. is_before by y x ≡ true) (λ y. has_key by key y ≡ false) (λ y c. not_same (key_of by y) key (subst (λ k. is_key_before (key_of by y) k ≡ true) same c)) xs (all_before by xs x ys h) in
    let here : has_key by key x ≡ true = subst (λ (k : Key). has_key by k x ≡ true) same (grind (arith, nat_tests)) in
    found_right (has_key by key) xs (x ∷ ys) none ∙ rw here refl

-- ---- where a group is found

pub group_behind : (by : Order) (x : Lease) (ys : List Lease) (group : ℕ) → Each (λ y. is_before by x y ≡ true) ys → group < group_of by x → Each (λ y. has_group by group y ≡ false) ys
group_behind by x ys group h lt =
    each_weaker (λ y. is_before by x y ≡ true) (λ y. has_group by group y ≡ false) (λ y b. let le : group_of by x ≤ group_of by y = group_before (key_of by x) (key_of by y) b in grind (arith, nat_tests, lt, le)) ys h

pub group_ahead : (by : Order) (x : Lease) (xs : List Lease) (group : ℕ) → Each (λ y. is_before by y x ≡ true) xs → group_of by x < group → Each (λ y. has_group by group y ≡ false) xs
group_ahead by x xs group h lt =
    each_weaker (λ y. is_before by y x ≡ true) (λ y. has_group by group y ≡ false) (λ y b. let le : group_of by y ≤ group_of by x = group_before (key_of by y) (key_of by x) b in grind (arith, nat_tests, lt, le)) xs h

pub group_left : (by : Order) (xs : List Lease) (x : Lease) (ys : List Lease) (group : ℕ) → Rising by (xs ++ x ∷ ys) → group < group_of by x → find (has_group by group) (xs ++ x ∷ ys) ≡ find (has_group by group) xs
group_left by xs x ys group h lt =
    let no : has_group by group x ≡ false = grind (arith, nat_tests, lt) in
    found_left (has_group by group) xs (x ∷ ys) (no, group_behind by x ys group (all_after by xs x ys h) lt)

pub group_right : (by : Order) (xs : List Lease) (x : Lease) (ys : List Lease) (group : ℕ) → Rising by (xs ++ x ∷ ys) → group_of by x < group → find (has_group by group) (xs ++ x ∷ ys) ≡ find (has_group by group) ys
group_right by xs x ys group h lt =
    let no : has_group by group x ≡ false = grind (arith, nat_tests, lt) in
    found_right (has_group by group) xs (x ∷ ys) (group_ahead by x xs group (all_before by xs x ys h) lt) ∙ rw no refl

pub group_here : (by : Order) (xs : List Lease) (x : Lease) (ys : List Lease) (group : ℕ) → group ≤ group_of by x → group_of by x ≤ group → find (has_group by group) xs ≡ None → find (has_group by group) (xs ++ x ∷ ys) ≡ Some x
group_here by xs x ys group a b none =
    let here : has_group by group x ≡ true = grind (arith, nat_tests, a, b) in
    find-append (has_group by group) xs (x ∷ ys) ∙ ap (λ (o : Option Lease). option_or o (find (has_group by group) (x ∷ ys))) none ∙ rw here refl

pub group_first : (by : Order) (xs ys : List Lease) (x : Lease) (group : ℕ) → find (has_group by group) xs ≡ Some x → find (has_group by group) (xs ++ ys) ≡ Some x
group_first by xs ys x group some = find-append (has_group by group) xs ys ∙ ap (λ (o : Option Lease). option_or o (find (has_group by group) ys)) some

-- ---- the first

pub first_of_all : (by : Order) (xs : List Lease) → Rising by xs → IfSome (slice_get xs 0) (λ lease. NoneBefore by xs lease)
first_of_all by [] h = search rules
first_of_all by (x ∷ xs) h =
    let itself : is_before by x x ≡ false = grind (arith, nat_tests) in
    let none : count_by (λ y. is_before by y x) (x ∷ xs) ≡ 0 = none_counted (λ y. is_before by y x) (x ∷ xs) (itself, each_weaker (λ y. is_before by x y ≡ true) (λ y. is_before by y x ≡ false) (λ y b. not_after (key_of by x) (key_of by y) b) xs h.0) in
    none

-- ---- how many are of a lesser group

abbrev pub below : Order → ℕ → Lease → Bool
below by group lease = nat_lt (group_of by lease) group

-- a lease of no lesser group: those behind it have none either
pub count_left : (by : Order) (xs : List Lease) (x : Lease) (ys : List Lease) (group : ℕ) → group ≤ group_of by x → Rising by (xs ++ x ∷ ys) → count_below by group (xs ++ x ∷ ys) ≡ count_below by group xs
count_left by xs x ys group le h =
    let here : below by group x ≡ false = grind (arith, nat_tests, le) in
    let none : count_by (below by group) ys ≡ 0 = none_counted (below by group) ys (each_weaker (λ y. is_before by x y ≡ true) (λ y. below by group y ≡ false) (λ y b. let up : group_of by x ≤ group_of by y = group_before (key_of by x) (key_of by y) b in grind (arith, nat_tests, le, up)) ys (all_after by xs x ys h)) in
    let zero_here : one_if (below by group x) ≡ 0 = ap one_if here in
    omega (arith, counted (below by group) xs x ys, none, zero_here)

-- a lease of lesser group: those in front of it have one too
pub count_right : (by : Order) (xs : List Lease) (x : Lease) (ys : List Lease) (group : ℕ) → group_of by x < group → Rising by (xs ++ x ∷ ys) → count_below by group (xs ++ x ∷ ys) ≡ length xs + 1 + count_below by group ys
count_right by xs x ys group lt h =
    let here : below by group x ≡ true = grind (arith, nat_tests, lt) in
    let all : count_by (below by group) xs ≡ length xs = all_counted (below by group) xs (each_weaker (λ y. is_before by y x ≡ true) (λ y. below by group y ≡ true) (λ y b. let up : group_of by y ≤ group_of by x = group_before (key_of by y) (key_of by x) b in grind (arith, nat_tests, lt, up)) xs (all_before by xs x ys h)) in
    let one_here : one_if (below by group x) ≡ 1 = ap one_if here in
    omega (arith, counted (below by group) xs x ys, all, one_here)

-- a count goes on in one side, up to 2^32 - 1
pub capped_left : (by : Order) (xs : List Lease) (x : Lease) (ys : List Lease) (group n : ℕ) → group ≤ group_of by x → (Rising by xs → n ≡ min (count_below by group xs) (2 ^ 32 - 1)) → Rising by (xs ++ x ∷ ys) → n ≡ min (count_below by group (xs ++ x ∷ ys)) (2 ^ 32 - 1)
capped_left by xs x ys group n le inner h = inner (rising_left by xs (x ∷ ys) h) ∙ ap (λ (k : ℕ). min k (2 ^ 32 - 1)) (sym (count_left by xs x ys group le h))

pub capped_right : (by : Order) (xs : List Lease) (x : Lease) (ys : List Lease) (group size n : ℕ) → group_of by x < group → size ≡ min (length xs) (2 ^ 32 - 1) → (Rising by ys → n ≡ min (count_below by group ys) (2 ^ 32 - 1)) → Rising by (xs ++ x ∷ ys)
    → min (min (size + 1) (2 ^ 32 - 1) + n) (2 ^ 32 - 1) ≡ min (count_below by group (xs ++ x ∷ ys)) (2 ^ 32 - 1)
capped_right by xs x ys group size n lt sized inner h = omega (arith, sized, inner (rising_right by xs x ys h), count_right by xs x ys group lt h)
