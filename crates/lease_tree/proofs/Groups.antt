-- How many leases have a group.
use Rattle.std.proofs.Common.{ℕ, ◌≡◌, ◌+◌, ◌<◌, ◌≤◌, List, [], ◌∷◌, ◌++◌, true, false, length, ap, arith}
use Rattle.std.specs.Prelude.{count_by, nat_lt}
use Rattle.std.proofs.lemmas.Bool.Decides.{nat_tests}
use Rattle.std.proofs.lemmas.List.Sums.{sum_by-cons}
use Rattle.farm_model.specs.declared.records.Lease.{Lease}
use Rattle.lease_tree.specs.declared.keys.Order.{Order}
use Rattle.lease_tree.specs.Keys.{group_of, key_of, is_before, has_group, count_below, Rising}
use Rattle.lease_tree.proofs.KeyOrder.{group_before}
use Rattle.lease_tree.proofs.Rises.{Each, one_if, each_weaker, all_before, all_after, none_counted, counted, group_behind, group_ahead}

pub group_on_left : (by : Order) (xs : List Lease) (x : Lease) (ys : List Lease) (group : ℕ) → Rising by (xs ++ x ∷ ys) → group < group_of by x → count_by (has_group by group) (xs ++ x ∷ ys) ≡ count_by (has_group by group) xs
group_on_left by xs x ys group h lt =
    let other : has_group by group x ≡ false = grind (arith, nat_tests, lt) in
    let no : one_if (has_group by group x) ≡ 0 = ap one_if other in
    omega (arith, counted (has_group by group) xs x ys, no, none_counted (has_group by group) ys (group_behind by x ys group (all_after by xs x ys h) lt))

pub group_on_right : (by : Order) (xs : List Lease) (x : Lease) (ys : List Lease) (group : ℕ) → Rising by (xs ++ x ∷ ys) → group_of by x < group → count_by (has_group by group) (xs ++ x ∷ ys) ≡ count_by (has_group by group) ys
group_on_right by xs x ys group h lt =
    let other : has_group by group x ≡ false = grind (arith, nat_tests, lt) in
    let no : one_if (has_group by group x) ≡ 0 = ap one_if other in
    omega (arith, counted (has_group by group) xs x ys, no, none_counted (has_group by group) xs (group_ahead by x xs group (all_before by xs x ys h) lt))

-- where no group is greater, each lease has a lesser group or this one
no_greater : (by : Order) (xs : List Lease) (group : ℕ) → Each (λ y. group_of by y ≤ group) xs → length xs ≡ count_below by group xs + count_by (has_group by group) xs
no_greater by [] group h = omega arith
no_greater by (x ∷ xs) group h =
    let one : one_if (nat_lt (group_of by x) group) + one_if (has_group by group x) ≡ 1 = grind (arith, nat_tests, h.0) in
    omega (arith, one, no_greater by xs group h.1, sum_by-cons (λ y. one_if (nat_lt (group_of by y) group)) x xs, sum_by-cons (λ y. one_if (has_group by group y)) x xs)

-- where no group is less, those with a group less than the next one have this one
no_less : (by : Order) (xs : List Lease) (group : ℕ) → Each (λ y. group ≤ group_of by y) xs → count_below by (group + 1) xs ≡ count_by (has_group by group) xs
no_less by [] group h = omega arith
no_less by (x ∷ xs) group h =
    let same : one_if (nat_lt (group_of by x) (group + 1)) ≡ one_if (has_group by group x) = grind (arith, nat_tests, h.0) in
    omega (arith, same, no_less by xs group h.1, sum_by-cons (λ y. one_if (nat_lt (group_of by y) (group + 1))) x xs, sum_by-cons (λ y. one_if (has_group by group y)) x xs)

pub group_on_both : (by : Order) (xs : List Lease) (x : Lease) (ys : List Lease) (group : ℕ) → Rising by (xs ++ x ∷ ys) → group_of by x ≡ group
    → count_by (has_group by group) (xs ++ x ∷ ys) + count_below by group xs ≡ length xs + 1 + count_below by (group + 1) ys
group_on_both by xs x ys group h same =
    let itself : has_group by group x ≡ true = grind (arith, nat_tests, same) in
    let here : one_if (has_group by group x) ≡ 1 = ap one_if itself in
    let before : Each (λ y. group_of by y ≤ group) xs = each_weaker (λ y. is_before by y x ≡ true) (λ y. group_of by y ≤ group) (λ y b. let up : group_of by y ≤ group_of by x = group_before (key_of by y) (key_of by x) b in omega (arith, up, same)) xs (all_before by xs x ys h) in
    let after : Each (λ y. group ≤ group_of by y) ys = each_weaker (λ y. is_before by x y ≡ true) (λ y. group ≤ group_of by y) (λ y b. let up : group_of by x ≤ group_of by y = group_before (key_of by x) (key_of by y) b in omega (arith, up, same)) ys (all_after by xs x ys h) in
    omega (arith, counted (has_group by group) xs x ys, here, no_greater by xs group before, no_less by ys group after)
