-- The leases of a tree, in order, its sizes and its balance.
use Rattle.std.specs.Prelude.{◌≡◌, ℕ, ◌+◌, ◌-◌, ◌*◌, ◌^◌, ◌<◌, ◌≤◌, List, [], ◌∷◌, ◌++◌, length, min, max, Option, Some, None}
use Rattle.farm_model.specs.declared.records.Lease.{Lease}
use Rattle.lease_tree.specs.declared.node.Tree.{Tree, Leaf, Fork'}

abbrev pub leases_of : Tree → List Lease
leases_of Leaf = []
leases_of (Fork' p lease size left right) = leases_of left ++ lease ∷ leases_of right

-- each node knows how many leases there are in its tree, up to 2^32 - 1
abbrev pub IsSized : Tree → Type 0
IsSized Leaf = Unit {0}
IsSized (Fork' p lease size left right) =
    (size ≡ min (length (leases_of left) + length (leases_of right) + 1) (2 ^ 32 - 1)) × IsSized left × IsSized right

-- of two sides with `left` and `right` leases none is more than three times as heavy as the other, where a side weighs one
-- more than its leases
pub record IsEven (left right : ℕ) : Type 0 where
  pub left_light : left + 1 ≤ 3 * (right + 1)
  pub right_light : right + 1 ≤ 3 * (left + 1)

-- two sides with `left` and `right` leases are even, but for one lease more or less on one side
pub record IsNearlyEven (left right : ℕ) : Type 0 where
  pub left_light : left + 1 ≤ 3 * (right + 1) + 3
  pub right_light : right + 1 ≤ 3 * (left + 1) + 3

-- the second side is too heavy, but would not be with one lease less or one more on the first
pub record IsHeavier (light other : ℕ) : Type 0 where
  pub heavy : 3 * (light + 1) < other + 1
  pub nearly : other + 1 ≤ 3 * (light + 1) + 3

abbrev pub IsBalanced : Tree → Type 0
IsBalanced Leaf = Unit {0}
IsBalanced (Fork' p lease size left right) =
    IsEven (length (leases_of left)) (length (leases_of right)) × IsBalanced left × IsBalanced right

-- the tree is balanced, but for one lease more or less on one side of the root
abbrev pub IsNearlyBalanced : Tree → Type 0
IsNearlyBalanced Leaf = Unit {0}
IsNearlyBalanced (Fork' p lease size left right) =
    IsNearlyEven (length (leases_of left)) (length (leases_of right)) × IsBalanced left × IsBalanced right

-- the lease at the root
abbrev pub root_lease : Tree → Option Lease
root_lease Leaf = None
root_lease (Fork' p lease size left right) = Some lease

-- how many leases stand on the longest way from the root
abbrev pub depth : Tree → ℕ
depth Leaf = 0
depth (Fork' p lease size left right) = max (depth left) (depth right) + 1
