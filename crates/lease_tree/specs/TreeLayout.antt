-- How ordered leases lie in memory.
use Rattle.std.specs.Prelude.{◌+◌, ◌≤◌, ◌<◌, ◌^◌, length, vec_len, vec_capacity}
use Rattle.lease_tree.specs.Keys.{Rising}
use Rattle.lease_tree.specs.Trees.{leases_of, IsSized, IsBalanced}
use Rattle.lease_tree.specs.TreeValue.{OrderedLeases}
use Rattle.lease_tree.specs.declared.tree.LeaseTree.TheInside.{Inside}

abbrev pub tree_value : Inside → OrderedLeases
tree_value a = record { order = a.order; leases = leases_of a.root; spare = vec_len a.pool }

pub record IsTreeLayout (a : Inside) : Type 0 where
  pub rising : Rising a.order (leases_of a.root)
  pub sized : IsSized a.root
  pub balanced : IsBalanced a.root
  -- leases are counted by a `u32`
  pub few : length (leases_of a.root) < 2 ^ 32
  -- a node that goes back to the pool takes no memory
  pub room : vec_len a.pool + length (leases_of a.root) ≤ vec_capacity a.pool
