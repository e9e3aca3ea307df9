-- How a book lies in memory: the leases in three orders.
use Rattle.std.specs.Prelude.{◌≡◌, ℕ, ◌+◌, ◌≤◌, ◌<◌, ◌^◌, List, Bool, length, count_by}
use Rattle.farm_model.specs.declared.records.Lease.{Lease}
use Rattle.lease_tree.specs.TreeValue.{OrderedLeases}
use Rattle.lease_tree.specs.declared.keys.Order.{Order}
use Rattle.lease_tree.specs.declared.keys.Order.TheVariants as order
use Rattle.lease_book.specs.Book.{Book, IsSinglyLeased}
use Rattle.lease_book.specs.declared.book.LeaseBook.TheInside.{Inside}

abbrev pub book_value : Inside → Book
book_value a = record { leases = a.held.leases; spare = a.spare }

-- the same leases, in any order: each test passes as many of one list as of the other
pub record AreSame (xs ys : List Lease) : Type 0 where
  pub count : (p : Lease → Bool) → count_by p xs ≡ count_by p ys

-- the tree has these leases in this order, and room for `spare` more
pub record IsIndex (by : Order) (leases : List Lease) (spare : ℕ) (tree : OrderedLeases) : Type 0 where
  pub order : tree.order ≡ by
  pub same : AreSame leases tree.leases
  pub room : spare ≤ tree.spare

pub record IsBookLayout (a : Inside) : Type 0 where
  pub single : IsSinglyLeased a.held.leases
  -- leases are counted by a `u32`
  pub few : length a.held.leases < 2 ^ 32
  pub judgings : IsIndex order.Judging a.held.leases a.spare a.by_judging
  pub hosts : IsIndex order.Host a.held.leases a.spare a.by_host
  pub ends : IsIndex order.End a.held.leases a.spare a.by_end
  -- `spare` never wraps
  pub room : length a.held.leases + a.spare < 2 ^ 33
