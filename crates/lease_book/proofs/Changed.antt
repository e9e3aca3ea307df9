-- A book before a change and after it.
use Rattle.std.proofs.Common.{◌≡◌, ◌<◌, ◌-◌, ◌+◌, ◌^◌, List, Some, None, sym, ap, ◌∙◌, arith, length, count_by, Bool, not, filter, find}
use Rattle.farm_kinds.specs.declared.outcomes.Task.{Task}
use Rattle.farm_model.specs.declared.records.Lease.{Lease}
use Rattle.farm_model.specs.Leases.{lease_on, without_task}
use Rattle.lease_tree.specs.declared.keys.Order.{Order}
use Rattle.lease_tree.specs.declared.keys.Order.TheVariants as order
use Rattle.lease_tree.specs.Keys.{key_of, has_key}
use Rattle.lease_tree.specs.TreeValue.{OrderedLeases}
use Rattle.lease_book.specs.Book.{Book, room, IsSinglyLeased}
use Rattle.lease_book.specs.BookLayout.{IsIndex, IsBookLayout, book_value}
use Rattle.lease_book.specs.declared.book.LeaseBook.TheInside.{Inside}
use Rattle.lease_book.proofs.Counts.{found_passes, none_counts, counts_none, none_left, length_kept, filter_idle}
use Rattle.lease_book.proofs.Singly.{on, task_is}
use Rattle.lease_book.proofs.Index.{length_same, free_same}

-- where the book holds no lease on the task, none stands in its way in any of its trees
pub free_there : (a : Inside) (book : Book) (x : Lease) (by : Order) (tree : OrderedLeases) → book_value a ≡ book → lease_on book.leases x.task ≡ None → IsIndex by a.held.leases a.spare tree → find (has_key tree.order (key_of tree.order x)) tree.leases ≡ None
free_there a book x by tree is none h = free_same by a.held.leases a.spare x tree h (ap (λ (b : Book). lease_on b.leases x.task) is ∙ none)

pub few_there : (a : Inside) (book : Book) (by : Order) (tree : OrderedLeases) → book_value a ≡ book → length book.leases < 2 ^ 32 - 1 → IsIndex by a.held.leases a.spare tree → length tree.leases < 2 ^ 32 - 1
few_there a book by tree is few h =
    let same = length_same a.held.leases tree.leases h.same in
    let len = ap (λ (b : Book). length b.leases) is in
    omega (arith, same, len, few)

-- a book whose leases are these
pub layout : (a : Inside) (xs : List Lease) → a.held.leases ≡ xs → IsSinglyLeased xs → length xs < 2 ^ 32 → IsIndex order.Judging xs a.spare a.by_judging → IsIndex order.Host xs a.spare a.by_host → IsIndex order.End xs a.spare a.by_end → length xs + a.spare < 2 ^ 33 → IsBookLayout a
layout a xs is single few judgings hosts ends room = record {
  single = rw is single;
  few = rw is few;
  judgings = rw is judgings;
  hosts = rw is hosts;
  ends = rw is ends;
  room = rw is room;
}

pub task_of : (xs : List Lease) (task : Task) (lease : Lease) → lease_on xs task ≡ Some lease → lease.task ≡ task
task_of xs task lease e = task_is lease.task task (found_passes (on task) xs lease e)

-- where no lease is held on the task, all stay
pub all_stay : (xs : List Lease) (task : Task) → lease_on xs task ≡ None → without_task xs task ≡ xs
all_stay xs task e = filter_idle (on task) xs (none_counts (on task) xs e)

-- and after it is taken out none is held there
pub none_on : (xs : List Lease) (task : Task) → lease_on (without_task xs task) task ≡ None
none_on xs task = counts_none (on task) (without_task xs task) (none_left (on task) xs)

-- no lease that passes is left, and the others are the same
pub record IsEmptied (p : Lease → Bool) (old now : Book) : Type 0 where
  pub leases : now.leases ≡ filter (λ x. not (p x)) old.leases
  pub count : length old.leases ≡ length now.leases + count_by p old.leases
  pub spare : now.spare ≡ old.spare + count_by p old.leases

pub emptied : (p : Lease → Bool) (old now : Book) → count_by p now.leases ≡ 0 → filter (λ x. not (p x)) now.leases ≡ filter (λ x. not (p x)) old.leases → room now ≡ room old → IsEmptied p old now
emptied p old now none left same =
    let is : now.leases ≡ filter (λ x. not (p x)) old.leases = sym (filter_idle p now.leases none) ∙ left in
    let less : length old.leases ≡ length now.leases + count_by p old.leases = length_kept p old.leases ∙ ap (λ ys. length ys + count_by p old.leases) (sym is) in
    record { leases = is; count = less; spare = omega (arith, less, same) }
