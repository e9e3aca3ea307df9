use Rattle.std.proofs.Common.{◌≡◌, vec_len, vec_capacity}
use Rattle.rejudge_book.proofs.Twice.{IsSeen}
use Rattle.rejudge_book.proofs.lists.first_twice.Given as goal

abbrev pub invariant-loop-at : goal.invariant-loop-at
invariant-loop-at l = record {
  seen : IsSeen l.list l.places.items l.at;
  len : vec_len l.places ≡ vec_len l.initial.places;
  capacity : vec_capacity l.places ≡ vec_capacity l.initial.places;
}
