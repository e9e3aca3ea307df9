use Rattle.std.proofs.Common.{◌≡◌, ◌+◌, ◌++◌, drop, vec_len, vec_capacity}
use Rattle.farm_model.specs.Rejudgings.{members_from}
use Rattle.rejudge_book.proofs.lists.write_members.Given as goal

abbrev pub invariant-loop-at : goal.invariant-loop-at
invariant-loop-at l = record {
  written : l.room.items ++ members_from (l.first + l.at) (drop l.at l.list) (drop l.at l.olds) ≡ members_from l.first l.list l.olds;
  count : vec_len l.room ≡ l.at;
  capacity : vec_capacity l.room ≡ vec_capacity l.initial.room;
}
