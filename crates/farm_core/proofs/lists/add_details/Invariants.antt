use Rattle.std.proofs.Common.{◌≡◌, ◌+◌, ◌++◌, ◌≤◌, drop, length, vec_len, vec_capacity}
use Rattle.farm_model.specs.Changes.{details_for}
use Rattle.farm_core.proofs.lists.add_details.Given as goal

abbrev pub invariant-loop-submission : goal.invariant-loop-submission
invariant-loop-submission l = record {
  added : l.details.items ++ details_for l.rejudging (drop l.submission-index l.list) ≡ l.initial.details.items ++ details_for l.rejudging l.list;
  room : vec_len l.details + length (drop l.submission-index l.list) ≤ vec_capacity l.details;
}
