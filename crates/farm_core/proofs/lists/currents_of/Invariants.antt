use Rattle.std.proofs.Common.{◌≡◌, ◌+◌, ◌++◌, ◌≤◌, drop, length, map, vec_len, vec_capacity}
use Rattle.farm_model.specs.State.{current_of}
use Rattle.farm_core.proofs.lists.currents_of.Given as goal

abbrev pub invariant-loop-submission : goal.invariant-loop-submission
invariant-loop-submission l = record {
  olds : l.olds.items ++ map (current_of l.submissions) (drop l.submission-index l.list) ≡ map (current_of l.submissions) l.list;
  room : vec_len l.olds + length (drop l.submission-index l.list) ≤ vec_capacity l.olds;
}
