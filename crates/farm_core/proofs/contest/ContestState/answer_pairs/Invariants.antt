use Rattle.std.proofs.Common.{◌≡◌, ◌+◌, ◌++◌, ◌≤◌, drop, length, map, vec_len, vec_capacity}
use Rattle.farm_model.specs.State.{answer_at}
use Rattle.farm_core.proofs.contest.ContestState.answer_pairs.Given as goal

abbrev pub invariant-loop-member : goal.invariant-loop-member
invariant-loop-member l = record {
  pairs : l.pairs.items ++ map (λ member. (answer_at l.self member.old, answer_at l.self member.new)) (drop l.member-index l.members)
      ≡ map (λ member. (answer_at l.self member.old, answer_at l.self member.new)) l.members;
  room : vec_len l.pairs + length (drop l.member-index l.members) ≤ vec_capacity l.pairs;
}
