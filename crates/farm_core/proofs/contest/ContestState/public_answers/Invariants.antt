use Rattle.std.proofs.Common.{◌≡◌, ◌+◌, ◌++◌, ◌≤◌, drop, length, map, vec_len, vec_capacity}
use Rattle.farm_model.specs.State.{public_answer}
use Rattle.farm_core.proofs.contest.ContestState.public_answers.Given as goal

abbrev pub invariant-loop-submission : goal.invariant-loop-submission
invariant-loop-submission l = record {
  rows : l.rows.items ++ map (λ submission. public_answer l.self submission.current) (drop l.submission-index l.self.submissions)
      ≡ map (λ submission. public_answer l.self submission.current) l.self.submissions;
  room : vec_len l.rows + length (drop l.submission-index l.self.submissions) ≤ vec_capacity l.rows;
}
