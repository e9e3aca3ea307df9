use Rattle.std.proofs.Common.{ℕ, ◌≡◌, ◌≤◌, ◌<◌, ◌-◌, take, length, get_or, true}
use Rattle.default_validator.specs.Cuts.{is_token_byte}
use Rattle.default_validator.proofs.cuts.common_len.Given as goal

abbrev pub invariant-loop-len : goal.invariant-loop-len
invariant-loop-len l = record {
  limit_answer : l.limit ≤ length l.answer;
  limit_output : l.limit ≤ length l.output;
  within_answer : l.len ≤ length l.answer;
  within_output : l.len ≤ length l.output;
  answer_passes : (k : ℕ) → k < l.len → is_token_byte (get_or l.answer k 0) ≡ true;
  output_passes : (k : ℕ) → k < l.len → is_token_byte (get_or l.output k 0) ≡ true;
  same : take l.len l.answer ≡ take l.len l.output;
}

abbrev pub decreases-loop-len : goal.decreases-loop-len
decreases-loop-len l = length l.answer - l.len
