use Rattle.std.proofs.Common.{◌≡◌, ◌≤◌, ◌+◌, length}
use Rattle.std.specs.List.{position_from, position}
use Rattle.default_validator.specs.Pieces.{tokens}
use Rattle.default_validator.specs.Accepts.{is_wide_token}
use Rattle.default_validator.proofs.walk.wide_token.Given as goal

abbrev pub invariant-loop-token : goal.invariant-loop-token
invariant-loop-token l = record {
  same : position is_wide_token (tokens l.fn.answer) ≡ position_from is_wide_token l.place (tokens l.rest);
  count : l.place + length l.rest ≤ length l.fn.answer;
}

abbrev pub decreases-loop-token : goal.decreases-loop-token
decreases-loop-token l = length l.rest
