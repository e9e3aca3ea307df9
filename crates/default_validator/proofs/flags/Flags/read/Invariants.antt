use Rattle.std.proofs.Common.{◌≡◌, ◌≤◌, ◌+◌, length}
use Rattle.default_validator.specs.Pieces.{tokens}
use Rattle.default_validator.specs.Flags.{flags_from, no_flags}
use Rattle.default_validator.proofs.flags.Flags.read.Given as goal

abbrev pub invariant-loop-word : goal.invariant-loop-word
invariant-loop-word l = record {
  same : flags_from l.flags l.number (tokens l.rest) ≡ flags_from no_flags 1 (tokens l.fn.text);
  count : l.number + length l.rest ≤ length l.fn.text + 1;
}

abbrev pub decreases-loop-word : goal.decreases-loop-word
decreases-loop-word l = length l.rest
