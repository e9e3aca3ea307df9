use Rattle.std.proofs.Common.{◌≡◌, ◌+◌, drop}
use Rattle.std.specs.List.{prefix_len}
use Rattle.default_validator.specs.Cuts.{is_token_byte}
use Rattle.default_validator.proofs.cuts.token_len.Given as goal

abbrev pub invariant-loop-i : goal.invariant-loop-i
invariant-loop-i l = prefix_len is_token_byte l.text ≡ l.i + prefix_len is_token_byte (drop l.i l.text)
