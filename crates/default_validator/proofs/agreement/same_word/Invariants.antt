use Rattle.std.proofs.Common.{◌≡◌, length, drop}
use Rattle.std.specs.Cmp.Lexicographic.{pointwise}
use Rattle.default_validator.specs.Accepts.{same_byte}
use Rattle.default_validator.proofs.agreement.same_word.Given as goal

abbrev pub invariant-loop-i : goal.invariant-loop-i
invariant-loop-i l = record {
  same_len : length l.answer ≡ length l.output;
  rest : pointwise (same_byte l.case) l.answer l.output ≡ pointwise (same_byte l.case) (drop l.i l.answer) (drop l.i l.output);
}
