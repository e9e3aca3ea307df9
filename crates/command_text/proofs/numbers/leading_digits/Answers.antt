use Rattle.std.proofs.Common.{arith, sym}
use Rattle.command_text.proofs.NumberLemmas.{value_more, digit_more}
use Rattle.command_text.proofs.numbers.leading_digits.Goals as goal

pub returns-then-value-limit-clause-over : goal.returns-then-value-limit-clause-over
returns-then-value-limit-clause-over c =
    let more = value_more c.args.text.now c.loop-i.i c.loop-i.value c.loop-i-test.true c.loop-i.invariant.value_is in (
      c.loop-i.i,
      c.loop-i-test.true,
      digit_more c.args.text.now c.loop-i.i c.loop-i-test.true c.loop-i.invariant.digits (sym c.if-not-is_ascii_digit.ensures.value),
      omega arith,
    )

pub loop-i-preserved : goal.loop-i-preserved
loop-i-preserved c = record {
  value_is = value_more c.args.text.now c.loop-i.i c.loop-i.value c.loop-i-test.true c.loop-i.invariant.value_is;
  digits = digit_more c.args.text.now c.loop-i.i c.loop-i-test.true c.loop-i.invariant.digits (sym c.if-not-is_ascii_digit.ensures.value);
  small = omega arith;
}
