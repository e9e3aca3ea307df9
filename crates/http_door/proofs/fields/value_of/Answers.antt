use Rattle.std.proofs.Common.{◌-◌, get_or, arith}
use Rattle.http_door.proofs.Numbers.{value_more, below_more, digit_at, pow_small}
use Rattle.http_door.proofs.fields.value_of.Goals as goal

pub overflow_mul-value : goal.overflow_mul-value
overflow_mul-value c =
    let i = c.loop-digit.digit-index in
    omega (arith, pow_small i (omega arith), below_more i c.loop-digit.value 0 c.loop-digit.invariant.small (omega arith))

pub overflow_add-value : goal.overflow_add-value
overflow_add-value c =
    let i = c.loop-digit.digit-index in
    let d = digit_at c.args.digits.now i c.requires.digits c.loop-digit-test.true in
    omega (arith, pow_small i (omega arith), below_more i c.loop-digit.value (get_or c.args.digits.now i 0 - 48) c.loop-digit.invariant.small (omega (arith, d.1)))

pub loop-digit-preserved : goal.loop-digit-preserved
loop-digit-preserved c =
    let i = c.loop-digit.digit-index in
    let d = digit_at c.args.digits.now i c.requires.digits c.loop-digit-test.true in
    record {
      value_is = value_more c.args.digits.now i c.loop-digit.value c.loop-digit-test.true c.loop-digit.invariant.value_is;
      small = below_more i c.loop-digit.value (get_or c.args.digits.now i 0 - 48) c.loop-digit.invariant.small (omega (arith, d.1));
    }
