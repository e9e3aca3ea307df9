use Rattle.std.proofs.Common.{◌≤◌, arith, length, take}
use Rattle.std.proofs.lemmas.List.{length-take}
use Rattle.decimal_compare.proofs.Bounds.{three_digits, four_digits}
use Rattle.decimal_compare.proofs.numeral.exponent_digits.Goals as goal

pub overflow_mul-size : goal.overflow_mul-size
overflow_mul-size c =
    let few : length (take c.loop-b.b-index c.args.digits.now) ≤ 3 = omega (arith, length-take c.loop-b.b-index c.args.digits.now) in
    omega (arith, three_digits c.args.digits.now c.loop-b.b-index c.loop-b.size c.loop-b.invariant.size_is c.loop-b.invariant.digits few)

pub overflow_add-size : goal.overflow_add-size
overflow_add-size c =
    let few : length (take c.loop-b.b-index c.args.digits.now) ≤ 3 = omega (arith, length-take c.loop-b.b-index c.args.digits.now) in
    omega (arith, c.type_inv.digits c.loop-b.b-index, three_digits c.args.digits.now c.loop-b.b-index c.loop-b.size c.loop-b.invariant.size_is c.loop-b.invariant.digits few)

pub returns-clause-four_digits : goal.returns-clause-four_digits
returns-clause-four_digits c =
    let few : length (take c.loop-b.b-index c.args.digits.now) ≤ 4 = omega (arith, length-take c.loop-b.b-index c.args.digits.now) in
    omega (arith, four_digits c.args.digits.now c.loop-b.b-index c.loop-b.size c.loop-b.invariant.size_is c.loop-b.invariant.digits few)
