use Rattle.std.proofs.Common.{arith}
use Rattle.decimal_compare.proofs.Bounds.{few_digits}
use Rattle.decimal_compare.proofs.size.small_number.Goals as goal

pub overflow_mul-number : goal.overflow_mul-number
overflow_mul-number c =
    omega (arith, few_digits c.args.digits.now c.loop-b.b-index c.loop-b.number c.loop-b.invariant c.requires.digits c.requires.few)

pub overflow_add-number : goal.overflow_add-number
overflow_add-number c =
    omega (arith, c.type_inv.digits c.loop-b.b-index, few_digits c.args.digits.now c.loop-b.b-index c.loop-b.number c.loop-b.invariant c.requires.digits c.requires.few)
