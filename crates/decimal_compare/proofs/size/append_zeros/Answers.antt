use Rattle.std.proofs.Common.{◌^◌, ◌∙◌, arith, sym, subst, ◌<◌, ◌*◌, ℕ}
use Rattle.decimal_compare.proofs.Numbers.{ten_pos}
use Rattle.decimal_compare.proofs.Bounds.{zeros_stop, zeros_fit}
use Rattle.decimal_compare.proofs.size.append_zeros.Goals as goal

pub returns-then-number-ge-WIDE : goal.returns-then-number-ge-WIDE
returns-then-number-ge-WIDE c =
    zeros_stop c.loop-left.number (10 ^ c.loop-left.left) (10 ^ 25) (omega arith) (ten_pos c.loop-left.left) ∙ c.loop-left.invariant.same

pub overflow_mul-number-2 : goal.overflow_mul-number-2
overflow_mul-number-2 c =
    let fits : c.loop-left.number * c.ten_to-2.result < 2 ^ 128 =
    subst (λ (p : ℕ). c.loop-left.number * p < 2 ^ 128) (sym c.ten_to-2.ensures) (zeros_fit c.loop-left.number c.loop-left.left c.loop-left.invariant.small c.loop-left-test.false)
    in omega arith
