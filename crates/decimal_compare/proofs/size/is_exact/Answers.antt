use Rattle.std.proofs.Common.{◌≡◌, ◌+◌, ◌-◌, ◌∙◌, arith, length}
use Rattle.decimal_compare.specs.Decimal.{size_of, raise_of, lower_of}
use Rattle.decimal_compare.specs.Amount.{is_exact}
use Rattle.decimal_compare.proofs.Scales.{exact_parts}
use Rattle.decimal_compare.proofs.size.is_exact.Goals as goal

pub returns : goal.returns
unfolding size_of is_exact
returns c =
    let parts = c.args.parts.now in
    let taken : c.whole_units-taken.result ≡ length c.args.parts.now.whole.now + (12 + raise_of c.args.parts.now.exponent) - lower_of c.args.parts.now.exponent = omega arith in
    c.both_only_zeros.ensures
    ∙ rw (c.past-whole.ensures, c.past-fraction.ensures, c.saturating_sub.ensures)
    (exact_parts c.args.parts.now.whole.now c.args.parts.now.fraction.now c.whole_units-taken.result (12 + raise_of c.args.parts.now.exponent) (lower_of c.args.parts.now.exponent)
    c.args.parts.now.whole_digits c.args.parts.now.fraction_digits taken)
