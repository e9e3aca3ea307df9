use Rattle.std.proofs.Common.{◌≡◌, ◌+◌, ◌-◌, ◌^◌, ◌∙◌, ap, arith, length, min}
use Rattle.std.proofs.lemmas.List.{length-take}
use Rattle.decimal_compare.specs.Decimal.{size_of, raise_of, lower_of}
use Rattle.decimal_compare.proofs.Numbers.{take_are_digits}
use Rattle.decimal_compare.proofs.Bounds.{size_parts}
use Rattle.decimal_compare.proofs.size.size_of.Goals as goal

pub append-requires-clause-digits : goal.append-requires-clause-digits
append-requires-clause-digits c = rw c.first-whole.ensures (take_are_digits c.whole_units-taken.result c.args.parts.now.whole.now c.args.parts.now.whole_digits)

pub append-number-requires-clause-digits : goal.append-number-requires-clause-digits
append-number-requires-clause-digits c = rw c.first-fraction.ensures (take_are_digits _ c.args.parts.now.fraction.now c.args.parts.now.fraction_digits)

pub returns : goal.returns
unfolding size_of
returns c =
    let taken : c.whole_units-taken.result ≡ length c.args.parts.now.whole.now + (12 + raise_of c.args.parts.now.exponent) - lower_of c.args.parts.now.exponent = omega arith in
    let first_len : length c.first-whole.result.now ≡ min c.whole_units-taken.result (length c.args.parts.now.whole.now) = ap length c.first-whole.ensures ∙ length-take c.whole_units-taken.result c.args.parts.now.whole.now in
    let left : c.whole_units-taken.result - length c.first-whole.result.now ≡ c.whole_units-taken.result - length c.args.parts.now.whole.now = omega arith in
    let fraction_len : length c.first-fraction.result.now ≡ min (c.whole_units-taken.result - length c.first-whole.result.now) (length c.args.parts.now.fraction.now) = ap length c.first-fraction.ensures ∙ length-take (c.whole_units-taken.result - length c.first-whole.result.now) c.args.parts.now.fraction.now in
    let zeros : c.whole_units-taken.result - length c.first-whole.result.now - length c.first-fraction.result.now ≡ c.whole_units-taken.result - length c.args.parts.now.whole.now - length c.args.parts.now.fraction.now = omega arith in
    c.append_zeros.ensures
    ∙ rw (zeros, c.append-number.ensures, c.append.ensures, c.first-fraction.ensures, left, c.first-whole.ensures)
    (size_parts c.args.parts.now.whole.now c.args.parts.now.fraction.now c.whole_units-taken.result (12 + raise_of c.args.parts.now.exponent) (lower_of c.args.parts.now.exponent) (10 ^ 25)
    c.args.parts.now.whole_digits c.args.parts.now.fraction_digits taken)
