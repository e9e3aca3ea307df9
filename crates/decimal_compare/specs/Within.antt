-- Within a tolerance: the two inequalities, exact.
use Rattle.std.specs.Prelude.{◌*◌, ◌^◌, Bool, false, ◌||◌, Option, Some, None, ℤ, pos, ◌-ℤ◌, ◌*ℤ◌, unsigned_abs, int_le}
use Rattle.decimal_compare.specs.declared.tolerance.Tolerance.{Tolerance}

-- |t - j| * 10^12 <= e * |j|
abbrev pub is_within_relative : Option ℤ → ℤ → ℤ → Bool
is_within_relative None team judge = false
is_within_relative (Some e) team judge =
    int_le (pos (unsigned_abs (team -ℤ judge) * 10 ^ 12)) (e *ℤ pos (unsigned_abs judge))

-- |t - j| <= e
abbrev pub is_within_absolute : Option ℤ → ℤ → ℤ → Bool
is_within_absolute None team judge = false
is_within_absolute (Some e) team judge = int_le (pos (unsigned_abs (team -ℤ judge))) e

abbrev pub is_within : Tolerance → ℤ → ℤ → Bool
is_within tolerance team judge =
    is_within_relative tolerance.relative team judge || is_within_absolute tolerance.absolute team judge
