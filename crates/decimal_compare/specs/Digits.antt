-- Digits and powers of ten.
use Rattle.std.specs.Prelude.{ℕ, ◌+◌, ◌-◌, ◌*◌, ◌/◌, ◌^◌, List, Bool, ◌&&◌, nat_le}
use Rattle.std.specs.List.{fold}

abbrev pub is_digit : ℕ → Bool
is_digit b = nat_le 48 b && nat_le b 57

-- the number that stands there once this digit follows
abbrev pub with_digit : ℕ → ℕ → ℕ
with_digit n b = n * 10 + (b - 48)

-- the number that the digits are, read as one
abbrev pub digits_number : List ℕ → ℕ
digits_number digits = fold with_digit 0 digits

-- n * 10^(up - down), dropped to a whole number
unfoldable pub scaled : ℕ → ℕ → ℕ → ℕ
scaled n up down = n * 10 ^ up / 10 ^ down
