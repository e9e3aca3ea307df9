-- Numbers up to a limit.
use Rattle.std.specs.Prelude.{ℕ, List, Option}
use Rattle.std.specs.Option.{option_and_then}
use Rattle.farm_model.specs.Numbers.{whole_of, at_most}

-- the number that the digits stand for, if it is at most the limit
abbrev pub number_within : ℕ → List ℕ → Option ℕ
number_within limit word = option_and_then (at_most limit) (whole_of word)
