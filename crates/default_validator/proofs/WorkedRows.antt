-- Rows that the definitions compute.
use Rattle.std.specs.Prelude.{◌≡◌, [], ◌∷◌, codes, refl, pos, Some, Err, true, false}
use Rattle.decimal_compare.specs.Digits.{scaled}
use Rattle.decimal_compare.specs.Decimal.{numeral_of, size_of, decimal_of}
use Rattle.decimal_compare.specs.Amount.{is_exact}
use Rattle.default_validator.specs.declared.flags.Flags.{Flags}
use Rattle.default_validator.specs.declared.flags.FlagFault.TheVariants.{Unknown, NoValue, BadTolerance}
use Rattle.default_validator.specs.Pieces.{tokens, gaps}
use Rattle.default_validator.specs.Flags.{no_flags, with_case, with_space, flags_of}
use Rattle.default_validator.specs.Accepts.{accepts_of, wide_token_of}

abbrev pub tolerant : Flags
tolerant = record { case = false; space = false; tolerance = record { relative = Some (pos 1000000); absolute = Some (pos 1000000) } }

pub tokens_row : tokens (codes " a  bc ") ≡ codes "a" ∷ codes "bc" ∷ []
tokens_row = refl

pub gaps_row : gaps (codes " a  bc") ≡ codes " " ∷ codes "  " ∷ [] ∷ []
gaps_row = refl

pub wider_row : accepts_of no_flags (codes "a b ") (codes "a  b") ≡ true
unfolding accepts_of
wider_row = refl

pub folded_row : accepts_of no_flags (codes "a b ") (codes "A B") ≡ true
unfolding accepts_of
folded_row = refl

pub spaced_row : accepts_of (with_space no_flags) (codes "a b ") (codes "a b") ≡ false
unfolding accepts_of
spaced_row = refl

pub case_row : accepts_of (with_case no_flags) (codes "a b") (codes "A b") ≡ false
unfolding accepts_of decimal_of numeral_of
case_row = refl

pub number_row : accepts_of tolerant (codes "0.0314 1.0") (codes "3.14000000e-2 1") ≡ true
unfolding accepts_of decimal_of numeral_of size_of scaled
number_row = refl

pub wide_row : wide_token_of tolerant (codes "1 1e12") ≡ Some 1
unfolding wide_token_of decimal_of numeral_of size_of scaled
wide_row = refl

pub no_value_row : flags_of (codes "float_tolerance") ≡ Err (NoValue 1)
no_value_row = refl

pub bad_tolerance_row : flags_of (codes "float_tolerance 1e-13") ≡ Err (BadTolerance 2)
unfolding numeral_of size_of scaled is_exact
bad_tolerance_row = refl

pub unknown_row : flags_of (codes "fast") ≡ Err (Unknown 1)
unknown_row = refl
