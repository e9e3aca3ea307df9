-- Looking for the first wide token.
use Rattle.std.proofs.Common.{ℕ, ◌≡◌, List, ◌∷◌, Some, None, true, false, refl}
use Rattle.std.specs.List.{position, position_from}
use Rattle.std.proofs.lemmas.Iterator.Adapters.{position_from-zero}
use Rattle.default_validator.specs.Pieces.{tokens}
use Rattle.default_validator.specs.Accepts.{has_tolerance, is_wide_token, wide_token_of}
use Rattle.default_validator.specs.declared.flags.Flags.{Flags}

pub starts : (answer : List ℕ) → position is_wide_token (tokens answer) ≡ position_from is_wide_token 0 (tokens answer)
starts answer = position_from-zero is_wide_token (tokens answer)

pub no_tolerance : (flags : Flags) (answer : List ℕ) → has_tolerance flags ≡ false → None ≡ wide_token_of flags answer
unfolding wide_token_of
no_tolerance flags answer none = rw none refl

pub found : (flags : Flags) (answer token : List ℕ) (others : List (List ℕ)) (place : ℕ) → has_tolerance flags ≡ true
    → position is_wide_token (tokens answer) ≡ position_from is_wide_token place (token ∷ others) → is_wide_token token ≡ true
    → Some place ≡ wide_token_of flags answer
unfolding wide_token_of
found flags answer token others place some same wide = rw (some, same, wide) refl

pub found_none : (flags : Flags) (answer : List ℕ) → has_tolerance flags ≡ true → position is_wide_token (tokens answer) ≡ None → None ≡ wide_token_of flags answer
unfolding wide_token_of
found_none flags answer some same = rw (some, same) refl
