-- Cutting a text from its front.
use Rattle.std.specs.Prelude.{ℕ, ◌≡◌, ◌≤◌, ◌<◌, List, Bool, true, not, ◌||◌, ◌==◌, take, length, slice_index}
use Rattle.default_validator.specs.Pieces.{is_space}

abbrev pub is_token_byte : ℕ → Bool
is_token_byte b = not (is_space b)

-- the first `len` bytes of the text are of the token in front
pub record IsInToken (text : List ℕ) (len : ℕ) : Type 0 where
  pub within : len ≤ length text
  pub passes : (k : ℕ) → k < len → is_token_byte (slice_index text k) ≡ true

-- where both texts go on with the same byte, it is white space
abbrev pub EndsCommon : List ℕ → List ℕ → ℕ → Type 0
EndsCommon answer output len =
    len < length answer → len < length output
    → slice_index answer len ≡ slice_index output len → is_space (slice_index answer len) ≡ true

-- the longest front of both texts that is of the token in front of each, and equal
pub record IsCommon (answer output : List ℕ) (len : ℕ) : Type 0 where
  pub in_answer : IsInToken answer len
  pub in_output : IsInToken output len
  pub same : take len answer ≡ take len output
  pub longest : EndsCommon answer output len

-- the bytes of a token in front end at `len`
abbrev pub ends_token : List ℕ → ℕ → Bool
ends_token text len = len == length text || is_space (slice_index text len)
