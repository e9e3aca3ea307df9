-- One turn of the walk over both texts.
use Rattle.std.specs.Prelude.{ℕ, ◌≡◌, ◌<◌, List, length}
use Rattle.default_validator.specs.Accepts.{accepts_of}
use Rattle.default_validator.specs.declared.flags.Flags.{Flags}
use Rattle.default_validator.specs.declared.walk.Turn.{Turn}
use Rattle.default_validator.specs.declared.walk.Turn.TheVariants.{Ended, Rest}

-- the answer is known, or is that of what is left
abbrev pub IsTurn : Flags → List ℕ → List ℕ → Turn → Type 0
IsTurn flags answer output (Ended accepted) = accepts_of flags answer output ≡ accepted
IsTurn flags answer output (Rest answer_rest output_rest) =
    (accepts_of flags answer output ≡ accepts_of flags answer_rest.now output_rest.now)
    × (length answer_rest.now < length answer)
