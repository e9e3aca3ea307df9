-- The flags of the validator, as their words say (Kattis problem package format, legacy, "Default Output Validator
-- Specification").
use Rattle.std.specs.Prelude.{ℕ, ◌+◌, List, [], ◌∷◌, true, false, if◌then◌else◌, Option, Some, None, Result, Ok, Err, ℤ, codes}
use Rattle.std.specs.Str.{bytes_eq}
use Rattle.decimal_compare.specs.declared.amount.Part.{Part}
use Rattle.decimal_compare.specs.declared.amount.Part.TheVariants.{Relative, Absolute, Both}
use Rattle.decimal_compare.specs.declared.tolerance.Tolerance.{Tolerance}
use Rattle.decimal_compare.specs.Amount.{amount_of}
use Rattle.default_validator.specs.Pieces.{tokens}
use Rattle.default_validator.specs.declared.flags.Flags.{Flags}
use Rattle.default_validator.specs.declared.flags.FlagFault.{FlagFault}
use Rattle.default_validator.specs.declared.flags.FlagFault.TheVariants.{Unknown, NoValue, BadTolerance}

-- no flag is given
abbrev pub no_flags : Flags
no_flags = record { case = false; space = false; tolerance = record { relative = None; absolute = None } }

-- the part of the tolerance that a flag sets
abbrev pub part_of : List ℕ → Option Part
part_of word =
    if bytes_eq word (codes "float_relative_tolerance") then Some Relative
    else (if bytes_eq word (codes "float_absolute_tolerance") then Some Absolute
    else (if bytes_eq word (codes "float_tolerance") then Some Both else None))

-- the tolerance with this part set, in place of what it was
abbrev pub with_part : Tolerance → Part → ℤ → Tolerance
with_part t Relative e = record { relative = Some e; absolute = t.absolute }
with_part t Absolute e = record { relative = t.relative; absolute = Some e }
with_part t Both e = record { relative = Some e; absolute = Some e }

abbrev pub with_amount : Flags → Part → ℤ → Flags
with_amount flags part e =
    record { case = flags.case; space = flags.space; tolerance = with_part flags.tolerance part e }

abbrev pub with_case : Flags → Flags
with_case flags = record { case = true; space = flags.space; tolerance = flags.tolerance }

abbrev pub with_space : Flags → Flags
with_space flags = record { case = flags.case; space = true; tolerance = flags.tolerance }

-- the value, which is the n-th word, and then the words after it
abbrev pub after_amount : Flags → ℕ → Part → Option ℤ → (Flags → Result Flags FlagFault) → Result Flags FlagFault
after_amount flags n part None read = Err (BadTolerance n)
after_amount flags n part (Some e) read = read (with_amount flags part e)

-- a flag that takes a value, which is the n-th word, with its value, and then the words after it
abbrev pub after_value : Flags → ℕ → Option Part → List ℕ → (Flags → Result Flags FlagFault) → Result Flags FlagFault
after_value flags n None value read = Err (Unknown n)
after_value flags n (Some part) value read = after_amount flags (n + 1) part (amount_of part value) read

-- a flag that takes a value, which is the n-th word, without one
abbrev pub without_value : ℕ → Option Part → Result Flags FlagFault
without_value n None = Err (Unknown n)
without_value n (Some part) = Err (NoValue n)

-- the flags with those of these words, the first of which is the n-th word; or the first faulty word
abbrev pub flags_from : Flags → ℕ → List (List ℕ) → Result Flags FlagFault
flags_from flags n [] = Ok flags
flags_from flags n (word ∷ []) =
    if bytes_eq word (codes "case_sensitive") then Ok (with_case flags)
    else (if bytes_eq word (codes "space_change_sensitive") then Ok (with_space flags)
    else without_value n (part_of word))
flags_from flags n (word ∷ value ∷ words) =
    if bytes_eq word (codes "case_sensitive") then flags_from (with_case flags) (n + 1) (value ∷ words)
    else (if bytes_eq word (codes "space_change_sensitive") then flags_from (with_space flags) (n + 1) (value ∷ words)
    else after_value flags n (part_of word) value (λ read. flags_from read (n + 1 + 1) words))

abbrev pub flags_of : List ℕ → Result Flags FlagFault
flags_of text = flags_from no_flags 1 (tokens text)
