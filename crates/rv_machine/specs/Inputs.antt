use Rattle.std.specs.Prelude.{ℕ, nat_eq, if◌then◌else◌, List, Option, Some, None}
use Rattle.rv_machine.specs.declared.files.Files.{Files}
use Rattle.rv_machine.specs.declared.files.Extra.{Extra}

-- what is left to read at descriptors 3, 4 and 5
pub record ExtraInputs : Type 0 where
  pub input : List ℕ
  pub answer : List ℕ
  pub flags : List ℕ

-- what is left to read at descriptor 0 and, for a validator, at its other ones
pub record Inputs : Type 0 where
  pub stdin : List ℕ
  pub extra : Option ExtraInputs

abbrev pub extra_of : Option Extra → Option ExtraInputs
extra_of None = None
extra_of (Some e) = Some (record { input = e.input.now; answer = e.answer.now; flags = e.flags.now })

abbrev pub inputs_of : Files → Inputs
inputs_of f = record { stdin = f.stdin.now; extra = extra_of f.extra }

abbrev extra_left : Option ExtraInputs → ℕ → Option (List ℕ)
extra_left None d = None
extra_left (Some e) d =
    if nat_eq d 3 then Some e.input else if nat_eq d 4 then Some e.answer else if nat_eq d 5 then Some e.flags else None

-- what is left to read at a descriptor, if it can be read
abbrev pub left_at : Inputs → ℕ → Option (List ℕ)
left_at f d = if nat_eq d 0 then Some f.stdin else extra_left f.extra d

abbrev extra_with : Option ExtraInputs → ℕ → List ℕ → Option ExtraInputs
extra_with None d rest = None
extra_with (Some e) d rest =
    Some (if nat_eq d 3 then record e { input = rest } else if nat_eq d 4 then record e { answer = rest }
    else if nat_eq d 5 then record e { flags = rest } else e)

-- the inputs where this is left at a descriptor
abbrev pub with_left : Inputs → ℕ → List ℕ → Inputs
with_left f d rest = if nat_eq d 0 then record f { stdin = rest } else record f { extra = extra_with f.extra d rest }
