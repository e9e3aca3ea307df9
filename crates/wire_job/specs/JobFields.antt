-- The fields of a job, and which values they take.
use Rattle.std.specs.Prelude.{◌≡◌, ⊤, ℕ, ℤ, List, codes, Option, Some, None, option_map, option_and_then, if◌then◌else◌, Result, Ok, Err}
use Rattle.std.specs.Str.{bytes_eq}
use Rattle.base64.specs.GeneralPurpose.{decode_of}
use Rattle.base64.specs.Engines.{standard}
use Rattle.base64.specs.declared.decode.DecodeError.{DecodeError}
use Rattle.serde_json.specs.Data.{Data, null, boolean, number, string, array, object}
use Rattle.serde_json.specs.Find.{get, as_str, as_bool}
use Rattle.default_validator.specs.declared.flags.Flags.{Flags}
use Rattle.wire_job.specs.declared.faults.JobField.{JobField}
use Rattle.wire_job.specs.declared.faults.JobField.TheVariants as field
use Rattle.wire_job.specs.declared.faults.JobFault.{JobFault}
use Rattle.wire_job.specs.declared.faults.JobFault.TheVariants.{NotJson, MissingField, BadField, NoMemory}
use Rattle.wire_job.specs.declared.fields.Way.{Way}
use Rattle.wire_job.specs.declared.fields.Way.TheVariants as way
use Rattle.wire_job.specs.Units.{units_of}

abbrev pub field_name : JobField → List ℕ
field_name field.Answer = codes "answer"
field_name field.Image = codes "image"
field_name field.Input = codes "input"
field_name field.Instructions = codes "instructions"
field_name field.Pages = codes "pages"
field_name field.Output = codes "output"
field_name field.Judging = codes "judging"
field_name field.Test = codes "test"
field_name field.Reply = codes "reply"
field_name field.Check = codes "check"
field_name field.Flags = codes "flags"
field_name field.Validator = codes "validator"

abbrev pub only_ok : Result (List ℕ) DecodeError → Option (List ℕ)
only_ok (Ok bytes) = Some bytes
only_ok (Err e) = None

-- the bytes that a text in Base64 stands for (RFC 4648, section 4)
abbrev pub decoded_bytes : List ℕ → Option (List ℕ)
decoded_bytes text = only_ok (decode_of standard text)

abbrev pub bytes_in : Data → Option (List ℕ)
bytes_in value = option_and_then decoded_bytes (as_str value)

-- the value is this text
abbrev pub word_in : List ℕ → Data → Option (Unit {0})
word_in word value = option_and_then (λ text. if bytes_eq text word then Some tt else None) (as_str value)

abbrev pub way_named : List ℕ → Option Way
way_named text =
    if bytes_eq text (codes "default") then Some way.Default
    else if bytes_eq text (codes "custom") then Some way.Custom else None

-- how the output is checked
abbrev pub way_in : Data → Option Way
way_in value = option_and_then way_named (as_str value)

-- the units of a part of a tolerance; `null` where it is not set
abbrev pub units_in : Data → Option (Option ℤ)
units_in null = Some None
units_in (boolean b) = None
units_in (number n) = None
units_in (string text) = option_map Some (units_of text)
units_in (array values) = None
units_in (object fields) = None

-- the flags of the default output validator
abbrev pub flags_in : Data → Option Flags
flags_in d =
    option_and_then (λ absolute.
    option_and_then (λ relative.
    option_and_then (λ case.
    option_and_then (λ space.
    Some (record { case = case; space = space; tolerance = record { relative = relative; absolute = absolute } }))
    (option_and_then as_bool (get (codes "space") d)))
    (option_and_then as_bool (get (codes "case") d)))
    (option_and_then units_in (get (codes "relative") d)))
    (option_and_then units_in (get (codes "absolute") d))

-- What a field says, or its fault

-- a field whose value says nothing is bad
abbrev pub said : {A : Type 0} → JobField → Option A → Result A JobFault
said name None = Err (BadField name)
said name (Some a) = Ok a

abbrev pub needed_in : {A : Type 0} → JobField → (Data → Option A) → Option Data → Result A JobFault
needed_in name what None = Err (MissingField name)
needed_in name what (Some value) = said name (what value)

-- a field that has to be there
abbrev pub needed : {A : Type 0} → JobField → (Data → Option A) → Data → Result A JobFault
needed name what d = needed_in name what (get (field_name name) d)

-- what comes after what was said
abbrev pub next : {A B : Type 0} → Result A JobFault → (A → Result B JobFault) → Result B JobFault
next (Ok a) f = f a
next (Err fault) f = Err fault

-- the answer is what was told, or memory was wanting
abbrev pub IsReading : {A : Type 0} → Result A JobFault → Result A JobFault → Type 0
IsReading told (Ok a) = told ≡ Ok a
IsReading told (Err NotJson) = told ≡ Err NotJson
IsReading told (Err (MissingField name)) = told ≡ Err (MissingField name)
IsReading told (Err (BadField name)) = told ≡ Err (BadField name)
IsReading told (Err NoMemory) = ⊤
