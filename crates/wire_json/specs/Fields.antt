-- The fields of bodies: their names, and which values they take.
use Rattle.std.specs.Prelude.{◌≡◌, ⊤, ℕ, List, [], ◌∷◌, ◌&&◌, Option, Some, None, nat_le, if◌then◌else◌, option_map, option_and_then, Result, Ok, Err, codes}
use Rattle.serde_json.specs.Data.{Data, Items, no_items, item}
use Rattle.serde_json.specs.Find.{get, as_number, as_str, as_array, as_u64}
use Rattle.farm_kinds.specs.declared.kinds.Kind.{Kind}
use Rattle.farm_kinds.specs.Kinds.{kind_named}
use Rattle.farm_kinds.specs.Names.{name_read}
use Rattle.wire_json.specs.declared.faults.Field.{Field}
use Rattle.wire_json.specs.declared.faults.Field.TheVariants as field
use Rattle.wire_json.specs.declared.faults.BodyFault.{BodyFault}
use Rattle.wire_json.specs.declared.faults.BodyFault.TheVariants.{TooManyValues, TooLongStrings, NotJson, MissingField, BadField, NoMemory}

abbrev pub field_name : Field → List ℕ
field_name field.Hostname = codes "hostname"
field_name field.Max = codes "max"
field_name field.Judging = codes "judging"
field_name field.Test = codes "test"
field_name field.Result = codes "result"
field_name field.Submissions = codes "submissions"
field_name field.Who = codes "who"

-- Which values a field takes

abbrev pub within : ℕ → ℕ → ℕ → Option ℕ
within least most n = if nat_le least n && nat_le n most then Some n else None

-- the whole number that a value is, where it is in range; with a point or an exponent it is none, and so is `-0`
abbrev pub whole_in : ℕ → ℕ → Data → Option ℕ
whole_in least most value = option_and_then (within least most) (option_and_then as_u64 (as_number value))

-- a number of 32 bits
abbrev pub number_in : Data → Option ℕ
number_in value = whole_in 0 4294967295 value

-- how many tests a host takes at most
abbrev pub max_in : Data → Option (Option ℕ)
max_in value = option_map Some (whole_in 1 16 value)

abbrev pub name_in : Data → Option (List ℕ)
name_in value = option_and_then name_read (as_str value)

abbrev pub kind_in : Data → Option Kind
kind_in value = option_and_then kind_named (as_str value)

-- the numbers that the items are, where each is one
abbrev pub each_number : Items → Option (List ℕ)
each_number no_items = Some []
each_number (item value values) =
    option_and_then (λ n. option_map (λ ns. n ∷ ns) (each_number values)) (number_in value)

abbrev pub numbers_in : Data → Option (List ℕ)
numbers_in value = option_and_then each_number (as_array value)

-- What a field says, or its fault

-- a field whose value says nothing is bad
abbrev pub said : {A : Type 0} → Field → Option A → Result A BodyFault
said name None = Err (BadField name)
said name (Some a) = Ok a

abbrev pub needed_in : {A : Type 0} → Field → (Data → Option A) → Option Data → Result A BodyFault
needed_in name what None = Err (MissingField name)
needed_in name what (Some value) = said name (what value)

-- a field that has to be there
abbrev pub needed : {A : Type 0} → Field → (Data → Option A) → Data → Result A BodyFault
needed name what body = needed_in name what (get (field_name name) body)

abbrev pub optional_in : {A : Type 0} → Field → (Data → Option A) → A → Option Data → Result A BodyFault
optional_in name what absent None = Ok absent
optional_in name what absent (Some value) = said name (what value)

-- a field that may be left out; `null` is a value
abbrev pub optional : {A : Type 0} → Field → (Data → Option A) → A → Data → Result A BodyFault
optional name what absent body = optional_in name what absent (get (field_name name) body)

-- the answer is what was told, or memory was wanting
abbrev pub IsReading : {A : Type 0} → Result A BodyFault → Result A BodyFault → Type 0
IsReading told (Ok a) = told ≡ Ok a
IsReading told (Err TooManyValues) = told ≡ Err TooManyValues
IsReading told (Err TooLongStrings) = told ≡ Err TooLongStrings
IsReading told (Err NotJson) = told ≡ Err NotJson
IsReading told (Err (MissingField name)) = told ≡ Err (MissingField name)
IsReading told (Err (BadField name)) = told ≡ Err (BadField name)
IsReading told (Err NoMemory) = ⊤
