-- What a faulty body is answered.
use Rattle.std.specs.Prelude.{ℕ, List, [], ◌∷◌, ◌++◌, codes}
use Rattle.serde_json.specs.Data.{Data, string}
use Rattle.wire_json.specs.declared.faults.BodyFault.{BodyFault}
use Rattle.wire_json.specs.declared.faults.BodyFault.TheVariants.{TooManyValues, TooLongStrings, NotJson, MissingField, BadField, NoMemory}
use Rattle.wire_json.specs.Fields.{field_name}
use Rattle.wire_json.specs.Objects.{object_with, reply_field}

-- what is wrong with a body, in words; want of memory is no fault of it
abbrev pub why_text : BodyFault → List ℕ
why_text TooManyValues = codes "too-many-values"
why_text TooLongStrings = codes "too-long-strings"
why_text NotJson = codes "not-json"
why_text (MissingField name) = codes "missing " ++ field_name name
why_text (BadField name) = codes "bad " ++ field_name name
why_text NoMemory = []

abbrev pub json_of_fault : BodyFault → Data
json_of_fault fault = object_with (reply_field (codes "bad-body") ∷ (codes "why", string (why_text fault)) ∷ [])
