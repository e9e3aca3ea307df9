-- The text of a job: compact JSON whose keys stand in the order of their bytes.
use Rattle.std.specs.Prelude.{ℕ, ℤ, List, [], ◌++◌, codes, Bool, true, false, Option, None, Some}
use Rattle.std.specs.Fmt.{decimal, signed_decimal}
use Rattle.base64.specs.GeneralPurpose.{encode_of}
use Rattle.base64.specs.Engines.{standard}
use Rattle.farm_kinds.specs.declared.outcomes.Task.{Task}
use Rattle.farm_kinds.specs.declared.Limits.{Limits}
use Rattle.default_validator.specs.declared.flags.Flags.{Flags}
use Rattle.case_run.specs.Cases.{Checking, ByDefault, ByProgram, TestCase}
use Rattle.wire_job.specs.declared.parts.JobPart.{JobPart}
use Rattle.wire_job.specs.declared.parts.JobPart.TheVariants as part

-- bytes in Base64 (RFC 4648, section 4)
abbrev pub coded : List ℕ → List ℕ
coded bytes = encode_of standard bytes

abbrev pub quoted : List ℕ → List ℕ
quoted text = codes "\"" ++ (text ++ codes "\"")

-- the units of a part of a tolerance
abbrev pub units_text : Option ℤ → List ℕ
units_text None = codes "null"
units_text (Some units) = quoted (signed_decimal units)

abbrev pub switch_text : Bool → List ℕ
switch_text true = codes "true"
switch_text false = codes "false"

abbrev pub flags_with : List ℕ → List ℕ → List ℕ → List ℕ → List ℕ
flags_with absolute case relative space =
    codes "{\"absolute\":" ++ (absolute ++ (codes ",\"case\":" ++ (case ++ (codes ",\"relative\":" ++ (relative
    ++ (codes ",\"space\":" ++ (space ++ codes "}")))))))

-- the flags of the default output validator
abbrev pub flags_text : Flags → List ℕ
flags_text f =
    flags_with (units_text f.tolerance.absolute) (switch_text f.case) (units_text f.tolerance.relative) (switch_text f.space)

-- the field `image`, where it is asked for
abbrev pub image_field : JobPart → List ℕ → List ℕ
image_field part.Whole image = codes ",\"image\":\"" ++ (coded image ++ codes "\"")
image_field part.Rest image = []

abbrev pub first_fields : List ℕ → List ℕ → List ℕ → List ℕ → List ℕ → List ℕ
first_fields answer check flags image input =
    codes "{\"answer\":\"" ++ (answer ++ (codes "\",\"check\":\"" ++ (check ++ (codes "\",\"flags\":" ++ (flags
    ++ (image ++ (codes ",\"input\":\"" ++ (input ++ codes "\""))))))))

abbrev pub number_fields : Limits → Task → List ℕ
number_fields limits task =
    codes ",\"instructions\":" ++ (decimal limits.instructions ++ (codes ",\"judging\":" ++ (decimal task.judging
    ++ (codes ",\"output\":" ++ (decimal limits.output ++ (codes ",\"pages\":" ++ (decimal limits.pages
    ++ (codes ",\"reply\":\"job\",\"test\":" ++ decimal task.test))))))))

abbrev pub last_field : List ℕ → List ℕ
last_field validator = codes ",\"validator\":\"" ++ (validator ++ codes "\"}")

abbrev pub text_with : Checking → JobPart → Task → TestCase → List ℕ
text_with (ByDefault flags) p task c =
    first_fields (coded c.answer) (codes "default") (flags_text flags) (image_field p c.image) (coded c.input)
    ++ (number_fields c.limits task ++ codes "}")
text_with (ByProgram image flags) p task c =
    first_fields (coded c.answer) (codes "custom") (quoted (coded flags)) (image_field p c.image) (coded c.input)
    ++ (number_fields c.limits task ++ last_field (coded image))

-- the text of a task and its case, or of so much of them
abbrev pub job_text : JobPart → Task → TestCase → List ℕ
job_text p task c = text_with c.check p task c
