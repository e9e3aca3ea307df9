-- What a body says as a job. The fields are looked at in this order; others are ignored.
use Rattle.std.specs.Prelude.{ℕ, List, Bool, true, Option, Some, None, is_none, if◌then◌else◌, codes, Result, Ok, Err}
use Rattle.serde_json.specs.Data.{Data}
use Rattle.farm_kinds.specs.declared.outcomes.Task.{Task}
use Rattle.farm_kinds.specs.declared.Limits.{Limits}
use Rattle.farm_kinds.specs.Limits.{is_raw_image}
use Rattle.default_validator.specs.Accepts.{wide_token_of}
use Rattle.case_run.specs.Cases.{Checking, ByDefault, ByProgram}
use Rattle.case_run.specs.Images.{is_image}
use Rattle.wire_json.specs.Fields.{whole_in, number_in}
use Rattle.wire_json.specs.Bodies.{object_of}
use Rattle.wire_job.specs.declared.faults.JobField.TheVariants as field
use Rattle.wire_job.specs.declared.faults.JobFault.{JobFault}
use Rattle.wire_job.specs.declared.faults.JobFault.TheVariants.{NotJson, BadField}
use Rattle.wire_job.specs.declared.fields.Way.{Way}
use Rattle.wire_job.specs.declared.fields.Way.TheVariants as way
use Rattle.wire_job.specs.JobFields.{bytes_in, word_in, way_in, flags_in, needed, next}
use Rattle.wire_job.specs.JobValue.{JobValue}

-- what the run may use
abbrev pub limits_in : Data → Result Limits JobFault
limits_in d =
    next (needed field.Instructions (whole_in 0 18446744073709551615) d) (λ instructions.
    next (needed field.Pages number_in d) (λ pages.
    next (needed field.Output number_in d) (λ output.
    Ok (record { instructions = instructions; pages = pages; output = output }))))

-- the judging and the test, which is from 1 to 65,535
abbrev pub task_in : Data → Result Task JobFault
task_in d =
    next (needed field.Judging number_in d) (λ judging.
    next (needed field.Test (whole_in 1 65535) d) (λ test.
    Ok (record { judging = judging; test = test })))

abbrev pub check_by : Way → Data → Result Checking JobFault
check_by way.Default d = next (needed field.Flags flags_in d) (λ flags. Ok (ByDefault flags))
check_by way.Custom d =
    next (needed field.Flags bytes_in d) (λ flags.
    next (needed field.Validator bytes_in d) (λ image.
    Ok (ByProgram image flags)))

-- how the output is checked
abbrev pub check_in : Data → Result Checking JobFault
check_in d =
    next (needed field.Reply (word_in (codes "job")) d) (λ _.
    next (needed field.Check way_in d) (λ w. check_by w d))

-- the validator is a raw image, where there is one
abbrev pub has_validator : Checking → Bool
has_validator (ByDefault flags) = true
has_validator (ByProgram image flags) = is_raw_image image

-- the answer has no token that is too wide to be compared
abbrev pub is_comparable : Checking → List ℕ → Bool
is_comparable (ByDefault flags) answer = is_none (wide_token_of flags answer)
is_comparable (ByProgram image flags) answer = true

-- the job's case can be run, or the first field that does not let it
abbrev pub fault_of : Checking → List ℕ → List ℕ → Option JobFault
fault_of check image answer =
    if has_validator check then
    (if is_image image then (if is_comparable check answer then None else Some (BadField field.Answer))
    else Some (BadField field.Image))
    else Some (BadField field.Validator)

abbrev pub without_fault : Option JobFault → JobValue → Result JobValue JobFault
without_fault None job = Ok job
without_fault (Some fault) job = Err fault

abbrev pub job_with : List ℕ → List ℕ → List ℕ → Limits → Task → Checking → Result JobValue JobFault
job_with answer image input limits task check =
    without_fault (fault_of check image answer)
    (record { task = task; case = record { image = image; input = input; answer = answer; check = check; limits = limits } })

-- the image is the one that the reader has, or else the body says it
abbrev pub image_in : Option (List ℕ) → Data → Result (List ℕ) JobFault
image_in None d = needed field.Image bytes_in d
image_in (Some image) d = Ok image

abbrev pub job_in : Option (List ℕ) → Data → Result JobValue JobFault
job_in has d =
    next (needed field.Answer bytes_in d) (λ answer.
    next (image_in has d) (λ image.
    next (needed field.Input bytes_in d) (λ input.
    next (limits_in d) (λ limits.
    next (task_in d) (λ task.
    next (check_in d) (λ check.
    job_with answer image input limits task check))))))

abbrev pub in_object : Option (List ℕ) → Option Data → Result JobValue JobFault
in_object has None = Err NotJson
in_object has (Some d) = job_in has d

-- the job that a body is to a reader that has this image or none, or its first fault
abbrev pub job_of : Option (List ℕ) → List ℕ → Result JobValue JobFault
job_of has bytes = in_object has (object_of bytes)
