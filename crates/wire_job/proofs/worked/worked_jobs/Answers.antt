use Rattle.std.proofs.Common.{refl}
use Rattle.std.specs.Fmt.{digits}
use Rattle.std.specs.Str.{is_utf8, chars}
use Rattle.base64.proofs.OnLiterals.{base64_on_literals}
use Rattle.serde_json.proofs.OnLiterals.{serde_json_on_literals}
use Rattle.default_validator.specs.Accepts.{wide_token_of}
use Rattle.case_run.specs.Images.{is_image}
use Rattle.wire_job.proofs.worked.worked_jobs.Goals as goal

pub returns : goal.returns
unfolding is_image wide_token_of is_utf8 chars base64_on_literals serde_json_on_literals digits
returns c = record { whole = refl; rest = refl; rest_read = refl; own_image = refl; no_image = refl; bad_image = refl }
