use Rattle.std.proofs.Common.{refl}
use Rattle.std.specs.Str.{is_utf8, chars}
use Rattle.base64.proofs.OnLiterals.{base64_on_literals}
use Rattle.serde_json.proofs.OnLiterals.{serde_json_on_literals}
use Rattle.default_validator.specs.Accepts.{wide_token_of}
use Rattle.case_run.specs.Images.{is_image}
use Rattle.remote_host.specs.Bodies.{enters, fetch_said, job_said, post_said}
use Rattle.remote_host.proofs.worked.worked_talks.Goals as goal

pub returns : goal.returns
unfolding enters fetch_said job_said post_said is_image wide_token_of is_utf8 chars base64_on_literals serde_json_on_literals
returns c = record { one_image = refl }
