use Rattle.std.proofs.Common.{refl}
use Rattle.std.specs.Fmt.{digits}
use Rattle.std.specs.Str.{is_utf8, chars}
use Rattle.matchit.proofs.OnLiterals.{matchit_on_literals}
use Rattle.serde_json.proofs.OnLiterals.{serde_json_on_literals}
use Rattle.farm_api.specs.Table.{rows}
use Rattle.farm_api.specs.Conversation.{reply_response, fault_response, job_response, rows_response, page_response, contest_response}
use Rattle.contest_page.specs.Views.{view_text}
use Rattle.farm_api.proofs.worked.worked_responses.Goals as goal

pub returns-clause-nothing : goal.returns-clause-nothing
unfolding rows reply_response fault_response is_utf8 chars serde_json_on_literals matchit_on_literals digits
returns-clause-nothing c = refl

pub returns-clause-no_host : goal.returns-clause-no_host
unfolding rows reply_response fault_response is_utf8 chars serde_json_on_literals matchit_on_literals digits
returns-clause-no_host c = refl

pub returns-clause-no_lease : goal.returns-clause-no_lease
unfolding rows reply_response fault_response is_utf8 chars serde_json_on_literals matchit_on_literals digits
returns-clause-no_lease c = refl

pub returns-clause-no_route : goal.returns-clause-no_route
unfolding rows reply_response fault_response is_utf8 chars serde_json_on_literals matchit_on_literals digits
returns-clause-no_route c = refl

pub returns-clause-no_method : goal.returns-clause-no_method
unfolding rows reply_response fault_response is_utf8 chars serde_json_on_literals matchit_on_literals digits
returns-clause-no_method c = refl

pub returns-clause-bad_body : goal.returns-clause-bad_body
unfolding rows reply_response fault_response is_utf8 chars serde_json_on_literals matchit_on_literals digits
returns-clause-bad_body c = refl

pub returns-clause-batch : goal.returns-clause-batch
unfolding rows reply_response fault_response is_utf8 chars serde_json_on_literals matchit_on_literals digits
returns-clause-batch c = refl

pub returns-clause-bad_max : goal.returns-clause-bad_max
unfolding rows reply_response fault_response is_utf8 chars serde_json_on_literals matchit_on_literals digits
returns-clause-bad_max c = refl

pub returns-clause-owner : goal.returns-clause-owner
unfolding rows reply_response fault_response is_utf8 chars serde_json_on_literals matchit_on_literals digits
returns-clause-owner c = refl

pub returns-clause-already : goal.returns-clause-already
unfolding rows reply_response fault_response is_utf8 chars serde_json_on_literals matchit_on_literals digits
returns-clause-already c = refl

pub returns-clause-closing : goal.returns-clause-closing
unfolding rows reply_response fault_response is_utf8 chars serde_json_on_literals matchit_on_literals digits
returns-clause-closing c = refl

pub returns-clause-no_job : goal.returns-clause-no_job
unfolding rows reply_response fault_response job_response is_utf8 chars serde_json_on_literals matchit_on_literals digits
returns-clause-no_job c = refl

pub returns-clause-job_of_no_judging : goal.returns-clause-job_of_no_judging
unfolding rows reply_response fault_response job_response is_utf8 chars serde_json_on_literals matchit_on_literals digits
returns-clause-job_of_no_judging c = refl

pub returns-clause-public : goal.returns-clause-public
unfolding rows rows_response is_utf8 chars serde_json_on_literals matchit_on_literals digits
returns-clause-public c = refl

pub returns-clause-page : goal.returns-clause-page
unfolding rows page_response matchit_on_literals
returns-clause-page c = refl

pub returns-clause-contest : goal.returns-clause-contest
unfolding rows contest_response view_text is_utf8 chars serde_json_on_literals matchit_on_literals digits
returns-clause-contest c = refl

pub returns-clause-no_job_rest : goal.returns-clause-no_job_rest
unfolding rows reply_response fault_response job_response is_utf8 chars serde_json_on_literals matchit_on_literals digits
returns-clause-no_job_rest c = refl
