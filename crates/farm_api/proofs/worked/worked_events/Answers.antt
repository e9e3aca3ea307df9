use Rattle.std.proofs.Common.{refl}
use Rattle.std.specs.Str.{is_utf8, chars}
use Rattle.matchit.proofs.OnLiterals.{matchit_on_literals}
use Rattle.serde_json.proofs.OnLiterals.{serde_json_on_literals}
use Rattle.farm_api.specs.Table.{rows}
use Rattle.farm_api.proofs.worked.worked_events.Goals as goal

pub returns-clause-claim : goal.returns-clause-claim
unfolding rows is_utf8 chars serde_json_on_literals matchit_on_literals
returns-clause-claim c = refl

pub returns-clause-verify : goal.returns-clause-verify
unfolding rows is_utf8 chars serde_json_on_literals matchit_on_literals
returns-clause-verify c = refl

pub returns-clause-no_event : goal.returns-clause-no_event
unfolding rows is_utf8 chars serde_json_on_literals matchit_on_literals
returns-clause-no_event c = refl

pub returns-clause-differs : goal.returns-clause-differs
unfolding rows is_utf8 chars serde_json_on_literals matchit_on_literals
returns-clause-differs c = refl

pub returns-clause-fetch : goal.returns-clause-fetch
unfolding rows is_utf8 chars serde_json_on_literals matchit_on_literals
returns-clause-fetch c = refl

pub returns-clause-job : goal.returns-clause-job
unfolding rows is_utf8 chars serde_json_on_literals matchit_on_literals
returns-clause-job c = refl

pub returns-clause-public : goal.returns-clause-public
unfolding rows is_utf8 chars serde_json_on_literals matchit_on_literals
returns-clause-public c = refl

pub returns-clause-page : goal.returns-clause-page
unfolding rows is_utf8 chars serde_json_on_literals matchit_on_literals
returns-clause-page c = refl

pub returns-clause-contest : goal.returns-clause-contest
unfolding rows is_utf8 chars serde_json_on_literals matchit_on_literals
returns-clause-contest c = refl

pub returns-clause-job_rest : goal.returns-clause-job_rest
unfolding rows is_utf8 chars serde_json_on_literals matchit_on_literals
returns-clause-job_rest c = refl
