-- The bytes of a response print numbers, so the digits are unfolded.
use Rattle.std.proofs.Common.{refl}
use Rattle.std.specs.Fmt.{digits}
use Rattle.http_door.specs.Refusals.{refusal_response}
use Rattle.http_door.proofs.worked.worked_responses.Goals as goal

pub returns-clause-bad_head : goal.returns-clause-bad_head
unfolding digits refusal_response
returns-clause-bad_head c = refl

pub returns-clause-head_too_long : goal.returns-clause-head_too_long
unfolding digits refusal_response
returns-clause-head_too_long c = refl

pub returns-clause-body_too_long : goal.returns-clause-body_too_long
unfolding digits refusal_response
returns-clause-body_too_long c = refl

pub returns-clause-no_length : goal.returns-clause-no_length
unfolding digits refusal_response
returns-clause-no_length c = refl

pub returns-clause-page : goal.returns-clause-page
unfolding digits
returns-clause-page c = refl
