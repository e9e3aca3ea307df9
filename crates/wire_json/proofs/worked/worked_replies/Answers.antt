use Rattle.std.proofs.Common.{refl}
use Rattle.std.specs.Fmt.{digits}
use Rattle.hex.specs.Hex.{encode_with}
use Rattle.serde_json.proofs.OnLiterals.{serde_json_on_literals}
use Rattle.wire_json.proofs.worked.worked_replies.Goals as goal

pub returns-clause-host : goal.returns-clause-host
unfolding serde_json_on_literals digits
returns-clause-host c = refl

pub returns-clause-task : goal.returns-clause-task
unfolding serde_json_on_literals digits
returns-clause-task c = refl

pub returns-clause-batch : goal.returns-clause-batch
unfolding serde_json_on_literals digits
returns-clause-batch c = refl

pub returns-clause-owner : goal.returns-clause-owner
unfolding serde_json_on_literals digits
returns-clause-owner c = refl

pub returns-clause-counted : goal.returns-clause-counted
unfolding serde_json_on_literals digits
returns-clause-counted c = refl

pub returns-clause-shown : goal.returns-clause-shown
unfolding serde_json_on_literals digits
returns-clause-shown c = refl

pub returns-clause-differs : goal.returns-clause-differs
unfolding serde_json_on_literals digits
returns-clause-differs c = refl

pub returns-clause-no_host : goal.returns-clause-no_host
unfolding serde_json_on_literals digits
returns-clause-no_host c = refl

pub returns-clause-already : goal.returns-clause-already
unfolding serde_json_on_literals digits
returns-clause-already c = refl

pub returns-clause-closed : goal.returns-clause-closed
unfolding serde_json_on_literals digits
returns-clause-closed c = refl

pub returns-clause-head : goal.returns-clause-head
unfolding serde_json_on_literals digits encode_with
returns-clause-head c = refl
