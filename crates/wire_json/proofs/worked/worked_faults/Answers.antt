use Rattle.std.proofs.Common.{refl}
use Rattle.std.specs.Str.{is_utf8, chars}
use Rattle.serde_json.proofs.OnLiterals.{serde_json_on_literals}
use Rattle.wire_json.proofs.worked.worked_faults.Goals as goal

pub returns-clause-list : goal.returns-clause-list
unfolding is_utf8 chars serde_json_on_literals
returns-clause-list c = refl

pub returns-clause-point : goal.returns-clause-point
unfolding is_utf8 chars serde_json_on_literals
returns-clause-point c = refl

pub returns-clause-minus : goal.returns-clause-minus
unfolding is_utf8 chars serde_json_on_literals
returns-clause-minus c = refl

pub returns-clause-high : goal.returns-clause-high
unfolding is_utf8 chars serde_json_on_literals
returns-clause-high c = refl

pub returns-clause-present : goal.returns-clause-present
unfolding is_utf8 chars serde_json_on_literals
returns-clause-present c = refl

pub returns-clause-table_order : goal.returns-clause-table_order
unfolding is_utf8 chars serde_json_on_literals
returns-clause-table_order c = refl

pub returns-clause-bad_max : goal.returns-clause-bad_max
unfolding serde_json_on_literals
returns-clause-bad_max c = refl

pub returns-clause-missing : goal.returns-clause-missing
unfolding serde_json_on_literals
returns-clause-missing c = refl

pub returns-clause-not_json : goal.returns-clause-not_json
unfolding serde_json_on_literals
returns-clause-not_json c = refl

pub returns-clause-too_many : goal.returns-clause-too_many
unfolding serde_json_on_literals
returns-clause-too_many c = refl

pub returns-clause-too_long : goal.returns-clause-too_long
unfolding serde_json_on_literals
returns-clause-too_long c = refl
