use Rattle.std.proofs.Common.{refl}
use Rattle.std.specs.Str.{is_utf8, chars}
use Rattle.serde_json.proofs.OnLiterals.{serde_json_on_literals}
use Rattle.wire_json.proofs.worked.worked_bodies.Goals as goal

pub returns-clause-host : goal.returns-clause-host
unfolding is_utf8 chars serde_json_on_literals
returns-clause-host c = refl

pub returns-clause-run : goal.returns-clause-run
unfolding is_utf8 chars serde_json_on_literals
returns-clause-run c = refl

pub returns-clause-one : goal.returns-clause-one
unfolding is_utf8 chars serde_json_on_literals
returns-clause-one c = refl

pub returns-clause-some : goal.returns-clause-some
unfolding is_utf8 chars serde_json_on_literals
returns-clause-some c = refl

pub returns-clause-last_counts : goal.returns-clause-last_counts
unfolding is_utf8 chars serde_json_on_literals
returns-clause-last_counts c = refl

pub returns-clause-list : goal.returns-clause-list
unfolding is_utf8 chars serde_json_on_literals
returns-clause-list c = refl
