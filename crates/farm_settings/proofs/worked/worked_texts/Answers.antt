use Rattle.std.proofs.Common.{refl}
use Rattle.std.specs.Str.{is_utf8, chars}
use Rattle.serde_json.proofs.OnLiterals.{serde_json_on_literals}
use Rattle.farm_settings.proofs.worked.worked_texts.Goals as goal

pub returns-clause-last_counts : goal.returns-clause-last_counts
unfolding is_utf8 chars serde_json_on_literals
returns-clause-last_counts c = refl

pub returns-clause-point : goal.returns-clause-point
unfolding is_utf8 chars serde_json_on_literals
returns-clause-point c = refl

pub returns-clause-exponent : goal.returns-clause-exponent
unfolding is_utf8 chars serde_json_on_literals
returns-clause-exponent c = refl

pub returns-clause-minus : goal.returns-clause-minus
unfolding is_utf8 chars serde_json_on_literals
returns-clause-minus c = refl

pub returns-clause-empty : goal.returns-clause-empty
unfolding is_utf8 chars serde_json_on_literals
returns-clause-empty c = refl

pub returns-clause-second : goal.returns-clause-second
unfolding is_utf8 chars serde_json_on_literals
returns-clause-second c = refl

pub returns-clause-byte_order : goal.returns-clause-byte_order
unfolding is_utf8 chars serde_json_on_literals
returns-clause-byte_order c = refl

pub returns-clause-mark : goal.returns-clause-mark
unfolding is_utf8 chars serde_json_on_literals
returns-clause-mark c = refl

pub returns-clause-no_utf8 : goal.returns-clause-no_utf8
unfolding is_utf8 chars serde_json_on_literals
returns-clause-no_utf8 c = refl
