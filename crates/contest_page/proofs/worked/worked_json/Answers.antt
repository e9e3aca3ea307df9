use Rattle.std.proofs.Common.{refl}
use Rattle.std.specs.Str.{is_utf8, chars}
use Rattle.std.specs.Fmt.{digits}
use Rattle.serde_json.proofs.OnLiterals.{serde_json_on_literals}
use Rattle.contest_page.specs.Views.{view_text}
use Rattle.contest_page.proofs.worked.worked_json.Goals as goal

pub returns-clause-empty : goal.returns-clause-empty
unfolding view_text is_utf8 chars serde_json_on_literals digits
returns-clause-empty c = refl

pub returns-clause-one : goal.returns-clause-one
unfolding view_text is_utf8 chars serde_json_on_literals digits
returns-clause-one c = refl
