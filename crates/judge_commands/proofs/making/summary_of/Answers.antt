use Rattle.std.proofs.Common.{◌≡◌, IfOk, subst}
use Rattle.judge_commands.specs.Making.{summary_text}
use Rattle.judge_commands.proofs.making.summary_of.Goals as goal

pub returns : goal.returns
returns g c = subst (λ rows. IfOk c.summary_text.result (λ text. text.items ≡ summary_text rows)) c.in_ok-outcome.ensures.table c.summary_text.ensures
