use Rattle.std.proofs.lemmas.Result.{IfOk-weaker}
use Rattle.judge_commands.proofs.making.summarize.Goals as goal

pub returns : goal.returns
returns g c = IfOk-weaker c.summary_of.result _ _ (λ text is. record { roster = c.in_ok-roster.roster; read = c.in_ok-roster.ensures; is = is }) c.summary_of.ensures
