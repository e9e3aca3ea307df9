use Rattle.std.proofs.lemmas.Result.{IfOk-weaker}
use Rattle.judge_commands.proofs.Reports.{reported}
use Rattle.judge_commands.proofs.judging.report.Goals as goal

pub returns : goal.returns
returns g c =
    let done = c.in_ok-outcome.ensures in
    IfOk-weaker c.text_of.result _ _ (λ text is. reported c.args.roster.now c.args.hosts c.args.journal _ _ text.items done.table done.kept done.journal is) c.text_of.ensures
