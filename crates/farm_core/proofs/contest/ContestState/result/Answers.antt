use Rattle.std.proofs.Common.{rules, sym, ◌∙◌}
use Rattle.farm_core.proofs.Judged.{result_stepped}
use Rattle.farm_core.proofs.contest.ContestState.result.Goals as goal

pub returns-in-Some : goal.returns-in-Some
returns-in-Some c =
    result_stepped c.args.self.now c.args.host _ c.args.judging c.args.test c.args.kind _ c.result.result c.count_reply.result
    (sym c.up_number.ensures.number ∙ c.in-Some.is) (search rules) (search rules) c.count_reply.ensures
