use Rattle.std.proofs.Common.{rules, sym, ◌∙◌}
use Rattle.farm_core.proofs.Judged.{renew_stepped}
use Rattle.farm_core.proofs.contest.ContestState.renew.Goals as goal

pub returns-in-Some : goal.returns-in-Some
returns-in-Some c =
    renew_stepped c.args.self.now c.args.host c.in-Some.number c.args.judging c.args.test _ c.renew.result c.renewed_reply.result
    (sym c.up_number.ensures.number ∙ c.in-Some.is) (search rules) (search rules) c.renewed_reply.ensures
