use Rattle.std.proofs.Common.{rules, sym, ◌∙◌}
use Rattle.farm_core.proofs.Judged.{claim_stepped}
use Rattle.farm_core.proofs.contest.ContestState.claim.Goals as goal

pub returns-in-Some : goal.returns-in-Some
returns-in-Some c =
    claim_stepped c.args.self.now c.args.host c.in-Some.number _ c.claim_by.result c.claim_reply.result
    (sym c.up_number.ensures.number ∙ c.in-Some.is) (search rules) (search rules) c.claim_reply.ensures
