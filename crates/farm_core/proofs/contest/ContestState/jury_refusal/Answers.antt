use Rattle.std.proofs.Common.{rules, ◌∙◌, sym, ap}
use Rattle.farm_model.specs.Refusals.{refusal_of}
use Rattle.farm_core.proofs.contest.ContestState.jury_refusal.Goals as goal

pub returns-in-Ask-clause-refusal : goal.returns-in-Ask-clause-refusal
returns-in-Ask-clause-refusal c = c.ask_refusal.ensures.refusal ∙ sym (ap (refusal_of c.args.self.now) c.in-Ask.is)

pub returns-in-Verify-clause-unchanged : goal.returns-in-Verify-clause-unchanged
returns-in-Verify-clause-unchanged c = search rules
