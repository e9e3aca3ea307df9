use Rattle.std.proofs.Common.{rules}
use Rattle.judging_core.proofs.judge.Judge.claim.Goals as goal

pub returns-in_default-clause-answer : goal.returns-in_default-clause-answer
returns-in_default-clause-answer g c = search rules

pub hand_out-until-requires-clause-few : goal.hand_out-until-requires-clause-few
hand_out-until-requires-clause-few g c = search rules

pub returns-clause-state : goal.returns-clause-state
returns-clause-state g c = search rules

pub returns-clause-answer : goal.returns-clause-answer
returns-clause-answer g c = search rules
