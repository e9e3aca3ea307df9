use Rattle.parallel_judge.proofs.NotedCalls.{step_keeps}
use Rattle.parallel_judge.proofs.verdicts.verdict_of.Goals as goal

pub returns-in-Shown-Final-clause-journal : goal.returns-in-Shown-Final-clause-journal
returns-in-Shown-Final-clause-journal c case_at = step_keeps case_at c.args.noted.now c.step.new.self _ c.step.result c.step.ensures.notes tt

pub returns-clause-journal : goal.returns-clause-journal
returns-clause-journal c case_at = step_keeps case_at c.args.noted.now c.step.new.self _ c.step.result c.step.ensures.notes tt
