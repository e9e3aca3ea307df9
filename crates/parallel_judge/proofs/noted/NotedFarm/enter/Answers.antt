use Rattle.parallel_judge.proofs.NotedCalls.{step_keeps}
use Rattle.parallel_judge.proofs.noted.NotedFarm.enter.Goals as goal

pub returns-clause-journal : goal.returns-clause-journal
returns-clause-journal c case_at judges = step_keeps case_at c.args.self.now c.step.new.self c.args.event.now c.step.result c.step.ensures.notes judges
