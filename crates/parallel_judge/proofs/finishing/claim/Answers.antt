use Rattle.std.proofs.Common.{◌≢◌, ℕ}
use Rattle.farm_kinds.specs.declared.outcomes.Task.{Task}
use Rattle.farm_kinds.specs.declared.events.Reply.TheVariants as reply
use Rattle.parallel_judge.proofs.NotedCalls.{step_keeps}
use Rattle.parallel_judge.proofs.Turns.{claim_hands_none}
use Rattle.parallel_judge.proofs.finishing.claim.Goals as goal

pub returns-in-Handed-clause-journal : goal.returns-in-Handed-clause-journal
returns-in-Handed-clause-journal c case_at = step_keeps case_at c.args.noted.now c.step.new.self _ c.step.result c.step.ensures.notes tt

pub returns : goal.returns
returns c =
    let some : c.step.result ≢ reply.NoMemory = (λ e. c.in_default.not-NoMemory e) in
    let other : (task : Task) (until : ℕ) → c.step.result ≢ reply.Handed task until = (λ task until e. c.in_default.not-Handed task until e) in
    let none = claim_hands_none c.args.noted.now.farm c.step.new.self.farm c.args.host c.step.result c.requires.up c.requires.free
    (c.step.ensures.notes.state some) (c.step.ensures.notes.answer some) other in
    record {
      first = none.0;
      none = none.1;
      some = tt;
      journal = λ case_at. step_keeps case_at c.args.noted.now c.step.new.self _ c.step.result c.step.ensures.notes tt;
      kept = c.step.ensures.kept;
    }
