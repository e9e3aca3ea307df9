use Rattle.std.proofs.Common.{◌≡◌, ◌+◌, ◌*◌, ◌-◌, ◌≤◌}
use Rattle.judging_core.specs.JudgeValue.{in_state}
use Rattle.judging_core.proofs.Batches.{IsPartOfBatch}
use Rattle.judging_core.proofs.judge.Judge.hand_out_more.Given as goal

abbrev pub invariant-loop : goal.invariant-loop
invariant-loop g l =
    (l.self ≡ in_state l.fn.self l.self.state)
    × IsPartOfBatch l.fn.self.state l.fn.tests l.host l.judging l.more l.self.state l.tests (l.more - l.counter)
    × (l.steps ≤ l.fn.steps + 58 * l.counter)
