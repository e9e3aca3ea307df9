use Rattle.std.proofs.Common.{rules, refl, not, length}
use Rattle.farm_model.specs.Leases.{holds}
use Rattle.judging_core.specs.Holding.{IsHeldWell, AreOnEmptyCells}
use Rattle.judging_core.specs.JudgeShape.{judging_values, reserved_of}
use Rattle.judging_core.specs.Listed.{IsListed, HasRoom}
use Rattle.judging_core.proofs.Held.{some_held}
use Rattle.judging_core.proofs.Cells.{some_cells}
use Rattle.judging_core.proofs.Listed.{listed_seen}
use Rattle.judging_core.proofs.Wider.{ahead_kept}
use Rattle.judging_core.proofs.judge.Judge.down.Goals as goal

pub invariant_of-self : goal.invariant_of-self
invariant_of-self c =
    let at = c.self.inside in
    let held : IsHeldWell c.self.inside.hosts c.end_host.new.leases.leases = rw c.end_host.ensures.leases (some_held c.self.inside.hosts (λ x. not (holds c.args.host x)) c.self.inside.leases.leases c.self.invariant.held) in
    let cells : AreOnEmptyCells (judging_values at.judgings.items) c.end_host.new.leases.leases = rw c.end_host.ensures.leases (some_cells (judging_values at.judgings.items) (λ x. not (holds c.args.host x)) at.leases.leases c.self.invariant.cells) in
    let listed : IsListed at.rule (judging_values at.judgings.items) c.end_host.new.leases.leases c.end_host.new.tasks =
    listed_seen at.rule c.deref.result.now at.judgings.items at.leases.leases c.end_host.new.leases.leases at.tasks c.end_host.new.tasks c.deref.ensures.value c.end_host.ensures.listed c.self.invariant.ruled c.self.invariant.listed in
    let ahead : HasRoom (length at.judgings.items) (reserved_of at.prepared.items) c.end_host.new.tasks = ahead_kept (length at.judgings.items) (length at.judgings.items) (reserved_of at.prepared.items) at.tasks c.end_host.new.tasks refl c.end_host.ensures.widths c.self.invariant.ahead in
    search rules

pub returns-clause-state : goal.returns-clause-state
returns-clause-state c = search rules

pub returns-clause-count : goal.returns-clause-count
returns-clause-count c = search rules
