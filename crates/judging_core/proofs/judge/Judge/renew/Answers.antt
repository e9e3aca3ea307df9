use Rattle.std.proofs.Common.{◌+◌, rules}
use Rattle.farm_model.specs.Leases.{holds_of}
use Rattle.judging_core.specs.Holding.{IsHeldWell, AreOnEmptyCells}
use Rattle.judging_core.specs.JudgeShape.{judging_values}
use Rattle.judging_core.specs.Listed.{IsListed}
use Rattle.judging_core.proofs.Held.{renewed_held}
use Rattle.judging_core.proofs.Cells.{renewed_cells}
use Rattle.judging_core.proofs.Listed.{renewed_listed}
use Rattle.judging_core.proofs.judge.Judge.renew.Goals as goal

pub invariant_of-self : goal.invariant_of-self
invariant_of-self c =
    let at = c.self.inside in
    let js = judging_values at.judgings.items in
    let until = at.moment + at.lease in
    let renews = holds_of c.args.host c.args.judging in
    let held : IsHeldWell at.hosts c.renew_of.new.self.leases = rw c.renew_of.ensures.leases (renewed_held at.hosts at.leases.leases renews until c.self.invariant.held) in
    let cells : AreOnEmptyCells js c.renew_of.new.self.leases = rw c.renew_of.ensures.leases (renewed_cells js at.leases.leases renews until c.self.invariant.cells) in
    let listed : IsListed at.rule js c.renew_of.new.self.leases at.tasks = rw c.renew_of.ensures.leases (renewed_listed at.rule js at.leases.leases at.tasks c.args.host c.args.judging until c.self.invariant.listed) in
    search rules
