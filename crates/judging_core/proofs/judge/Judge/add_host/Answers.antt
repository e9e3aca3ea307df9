use Rattle.std.proofs.Common.{◌+◌, rules}
use Rattle.judging_core.specs.Holding.{IsHeldWell, AreOnEmptyCells}
use Rattle.judging_core.specs.JudgeShape.{judging_values}
use Rattle.judging_core.proofs.Held.{more_hosts}
use Rattle.judging_core.proofs.judge.Judge.add_host.Goals as goal

pub invariant_of-self-2 : goal.invariant_of-self-2
invariant_of-self-2 c =
    let held : IsHeldWell (c.self.inside.hosts + 1) c.make_lease_room.new.leases.leases = rw c.make_lease_room.ensures.leases (more_hosts c.self.inside.hosts c.self.inside.leases.leases c.self.invariant.held) in
    let cells : AreOnEmptyCells (judging_values c.self.inside.judgings.items) c.make_lease_room.new.leases.leases = rw c.make_lease_room.ensures.leases c.self.invariant.cells in
    search rules
