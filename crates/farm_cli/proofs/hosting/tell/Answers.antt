use Rattle.std.proofs.Common.{arith, refl, subst}
use Rattle.farm_cli.specs.Hosting.{FaultEnds}
use Rattle.farm_cli.proofs.Hostings.{fault_told}
use Rattle.farm_cli.proofs.hosting.tell.Goals as goal

pub returns-in_default-clause-ends : goal.returns-in_default-clause-ends
returns-in_default-clause-ends g c =
    λ faults failed. fault_told c.args.name c.args.claims c.args.posts c.args.wrong c.args.end faults _ _ _ c.fault_of.result (c.fault_of.ensures.ends faults failed) refl

pub returns-in_default-clause-write_fault : goal.returns-in_default-clause-write_fault
returns-in_default-clause-write_fault g c =
    λ q. absurd (subst (λ z. FaultEnds c.args.wrong c.args.end 1 z) q (c.fault_of.ensures.ends 1 (λ p w. omega arith)))
