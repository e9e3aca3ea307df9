use Rattle.std.proofs.Common.{arith}
use Rattle.std.proofs.lemmas.Grind.{common_steps}
use Rattle.std.proofs.Common.{ap, ◌∙◌}
use Rattle.farm_model.specs.State.{host_number}
use Rattle.farm_core.proofs.Named.{unknown_name}
use Rattle.farm_core.proofs.contest.ContestState.add_host.Goals as goal

pub push_reserved-requires-2-clause-unknown : goal.push_reserved-requires-2-clause-unknown
push_reserved-requires-2-clause-unknown c =
    unknown_name (λ host. host.name) c.args.name c.self.inside.hosts.items _ (c.reserve-2.ensures.names ∙ c.self.invariant.host_names)
    (ap (λ s. host_number s.hosts c.args.name) c.self.view_is ∙ c.requires.unknown)

pub invariant_of-self-2 : goal.invariant_of-self-2
invariant_of-self-2 c = grind (arith, common_steps)
