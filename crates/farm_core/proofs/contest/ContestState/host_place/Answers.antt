use Rattle.std.proofs.Common.{ap, ◌∙◌}
use Rattle.std.specs.List.{position}
use Rattle.std.specs.Str.{bytes_eq}
use Rattle.farm_core.proofs.Named.{named}
use Rattle.farm_core.proofs.contest.ContestState.host_place.Goals as goal

pub returns-clause-place : goal.returns-clause-place
returns-clause-place c =
    c.find.ensures.place ∙ named (λ host. host.name) c.args.name.now c.self.inside.hosts.items _ c.self.invariant.host_names
    ∙ ap (λ s. position (λ host. bytes_eq host.name c.args.name.now) s.hosts) c.self.view_is
