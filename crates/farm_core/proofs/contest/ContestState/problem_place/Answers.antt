use Rattle.std.proofs.Common.{ap, ◌∙◌}
use Rattle.std.specs.List.{position}
use Rattle.std.specs.Str.{bytes_eq}
use Rattle.farm_core.proofs.Named.{named}
use Rattle.farm_core.proofs.contest.ContestState.problem_place.Goals as goal

pub returns-clause-place : goal.returns-clause-place
returns-clause-place c =
    c.find.ensures.place ∙ named (λ problem. problem.name) c.args.name.now c.self.inside.problems.items _ c.self.invariant.problem_names
    ∙ ap (λ s. position (λ problem. bytes_eq problem.name c.args.name.now) s.problems) c.self.view_is
