use Rattle.std.proofs.Common.{◌≡◌, map, take}
use Rattle.contest_folder.specs.declared.roster.Problem.{Problem}
use Rattle.contest_server.proofs.shown.problem_names.Given as goal

abbrev pub invariant-loop-i : goal.invariant-loop-i
invariant-loop-i l = l.names.items ≡ map (λ (problem : Problem). problem.name) (take l.i l.roster.problems)
