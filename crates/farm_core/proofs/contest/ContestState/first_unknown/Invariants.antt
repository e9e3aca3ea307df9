use Rattle.std.proofs.Common.{◌≡◌, drop}
use Rattle.std.specs.Prelude.{not}
use Rattle.std.specs.List.{find}
use Rattle.farm_model.specs.Refusals.{is_submission}
use Rattle.farm_core.proofs.contest.ContestState.first_unknown.Given as goal

abbrev pub invariant-loop-number : goal.invariant-loop-number
invariant-loop-number l =
    find (λ n. not (is_submission l.self n)) (drop l.number-index l.list) ≡ find (λ n. not (is_submission l.self n)) l.list
