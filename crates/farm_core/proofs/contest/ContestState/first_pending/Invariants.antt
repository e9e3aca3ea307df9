use Rattle.std.proofs.Common.{◌≡◌, drop}
use Rattle.std.specs.Prelude.{not}
use Rattle.std.specs.List.{find}
use Rattle.farm_model.specs.Refusals.{has_final}
use Rattle.farm_core.proofs.contest.ContestState.first_pending.Given as goal

abbrev pub invariant-loop-number : goal.invariant-loop-number
invariant-loop-number l =
    find (λ n. not (has_final l.self n)) (drop l.number-index l.list) ≡ find (λ n. not (has_final l.self n)) l.list
