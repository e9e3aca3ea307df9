use Rattle.std.proofs.Common.{◌≡◌, drop}
use Rattle.std.specs.Prelude.{not}
use Rattle.std.specs.List.{find}
use Rattle.farm_model.specs.State.{answer_at, is_final}
use Rattle.farm_model.specs.Rejudgings.{new_judgings}
use Rattle.farm_core.proofs.contest.ContestState.first_unfinished.Given as goal

abbrev pub invariant-loop-member : goal.invariant-loop-member
invariant-loop-member l =
    find (λ j. not (is_final (answer_at l.self j))) (new_judgings (drop l.member-index l.members))
    ≡ find (λ j. not (is_final (answer_at l.self j))) (new_judgings l.members)
