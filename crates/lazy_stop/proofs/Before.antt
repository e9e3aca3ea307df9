-- The place before which empty cells matter, and the condition at each of them.
use Rattle.std.proofs.Common.{ℕ, ◌≡◌, ◌↔◌, ◌<◌, ◌≤◌, ◌-◌, ◌∙◌, Option, Some, None, Bool, true, false, cond, ◌&&◌, ◌||◌, eqb, sym, ap, arith, length}
use Rattle.std.specs.Prelude.{nat_le, nat_lt}
use Rattle.std.specs.List.{slice_get}
use Rattle.std.proofs.lemmas.Bool.Decides.{nat_tests}
use Rattle.std.proofs.lemmas.Option.{slice_get_within}
use Rattle.farm_kinds.specs.RuleValue.{RuleValue}
use Rattle.farm_kinds.specs.Rules.{prio_of}
use Rattle.farm_model.specs.Rows.{Row, matters}
use Rattle.lazy_stop.specs.Matters.{Matters}
use Rattle.lazy_stop.specs.RowFacts.{IsRow}
use Rattle.lazy_stop.specs.declared.row.Best.{Best}
use Rattle.lazy_stop.specs.declared.extremes.Extremes.{Extremes}
use Rattle.lazy_stop.proofs.ClosedForms.{has_rival, passes_best, may_change_verdict, place_of_best, matters_before}
use Rattle.lazy_stop.proofs.Computing.{matters_said}
use Rattle.lazy_stop.proofs.Answering.{decides_matters}

level_before : (rival : Bool) (at : ℕ) → nat_lt at (cond rival 1 0) ≡ (eqb at 0 && rival)
level_before true at = grind (arith, nat_tests)
level_before false at = grind (arith, nat_tests)

past_before : (below rival : Bool) (best tests at : ℕ) → at < tests → nat_lt at (cond below tests (cond rival best 0)) ≡ (below || (nat_lt at best && rival))
past_before true rival best tests at h = grind (arith, nat_tests)
past_before false true best tests at h = grind (arith, nat_tests)
past_before false false best tests at h = grind (arith, nat_tests)

best_before : (rule : RuleValue) (extremes : Extremes) (best : Option Best) (tests at : ℕ) → at < tests → nat_lt at (place_of_best rule extremes best tests) ≡ passes_best rule extremes best at
best_before rule extremes None tests at h = grind (arith, nat_tests)
best_before rule extremes (Some best) tests at h =
    past_before (nat_lt (prio_of rule best.kind) (prio_of rule extremes.greatest)) (has_rival extremes.rival) best.at tests at h

before_may : (rule : RuleValue) (extremes : Extremes) (best : Option Best) (tests at : ℕ) → at < tests → nat_lt at (matters_before rule extremes best tests) ≡ may_change_verdict rule extremes best at
before_may rule extremes best tests at h =
    elim (eqb (prio_of rule extremes.least) (prio_of rule extremes.greatest)) as (λ b. nat_lt at (cond b (cond (has_rival extremes.rival) 1 0) (place_of_best rule extremes best tests)) ≡ cond b (eqb at 0 && has_rival extremes.rival) (passes_best rule extremes best at)) [
      | true ↦ level_before (has_rival extremes.rival) at
      | false ↦ best_before rule extremes best tests at h
    ]

pub decides_before : (rule : RuleValue) (extremes : Extremes) (best : Option Best) (tests result : ℕ) → result ≡ matters_before rule extremes best tests → (cells : Row) (first_empty at : ℕ) → IsRow rule extremes best first_empty cells → length cells ≡ tests → slice_get cells at ≡ Some None → (nat_lt at result ≡ true) ↔ Matters rule cells at
decides_before rule extremes best tests result is cells first_empty at row len e =
    let within : at < length cells = slice_get_within cells at None e in
    let same : nat_lt at result ≡ may_change_verdict rule extremes best at = ap (λ n. nat_lt at n) is ∙ before_may rule extremes best tests at (omega arith) in
    decides_matters rule extremes best at (nat_lt at result) same cells first_empty row e

-- ranks count from 1, and places from 0
pub matters_up_to : (rule : RuleValue) (cells : Row) (rank end : ℕ) → 1 ≤ rank → (nat_lt (rank - 1) end ≡ true) ↔ Matters rule cells (rank - 1) → matters rule cells rank ≡ nat_le rank end
matters_up_to rule cells rank end low h =
    let same : nat_lt (rank - 1) end ≡ nat_le rank end = grind (arith, nat_tests) in
    sym (matters_said rule cells rank (nat_lt (rank - 1) end) low h) ∙ same
