use Rattle.std.proofs.Common.{rules, ◌≡◌, ◌≢◌, ◌<◌, ◌-◌, ℕ, sym, subst, arith, Option, Some, None, List, set, ap, ◌∙◌}
use Rattle.std.specs.List.{slice_get, Contains}
use Rattle.std.proofs.lemmas.Grind.{common_steps}
use Rattle.std.proofs.lemmas.Option.{gets}
use Rattle.farm_kinds.specs.declared.kinds.Kind.{Kind}
use Rattle.farm_kinds.specs.RuleValue.{RuleValue}
use Rattle.farm_kinds.specs.Rules.{possible_kinds}
use Rattle.lazy_stop.specs.Matters.{IsPossible}
use Rattle.lazy_stop.proofs.Answering.{possible_of}
use Rattle.lazy_stop.specs.RowFacts.{IsFirstEmpty, IsRow}
use Rattle.lazy_stop.specs.RowValue.{RowValue}
use Rattle.lazy_stop.proofs.Putting.{row_put, still_filled}
use Rattle.lazy_stop.proofs.row.Row.put.Goals as goal

pub first_empty-self-inside-requires-clause-filled : goal.first_empty-self-inside-requires-clause-filled
first_empty-self-inside-requires-clause-filled c =
    let e : slice_get c.self.inside.cells (c.args.rank - 1) ≡ Some None = grind (arith, common_steps, gets, c.in_default.is, c.in_default.not-Some) in
    let P : List (Option Kind) → Type 0 = λ cells. (i : ℕ) → i < c.self.inside.first_empty → slice_get cells i ≢ Some None in
    subst P (sym c.fill.ensures) (still_filled _ _ _ _ e c.self.invariant.empty_is.filled)

pub invariant_of-self : goal.invariant_of-self
invariant_of-self c =
    let e : slice_get c.self.inside.cells (c.args.rank - 1) ≡ Some None = grind (arith, common_steps, gets, c.in_default.is, c.in_default.not-Some) in
    let rule : c.self.inside.rule ≡ c.args.self.now.rule = ap (λ (v : RowValue). v.rule) c.self.view_is in
    let p : Contains (possible_kinds c.self.inside.rule) c.args.kind = possible_of c.self.inside.rule c.args.kind (subst (λ (r : RuleValue). IsPossible r c.args.kind) (sym rule) c.requires.possible) in
    let empty : IsFirstEmpty (set c.self.inside.cells (c.args.rank - 1) (Some c.args.kind)) c.first_empty-self-inside.result = subst (λ (cells : List (Option Kind)). IsFirstEmpty cells c.first_empty-self-inside.result) c.fill.ensures c.first_empty-self-inside.ensures in
    subst (λ (cells : List (Option Kind)). IsRow c.self.inside.rule c.self.inside.extremes (Some c.best_with.result) c.first_empty-self-inside.result cells) (sym c.fill.ensures)
    (row_put _ _ _ _ _ _ _ _ _ c.self.invariant e p (c.best_with.ensures _ e c.self.invariant.best_is) empty)

pub returns-clause-kept : goal.returns-clause-kept
returns-clause-kept c kept h =
    let e : slice_get c.self.inside.cells (c.args.rank - 1) ≡ Some None = grind (arith, common_steps, gets, c.in_default.is, c.in_default.not-Some) in
    let k : slice_get c.self.inside.cells (c.args.rank - 1) ≡ Some (Some kept) = ap (λ (v : RowValue). slice_get v.cells (c.args.rank - 1)) c.self.view_is ∙ h in
    let q : Some None ≡ Some (Some kept) = sym e ∙ k in
    cc

pub returns-in-Some-clause-kept : goal.returns-in-Some-clause-kept
returns-in-Some-clause-kept c = search rules
