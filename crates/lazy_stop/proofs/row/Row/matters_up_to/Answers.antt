use Rattle.std.proofs.Common.{ℕ, ◌≡◌, ◌-◌, Some, None, length, rules, subst}
use Rattle.std.specs.Prelude.{nat_le}
use Rattle.std.specs.List.{slice_get}
use Rattle.farm_model.specs.Rows.{matters}
use Rattle.lazy_stop.specs.RowValue.{RowValue}
use Rattle.lazy_stop.proofs.Before.{matters_up_to}
use Rattle.lazy_stop.proofs.row.Row.matters_up_to.Goals as goal

pub returns : goal.returns
returns c = λ rank low.
    let end : ℕ = c.matters_before.result in
    let P : RowValue → Type 0 = λ v. slice_get v.cells (rank - 1) ≡ Some None → matters v.rule v.cells rank ≡ nat_le rank end in
    let count : length c.self.inside.cells ≡ c.len.result = search rules in
    subst P c.self.view_is
    (λ e. matters_up_to c.self.inside.rule c.self.inside.cells rank end low (c.matters_before.ensures _ _ _ c.self.invariant count e))
