-- A cell that does not matter never comes to matter again.
use Rattle.std.proofs.Common.{ℕ, zero, suc, ◌≡◌, ◌+◌, Some, None, true, set, slice_get, refl, sym, ap, ◌∙◌, arith, inl, inr}
use Rattle.std.proofs.lemmas.Bool.{cases_eq}
use Rattle.farm_kinds.specs.declared.kinds.Kind.{Kind}
use Rattle.farm_kinds.specs.declared.outcomes.Mode.{Mode}
use Rattle.farm_kinds.specs.declared.outcomes.Mode.TheVariants.{Lazy, Full}
use Rattle.farm_kinds.specs.RuleValue.{RuleValue}
use Rattle.farm_kinds.specs.Rules.{possible_kinds}
use Rattle.farm_model.specs.Rows.{Row, matters}
use Rattle.farm_model.specs.Open.{is_wanted}
use Rattle.lazy_stop.specs.Matters.{IsPossible, Matters}
use Rattle.lazy_stop.proofs.Filling.{Fills-fewer, get-set_same, get-set_other}
use Rattle.lazy_stop.proofs.Listing.{listed, fills_listed}
use Rattle.lazy_stop.proofs.Computing.{matters_computed}
use Rattle.std.specs.List.{Contains}

mattered : (rule : RuleValue) (row : Row) (u at : ℕ) (kind : Kind) → slice_get row u ≡ Some None → Contains (possible_kinds rule) kind → Matters rule (set row u (Some kind)) at → Matters rule row at
mattered rule row u at kind e possible m = record {
  empty = elim (cases_eq at u) [
    | inl same ↦ absurd (filled (sym (get-set_same row u (Some kind) None e) ∙ (sym (ap (slice_get (set row u (Some kind))) same) ∙ m.empty)))
    | inr other ↦ sym (get-set_other row u at (Some kind) other) ∙ m.empty
  ];
  one = m.one;
  other = m.other;
  one_completes = listed rule row m.one (Fills-fewer (possible_kinds rule) row u kind m.one e possible (fills_listed rule (set row u (Some kind)) m.one m.one_completes));
  other_completes = listed rule row m.other (Fills-fewer (possible_kinds rule) row u kind m.other e possible (fills_listed rule (set row u (Some kind)) m.other m.other_completes));
  alone = m.alone;
  differ = m.differ;
} where
  filled : {k : Kind} → Some (Some k) ≡ Some None → ⊥
  filled h = cc

matters_before : (rule : RuleValue) (row : Row) (u test : ℕ) (kind : Kind) → slice_get row u ≡ Some None → Contains (possible_kinds rule) kind → matters rule (set row u (Some kind)) test ≡ true → matters rule row test ≡ true
matters_before rule row u zero kind e possible t = cc
matters_before rule row u (suc at) kind e possible t =
    let next : suc at ≡ at + 1 = omega arith in
    let m = (matters_computed rule (set row u (Some kind)) at).0 (sym (ap (matters rule (set row u (Some kind))) next) ∙ t) in
    ap (matters rule row) next ∙ (matters_computed rule row at).1 (mattered rule row u at kind e possible m)

-- a test that is wanted after a result was wanted before it
pub wanted_before : (rule : RuleValue) (mode : Mode) (row : Row) (u test : ℕ) (kind : Kind) → slice_get row u ≡ Some None → IsPossible rule kind → is_wanted rule mode (set row u (Some kind)) test ≡ true → is_wanted rule mode row test ≡ true
unfolding IsPossible
wanted_before rule Full row u test kind e possible t = refl
wanted_before rule Lazy row u test kind e possible t = matters_before rule row u test kind e possible t
