-- Rows that later results fill, and what is reported of them, lazily and in full.
use Rattle.std.proofs.Common.{ℕ, zero, suc, ◌≡◌, ◌≢◌, ◌↔◌, ◌+◌, ◌-◌, ◌<◌, List, [], ◌∷◌, Option, Some, None, true, refl, sym, ap, ◌∙◌, subst, arith, map, slice_get}
use Rattle.std.specs.Option.{option_map, option_or}
use Rattle.std.specs.List.{range_with_len}
use Rattle.farm_kinds.specs.declared.kinds.Kind.{Kind}
use Rattle.farm_kinds.specs.declared.outcomes.Verdict.{Verdict}
use Rattle.farm_kinds.specs.declared.outcomes.Verdict.TheVariants.{Tests}
use Rattle.farm_kinds.specs.declared.outcomes.Answer.TheVariants.{Final, Pending}
use Rattle.farm_kinds.specs.declared.outcomes.Mode.{Mode}
use Rattle.farm_kinds.specs.declared.outcomes.Mode.TheVariants.{Lazy, Full}
use Rattle.farm_kinds.specs.RuleValue.{RuleValue}
use Rattle.farm_kinds.specs.Rules.{remap_of, possible_kinds}
use Rattle.farm_model.specs.Numbered.{item_of}
use Rattle.farm_model.specs.Rows.{Row, kinds_of, answer_with, answer_of, settled_kind, matters}
use Rattle.farm_model.specs.Open.{is_wanted}
use Rattle.lazy_stop.specs.Matters.{Extends, SomeMatters}
use Rattle.lazy_stop.proofs.Answering.{remap_possible}
use Rattle.lazy_stop.proofs.LawLemmas.{settled_extends, lazy_final, lazy_pending}
use Rattle.lazy_stop.proofs.LawLemmas.{final_full as lazy_full}
use Rattle.lazy_stop.proofs.Computing.{matters_computed}
use Rattle.farm_laws.proofs.Items.{item_at, item_by}
use Rattle.farm_laws.proofs.Rows.{final_full, pending_empty, empty_pending}

-- Pending

-- the cell of the test is empty, and is still to be judged
abbrev pub IsWanted : RuleValue → Mode → Row → ℕ → Type 0
IsWanted rule mode row test = (item_of row test ≡ Some None) × (is_wanted rule mode row test ≡ true)

abbrev pub SomeWanted : RuleValue → Mode → Row → Type 0
SomeWanted rule mode row = (test : ℕ) × IsWanted rule mode row test

not_nothing : {X : Type 0} (x : X) (xs : List X) → x ∷ xs ≢ []
not_nothing x xs e = cc

matters_wanted : (rule : RuleValue) (row : Row) → SomeMatters rule row → SomeWanted rule Lazy row
matters_wanted rule row m =
    let place : m.0 + 1 - 1 ≡ m.0 = omega arith in
    let empty : item_of row (m.0 + 1) ≡ Some None = item_by row (m.0 + 1) None (omega arith) (ap (slice_get row) place ∙ m.1.empty) in
    (m.0 + 1, (empty, (matters_computed rule row m.0).1 m.1))

wanted_matters : (rule : RuleValue) (row : Row) → SomeWanted rule Lazy row → SomeMatters rule row
wanted_matters rule row w =
    let some : 0 < w.0 = (item_at row w.0 None w.1.0).0 in
    let next : w.0 ≡ w.0 - 1 + 1 = omega (arith, some) in
    (w.0 - 1, (matters_computed rule row (w.0 - 1)).0 (subst (λ (test : ℕ). matters rule row test ≡ true) next w.1.1))

no_item : {X : Type 0} (n : ℕ) (x : X) → item_of [] n ≡ Some x → ⊥
no_item n x h = let a = (item_at [] n x h).1 in cc

-- a row is reported pending exactly while a cell is still to be judged
pub pending_wanted : (rule : RuleValue) (mode : Mode) (row : Row) → (answer_of rule mode row ≡ Pending) ↔ SomeWanted rule mode row
pending_wanted rule Full row = (
  λ h. let e = pending_empty rule row h in (e.0, (e.1, refl)),
  λ w. empty_pending rule row w.0 w.1.0,
)
pending_wanted rule Lazy [] = (λ h. cc, λ w. absurd (no_item w.0 None w.1.0))
pending_wanted rule Lazy (c ∷ row) = (
  λ h. matters_wanted rule (c ∷ row) ((lazy_pending rule (c ∷ row) (not_nothing c row)).0 h),
  λ w. (lazy_pending rule (c ∷ row) (not_nothing c row)).1 (wanted_matters rule (c ∷ row) w),
)

-- Later rows

extends_cons : (rule : RuleValue) (c d more : Option Kind) (row later : Row) → d ≡ option_or c (option_map (remap_of rule) more)
    → Extends (possible_kinds rule) row later → Extends (possible_kinds rule) (c ∷ row) (d ∷ later)
extends_cons rule (Some k) d more row later e h = (e, h)
extends_cons rule None d None row later e h = subst (λ (x : Option Kind). Extends (possible_kinds rule) (None ∷ row) (x ∷ later)) (sym e) h
extends_cons rule None d (Some k) row later e h = subst (λ (x : Option Kind). Extends (possible_kinds rule) (None ∷ row) (x ∷ later)) (sym e) (remap_possible rule k, h)

-- a row whose cells keep what they hold, and are filled with what counts as its remapped kind
pub extends_cells : (rule : RuleValue) (f g more : ℕ → Option Kind) → ((t : ℕ) → g t ≡ option_or (f t) (option_map (remap_of rule) (more t)))
    → (a n : ℕ) → Extends (possible_kinds rule) (map f (range_with_len a n)) (map g (range_with_len a n))
extends_cells rule f g more h a zero = tt
extends_cells rule f g more h a (suc n) = extends_cons rule (f a) (g a) (more a) (map f (range_with_len (a + 1) n)) (map g (range_with_len (a + 1) n)) (h a) (extends_cells rule f g more h (a + 1) n)

-- a full row is not extended
full_same : (possible : List Kind) (row later : Row) (ks : List Kind) → kinds_of row ≡ Some ks → Extends possible row later → later ≡ row
full_same possible [] [] ks e x = refl
full_same possible [] (d ∷ later) ks e x = absurd x
full_same possible (c ∷ row) [] ks e x = absurd x
full_same possible (None ∷ row) (d ∷ later) ks e x = cc
full_same possible (Some k ∷ row) (d ∷ later) ks e x =
    elim (kinds_of row) as (λ o. kinds_of row ≡ o → option_map (λ kinds. k ∷ kinds) o ≡ Some ks → (d ∷ later) ≡ (Some k ∷ row)) [
      | None ↦ λ h g. cc
      | Some kinds ↦ λ h g. ap (λ z. z ∷ later) x.0 ∙ ap (λ zs. Some k ∷ zs) (full_same possible row later kinds h x.1)
    ] refl e

-- a lazy verdict of a row with cells is that of a kind
kind_known : (o : Option Kind) (v : Verdict) → answer_with o ≡ Final v → (k : Kind) × (v ≡ Tests k)
kind_known None v h = cc
kind_known (Some k) v h = (k, cc)

lazy_stays : (rule : RuleValue) (row later : Row) (v : Verdict) → Extends (possible_kinds rule) row later → answer_of rule Lazy row ≡ Final v → answer_of rule Lazy later ≡ Final v
lazy_stays rule [] [] v x h = h
lazy_stays rule [] (d ∷ later) v x h = absurd x
lazy_stays rule (c ∷ row) [] v x h = absurd x
lazy_stays rule (c ∷ row) (d ∷ later) v x h =
    let k = kind_known (settled_kind rule (c ∷ row)) v h in
    let settled = (lazy_final rule (c ∷ row) k.0 (not_nothing c row)).0 (h ∙ ap (λ (w : Verdict). Final w) k.1) in
    (lazy_final rule (d ∷ later) k.0 (not_nothing d later)).1 (settled_extends rule (c ∷ row) (d ∷ later) k.0 x settled) ∙ ap (λ (w : Verdict). Final w) (sym k.1)

-- what is final stays, whatever fills the empty cells
pub answer_stays : (rule : RuleValue) (mode : Mode) (row later : Row) (v : Verdict) → Extends (possible_kinds rule) row later → answer_of rule mode row ≡ Final v → answer_of rule mode later ≡ Final v
answer_stays rule Lazy row later v x h = lazy_stays rule row later v x h
answer_stays rule Full row later v x h = let f = final_full rule row v h in ap (answer_of rule Full) (full_same (possible_kinds rule) row later f.0 f.1 x) ∙ h

lazy_in_full : (rule : RuleValue) (row later : Row) (v : Verdict) (ks : List Kind) → Extends (possible_kinds rule) row later → answer_of rule Lazy row ≡ Final v → kinds_of later ≡ Some ks → answer_of rule Full later ≡ Final v
lazy_in_full rule [] [] v ks x h e = h
lazy_in_full rule [] (d ∷ later) v ks x h e = absurd x
lazy_in_full rule (c ∷ row) later v ks x h e =
    let k = kind_known (settled_kind rule (c ∷ row)) v h in
    lazy_full rule (c ∷ row) later k.0 ks (not_nothing c row) x (h ∙ ap (λ (w : Verdict). Final w) k.1) e ∙ ap (λ (w : Verdict). Final w) (sym k.1)

-- and is what full judging reports of the full row that comes of it
pub answer_in_full : (rule : RuleValue) (mode : Mode) (row later : Row) (v : Verdict) (ks : List Kind) → Extends (possible_kinds rule) row later → answer_of rule mode row ≡ Final v → kinds_of later ≡ Some ks → answer_of rule Full later ≡ Final v
answer_in_full rule Lazy row later v ks x h e = lazy_in_full rule row later v ks x h e
answer_in_full rule Full row later v ks x h e = answer_stays rule Full row later v x h
