-- The laws of settled verdicts and of cells that matter.
use Rattle.std.proofs.Common.{ℕ, suc, zero, ◌≡◌, ◌≢◌, ◌<◌, ◌↔◌, List, [], ◌∷◌, Option, Some, None, Bool, true, false, eqb, refl, sym, ap, ◌∙◌, subst, inl, inr, arith, length, ◌⊎◌, set, unwrap_or}
use Rattle.std.specs.List.{slice_get, Contains}
use Rattle.std.specs.Option.{option_map}
use Rattle.std.proofs.lemmas.Bool.{eqb-true, eqb-false}
use Rattle.farm_kinds.specs.declared.kinds.Kind.{Kind}
use Rattle.farm_kinds.specs.declared.kinds.Kind.TheVariants.{Correct}
use Rattle.farm_kinds.specs.declared.outcomes.Verdict.TheVariants.{Tests}
use Rattle.farm_kinds.specs.declared.outcomes.Answer.TheVariants.{Final, Pending}
use Rattle.farm_kinds.specs.declared.outcomes.Mode.TheVariants.{Lazy, Full}
use Rattle.farm_kinds.specs.RuleValue.{RuleValue}
use Rattle.farm_kinds.specs.Rules.{prio_of, verdict_of, place_of, remap_of, possible_kinds}
use Rattle.farm_model.specs.Rows.{Row, completions_of, is_settled, settled_kind, kinds_of, full_kind, answer_with, answer_of}
use Rattle.lazy_stop.specs.Matters.{Fills, Extends, Settled, SomeMatters}
use Rattle.lazy_stop.proofs.Firsts.{first_some}
use Rattle.lazy_stop.proofs.Filling.{get-set_same, Fills-filled_by, filled_by, Fills-fewer}
use Rattle.lazy_stop.proofs.Listing.{listed, fills_listed}
use Rattle.lazy_stop.proofs.Walk.{walk}
use Rattle.lazy_stop.proofs.Answering.{same_place, some_possible, settled_if, unsettled_if, settled_kind_is, settled_kind_none, Matters-from_turns, turns_from_Matters, turns_unsettled, answer_cells, settled_test, is_full, pending_when_open}

same_option : (a b : Option Kind) → (a ≡ b) ⊎ (a ≢ b)
same_option None None = inl refl
same_option None (Some b) = inr (λ e. cc)
same_option (Some a) None = inr (λ e. cc)
same_option (Some a) (Some b) = elim (eqb (place_of a) (place_of b)) as (λ t. eqb (place_of a) (place_of b) ≡ t → (Some a ≡ Some b) ⊎ (Some a ≢ Some b)) [
  | true ↦ λ t. inl (ap Some (same_place a b (eqb-true _ _ t)))
  | false ↦ λ t. inr (λ e. let q : a ≡ b = cc in eqb-false _ _ t (ap place_of q))
] refl

-- a row with cells has a settled verdict, or a cell that matters
settled_or_matters : (rule : RuleValue) (cells : Row) → cells ≢ [] → ((v : Kind) × Settled rule cells v) ⊎ SomeMatters rule cells
settled_or_matters rule [] ne = absurd (ne refl)
settled_or_matters rule (c ∷ cells) ne = by_test (is_settled rule (c ∷ cells) v.0) refl
  where
    v : (w : Kind) × (verdict_of rule (filled_by (remap_of rule Correct) (c ∷ cells)) ≡ Some w)
    v = first_some (prio_of rule) (unwrap_or c (remap_of rule Correct)) (filled_by (remap_of rule Correct) cells)

    by_test : (t : Bool) → is_settled rule (c ∷ cells) v.0 ≡ t → ((w : Kind) × Settled rule (c ∷ cells) w) ⊎ SomeMatters rule (c ∷ cells)
    by_test true t = inl (v.0, settled_if rule (c ∷ cells) v.0 t)
    by_test false t =
        let other = unsettled_if rule (c ∷ cells) v.0 t in
        elim (walk same_option (verdict_of rule) (possible_kinds rule) (c ∷ cells) other.0 (filled_by (remap_of rule Correct) (c ∷ cells)) other.1 (Fills-filled_by (possible_kinds rule) (remap_of rule Correct) (c ∷ cells) (some_possible rule))) [
          | inl e ↦ absurd (other.2 (e ∙ v.1))
          | inr h ↦ inr (h.0, Matters-from_turns rule (c ∷ cells) h.0 h.1 h.2)
        ]

matters_unsettled : (rule : RuleValue) (cells : Row) → SomeMatters rule cells → (v : Kind) → Settled rule cells v → ⊥
matters_unsettled rule cells m v all = turns_unsettled rule cells m.0 (turns_from_Matters rule cells m.0 m.1) v all

-- each completion of the list has the settled verdict
pub settled_every : (rule : RuleValue) (cells : Row) (v : Kind) → (is_settled rule cells v ≡ true) ↔ ((kinds : List Kind) → Contains (completions_of rule cells) kinds → verdict_of rule kinds ≡ Some v)
settled_every rule cells v = (λ t kinds h. settled_if rule cells v t kinds (fills_listed rule cells kinds h), λ all. settled_test rule cells v (λ kinds f. all kinds (listed rule cells kinds f)))

pub unsettled_matters : (rule : RuleValue) (cells : Row) → cells ≢ [] → ((v : Kind) → is_settled rule cells v ≡ true → ⊥) ↔ SomeMatters rule cells
unsettled_matters rule cells ne = (
  λ none. elim (settled_or_matters rule cells ne) [ inl s ↦ absurd (none s.0 (settled_test rule cells s.0 s.1)) | inr m ↦ m ],
  λ m v t. matters_unsettled rule cells m v (settled_if rule cells v t),
)

pub settled_fewer : (rule : RuleValue) (cells : Row) (at : ℕ) (kind v : Kind) → slice_get cells at ≡ Some None → Contains (possible_kinds rule) kind → Settled rule cells v → Settled rule (set cells at (Some kind)) v
settled_fewer rule cells at kind v e p all kinds f = all kinds (Fills-fewer (possible_kinds rule) cells at kind kinds e p f)

pub filled_settled : (rule : RuleValue) (cells : Row) (at : ℕ) (kind v : Kind) → slice_get cells at ≡ Some None → Contains (possible_kinds rule) kind → is_settled rule cells v ≡ true → is_settled rule (set cells at (Some kind)) v ≡ true
filled_settled rule cells at kind v e p t = settled_test rule (set cells at (Some kind)) v (settled_fewer rule cells at kind v e p (settled_if rule cells v t))

-- what fills a later row fills the row
Fills-extends : {X : Type 0} (P : List X) (cs ds : List (Option X)) (ys : List X) → Extends P cs ds → Fills P ds ys → Fills P cs ys
Fills-extends P [] [] ys x f = f
Fills-extends P [] (d ∷ ds) ys x f = absurd x
Fills-extends P (c ∷ cs) [] ys x f = absurd x
Fills-extends P (Some k ∷ cs) (None ∷ ds) ys x f = cc
Fills-extends P (Some k ∷ cs) (Some d ∷ ds) [] x f = absurd f
Fills-extends P (Some k ∷ cs) (Some d ∷ ds) (y ∷ ys) x f = let q : Some d ≡ Some k = x.0 in let s : d ≡ k = cc in (f.0 ∙ s, Fills-extends P cs ds ys x.1 f.1)
Fills-extends P (None ∷ cs) (None ∷ ds) [] x f = absurd f
Fills-extends P (None ∷ cs) (None ∷ ds) (y ∷ ys) x f = (f.0, Fills-extends P cs ds ys x f.1)
Fills-extends P (None ∷ cs) (Some d ∷ ds) [] x f = absurd f
Fills-extends P (None ∷ cs) (Some d ∷ ds) (y ∷ ys) x f = (subst (Contains P) (sym f.0) x.0, Fills-extends P cs ds ys x.1 f.1)

pub settled_extends : (rule : RuleValue) (cells later : Row) (v : Kind) → Extends (possible_kinds rule) cells later → Settled rule cells v → Settled rule later v
settled_extends rule cells later v x all kinds f = all kinds (Fills-extends (possible_kinds rule) cells later kinds x f)

-- the kinds of a full row complete it
Fills-full : (P : List Kind) (cs : Row) (ys : List Kind) → kinds_of cs ≡ Some ys → Fills P cs ys
Fills-full P [] [] e = tt
Fills-full P [] (y ∷ ys) e = cc
Fills-full P (None ∷ cs) ys e = cc
Fills-full P (Some k ∷ cs) ys e = elim (kinds_of cs) as (λ o. kinds_of cs ≡ o → option_map (λ zs. k ∷ zs) o ≡ Some ys → Fills P (Some k ∷ cs) ys) [
  | None ↦ λ h g. cc
  | Some zs ↦ λ h g. let q : k ∷ zs ≡ ys = cc in subst (Fills P (Some k ∷ cs)) q (refl, Fills-full P cs zs h)
] refl e

pub full_fold : (rule : RuleValue) (cells later : Row) (v : Kind) (kinds : List Kind) → Extends (possible_kinds rule) cells later → Settled rule cells v → kinds_of later ≡ Some kinds → verdict_of rule kinds ≡ Some v
full_fold rule cells later v kinds x all e = settled_extends rule cells later v x all kinds (Fills-full (possible_kinds rule) later kinds e)

pub settled_full_verdict : (rule : RuleValue) (cells later : Row) (v : Kind) (kinds : List Kind) → Extends (possible_kinds rule) cells later → is_settled rule cells v ≡ true → kinds_of later ≡ Some kinds → verdict_of rule kinds ≡ Some v
settled_full_verdict rule cells later v kinds x t e = full_fold rule cells later v kinds x (settled_if rule cells v t) e

has_cells : (cells : Row) → cells ≢ [] → 0 < length cells
has_cells [] ne = absurd (ne refl)
has_cells (c ∷ cells) ne = omega arith

-- the lazy answer is final with a settled verdict alone
pub lazy_final : (rule : RuleValue) (cells : Row) (v : Kind) → cells ≢ [] → (answer_of rule Lazy cells ≡ Final (Tests v)) ↔ Settled rule cells v
lazy_final rule cells v ne = (settled, final)
  where
    is : answer_of rule Lazy cells ≡ answer_with (settled_kind rule cells)
    is = answer_cells rule Lazy cells (has_cells cells ne)

    settled : answer_of rule Lazy cells ≡ Final (Tests v) → Settled rule cells v
    settled e = elim (settled_or_matters rule cells ne) [
      | inl s ↦
          let k : settled_kind rule cells ≡ Some s.0 = settled_kind_is rule cells s.0 s.1 in
          let q : Final (Tests s.0) ≡ Final (Tests v) = sym (is ∙ ap answer_with k) ∙ e in
          let r : s.0 ≡ v = cc in
          subst (Settled rule cells) r s.1
      | inr m ↦
          let k : settled_kind rule cells ≡ None = settled_kind_none rule cells (matters_unsettled rule cells m) in
          let q : Pending ≡ Final (Tests v) = sym (is ∙ ap answer_with k) ∙ e in
          cc
    ]

    final : Settled rule cells v → answer_of rule Lazy cells ≡ Final (Tests v)
    final all = is ∙ ap answer_with (settled_kind_is rule cells v all)

pub final_settled : (rule : RuleValue) (cells : Row) (v : Kind) → cells ≢ [] → (answer_of rule Lazy cells ≡ Final (Tests v)) ↔ (is_settled rule cells v ≡ true)
final_settled rule cells v ne = (λ e. settled_test rule cells v ((lazy_final rule cells v ne).0 e), λ t. (lazy_final rule cells v ne).1 (settled_if rule cells v t))

-- the lazy answer is pending where some empty cell matters
pub lazy_pending : (rule : RuleValue) (cells : Row) → cells ≢ [] → (answer_of rule Lazy cells ≡ Pending) ↔ SomeMatters rule cells
lazy_pending rule cells ne = (matters, pending)
  where
    is : answer_of rule Lazy cells ≡ answer_with (settled_kind rule cells)
    is = answer_cells rule Lazy cells (has_cells cells ne)

    matters : answer_of rule Lazy cells ≡ Pending → SomeMatters rule cells
    matters e = elim (settled_or_matters rule cells ne) [
      | inl s ↦
          let k : settled_kind rule cells ≡ Some s.0 = settled_kind_is rule cells s.0 s.1 in
          let q : Final (Tests s.0) ≡ Pending = sym (is ∙ ap answer_with k) ∙ e in
          cc
      | inr m ↦ m
    ]

    pending : SomeMatters rule cells → answer_of rule Lazy cells ≡ Pending
    pending m = is ∙ ap answer_with (settled_kind_none rule cells (matters_unsettled rule cells m))

-- a cell makes a row with cells
cells_at : {X : Type 0} (cells : List X) (at : ℕ) (x : X) → slice_get cells at ≡ Some x → cells ≢ []
cells_at [] at x e n = cc
cells_at (c ∷ cells) at x e n = cc

-- a final answer stays
pub final_fewer : (rule : RuleValue) (cells : Row) (at : ℕ) (kind v : Kind) → slice_get cells at ≡ Some None → Contains (possible_kinds rule) kind → answer_of rule Lazy cells ≡ Final (Tests v) → answer_of rule Lazy (set cells at (Some kind)) ≡ Final (Tests v)
final_fewer rule cells at kind v e p final =
    let there : slice_get (set cells at (Some kind)) at ≡ Some (Some kind) = get-set_same cells at (Some kind) None e in
    (lazy_final rule (set cells at (Some kind)) v (cells_at _ at _ there)).1
    (settled_fewer rule cells at kind v e p ((lazy_final rule cells v (cells_at cells at _ e)).0 final))

-- a final answer is the answer of each full row to come
pub final_full : (rule : RuleValue) (cells later : Row) (v : Kind) (kinds : List Kind) → cells ≢ [] → Extends (possible_kinds rule) cells later → answer_of rule Lazy cells ≡ Final (Tests v) → kinds_of later ≡ Some kinds → answer_of rule Full later ≡ Final (Tests v)
final_full rule [] later v kinds ne x final e = absurd (ne refl)
final_full rule (c ∷ cells) [] v kinds ne x final e = absurd x
final_full rule (c ∷ cells) (d ∷ later) v kinds ne x final e =
    let settled : Settled rule (c ∷ cells) v = (lazy_final rule (c ∷ cells) v ne).0 final in
    let verdict : verdict_of rule kinds ≡ Some v = full_fold rule (c ∷ cells) (d ∷ later) v kinds x settled e in
    answer_cells rule Full (d ∷ later) (omega arith) ∙ ap (λ o. answer_with (full_kind rule o)) e ∙ ap answer_with verdict

-- a row has an empty cell, or none
some_empty : (cells : Row) → ((at : ℕ) × (slice_get cells at ≡ Some None)) ⊎ ((i : ℕ) → slice_get cells i ≢ Some None)
some_empty [] = inr (λ i e. cc)
some_empty (None ∷ cells) = inl (0, refl)
some_empty (Some k ∷ cells) = elim (some_empty cells) [ inl h ↦ inl (suc h.0, h.1) | inr h ↦ inr (none_here k cells h) ]
  where
    none_here : (k : Kind) (cells : Row) → ((i : ℕ) → slice_get cells i ≢ Some None) → (i : ℕ) → slice_get (Some k ∷ cells) i ≢ Some None
    none_here k cells h zero e = cc
    none_here k cells h (suc i) e = h i e

-- a completion of a row with cells has a verdict
completion_verdict : (rule : RuleValue) (cells : Row) (kinds : List Kind) → cells ≢ [] → Fills (possible_kinds rule) cells kinds → (v : Kind) × (verdict_of rule kinds ≡ Some v)
completion_verdict rule [] kinds ne f = absurd (ne refl)
completion_verdict rule (c ∷ cells) [] ne f = absurd f
completion_verdict rule (c ∷ cells) (k ∷ kinds) ne f = first_some (prio_of rule) k kinds

-- in full mode the answer is pending where a cell is empty
pub full_pending : (rule : RuleValue) (cells : Row) → cells ≢ [] → (answer_of rule Full cells ≡ Pending) ↔ ((at : ℕ) × (slice_get cells at ≡ Some None))
full_pending rule cells ne = (empty, pending)
  where
    empty : answer_of rule Full cells ≡ Pending → (at : ℕ) × (slice_get cells at ≡ Some None)
    empty e = elim (some_empty cells) [
      | inl h ↦ h
      | inr none ↦
          let f = is_full (possible_kinds rule) cells none in
          let v = completion_verdict rule cells f.0 ne f.2 in
          let q : Pending ≡ Final (Tests v.0) = sym e ∙ answer_cells rule Full cells (has_cells cells ne) ∙ ap (λ o. answer_with (full_kind rule o)) f.1 ∙ ap answer_with v.1 in
          cc
    ]

    pending : (at : ℕ) × (slice_get cells at ≡ Some None) → answer_of rule Full cells ≡ Pending
    pending h = sym (pending_when_open rule cells h.0 (has_cells cells ne) h.1)
