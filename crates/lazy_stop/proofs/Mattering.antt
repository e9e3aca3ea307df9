-- The code's condition says whether an empty cell matters.
use Rattle.std.proofs.Common.{ℕ, ◌≡◌, ◌≢◌, ◌<◌, ◌≤◌, List, [], ◌∷◌, Option, Some, None, Bool, true, false, cond, ◌&&◌, ◌||◌, eqb, ltb, refl, sym, ap, ◌∙◌, inl, inr, arith, length, ◌⊎◌}
use Rattle.std.specs.List.{slice_get, Contains}
use Rattle.std.proofs.lemmas.Bool.{eqb-true, eqb-false, ltb-true, ltb-false}
use Rattle.std.proofs.lemmas.Option.{slice_get_within}
use Rattle.farm_kinds.specs.declared.kinds.Kind.{Kind}
use Rattle.farm_kinds.specs.RuleValue.{RuleValue}
use Rattle.farm_kinds.specs.Ranks.{first_greatest}
use Rattle.farm_kinds.specs.Rules.{prio_of, verdict_of, possible_kinds}
use Rattle.farm_model.specs.Rows.{Row}
use Rattle.lazy_stop.specs.Matters.{Fills}
use Rattle.lazy_stop.specs.RowFacts.{AllPossible, BestIs, IsRow}
use Rattle.lazy_stop.specs.ExtremeKinds.{Highest, Alone, RivalIs, IsExtremes}
use Rattle.lazy_stop.proofs.ClosedForms.{has_rival, passes_best, may_change_verdict}
use Rattle.lazy_stop.specs.declared.row.Best.{Best}
use Rattle.lazy_stop.specs.declared.extremes.Extremes.{Extremes}
use Rattle.lazy_stop.proofs.Firsts.{first_agree}
use Rattle.lazy_stop.proofs.Filling.{kept_at, filled_at}
use Rattle.lazy_stop.proofs.Deciding.{Turns, turns_above, turns_between, settled_alone, settled_single, below_top, possible_each}

pub and_true : (a b : Bool) → (a && b) ≡ true → (a ≡ true) × (b ≡ true)
and_true true b t = (refl, t)
and_true false b t = cc

pub and_false : (a b : Bool) → (a && b) ≡ false → (a ≡ false) ⊎ (b ≡ false)
and_false true b t = inr t
and_false false b t = inl refl

or_true : (a b : Bool) → (a || b) ≡ true → (a ≡ true) ⊎ (b ≡ true)
or_true true b t = inl refl
or_true false b t = inr t

pub or_false : (a b : Bool) → (a || b) ≡ false → (a ≡ false) × (b ≡ false)
or_false true b t = cc
or_false false b t = (refl, t)

rival_of : (rank : Kind → ℕ) (P : List Kind) (top : Kind) (o : Option Kind) → RivalIs rank P top o → has_rival o ≡ true → (t : Kind) × Contains P t × (rank t ≡ rank top) × (t ≢ top)
rival_of rank P top None h t = cc
rival_of rank P top (Some k) h t = (k, h.0, h.1, h.2)

pub alone_of : (rank : Kind → ℕ) (P : List Kind) (top : Kind) (o : Option Kind) → RivalIs rank P top o → has_rival o ≡ false → Alone rank P top
alone_of rank P top None h t = h
alone_of rank P top (Some k) h t = cc

-- a cell that may turn the verdict turns it
turns_level : (rule : RuleValue) (extremes : Extremes) (cells : Row) (u : ℕ) → IsExtremes rule extremes → AllPossible (possible_kinds rule) cells → slice_get cells u ≡ Some None → (eqb u 0 && has_rival extremes.rival) ≡ true → Turns (verdict_of rule) (possible_kinds rule) cells u
turns_level rule extremes cells u extremes_is all e t =
    let parts = and_true (eqb u 0) (has_rival extremes.rival) t in
    let first : u ≡ 0 = eqb-true _ _ parts.0 in
    let r = rival_of (prio_of rule) (possible_kinds rule) extremes.greatest extremes.rival extremes_is.rival parts.1 in
    turns_between (prio_of rule) (possible_kinds rule) extremes.greatest extremes.greatest r.0 u cells extremes_is.highest all extremes_is.greatest_possible extremes_is.greatest_possible r.1 r.2 r.3 e
    (λ i x l k. absurd (omega arith)) (λ i l k. absurd (omega arith))

turns_past : (rule : RuleValue) (extremes : Extremes) (best : Option Best) (cells : Row) (u : ℕ) → IsExtremes rule extremes → AllPossible (possible_kinds rule) cells → BestIs rule cells best → prio_of rule extremes.least < prio_of rule extremes.greatest → slice_get cells u ≡ Some None → passes_best rule extremes best u ≡ true → Turns (verdict_of rule) (possible_kinds rule) cells u
turns_past rule extremes None cells u extremes_is all b lower e t =
    turns_above (prio_of rule) (possible_kinds rule) extremes.greatest extremes.least u cells extremes_is.highest all extremes_is.least_possible extremes_is.greatest_possible lower e (λ i x k. absurd (b i x k))
turns_past rule extremes (Some best) cells u extremes_is all b lower e t =
    elim (or_true (ltb (prio_of rule best.kind) (prio_of rule extremes.greatest)) (ltb u best.at && has_rival extremes.rival) t) [
      | inl h ↦
          let under : prio_of rule best.kind < prio_of rule extremes.greatest = ltb-true _ _ h in
          turns_above (prio_of rule) (possible_kinds rule) extremes.greatest extremes.least u cells extremes_is.highest all extremes_is.least_possible extremes_is.greatest_possible lower e
          (λ i x k. let q : prio_of rule x ≤ prio_of rule best.kind = b.others i x k in omega arith)
      | inr h ↦
          let parts = and_true (ltb u best.at) (has_rival extremes.rival) h in
          let before : u < best.at = ltb-true _ _ parts.0 in
          let r = rival_of (prio_of rule) (possible_kinds rule) extremes.greatest extremes.rival extremes_is.rival parts.1 in
          let at_most : prio_of rule best.kind ≤ prio_of rule extremes.greatest = extremes_is.highest best.kind (all best.at best.kind b.here) in
          turns_between (prio_of rule) (possible_kinds rule) extremes.greatest extremes.least r.0 u cells extremes_is.highest all extremes_is.least_possible extremes_is.greatest_possible r.1 r.2 r.3 e
          (λ i x l k. let q : prio_of rule x < prio_of rule best.kind = b.earlier i x (omega arith) k in omega arith)
          (λ i l k. lower)
    ]

pub turns_when : (rule : RuleValue) (extremes : Extremes) (best : Option Best) (first_empty : ℕ) (cells : Row) (u : ℕ) → IsRow rule extremes best first_empty cells → slice_get cells u ≡ Some None → may_change_verdict rule extremes best u ≡ true → Turns (verdict_of rule) (possible_kinds rule) cells u
turns_when rule extremes best first_empty cells u row e t =
    elim (eqb (prio_of rule extremes.least) (prio_of rule extremes.greatest)) as (λ b. eqb (prio_of rule extremes.least) (prio_of rule extremes.greatest) ≡ b → cond b (eqb u 0 && has_rival extremes.rival) (passes_best rule extremes best u) ≡ true → Turns (verdict_of rule) (possible_kinds rule) cells u) [
      | true ↦ λ h k. turns_level rule extremes cells u row.extremes_is row.possible e k
      | false ↦ λ h k.
          let ne : prio_of rule extremes.least ≢ prio_of rule extremes.greatest = eqb-false _ _ h in
          let le : prio_of rule extremes.least ≤ prio_of rule extremes.greatest = row.extremes_is.highest extremes.least row.extremes_is.least_possible in
          turns_past rule extremes best cells u row.extremes_is row.possible row.best_is (omega arith) e k
    ] refl t

-- where every filling has the same value, no cell turns it
pub settled_calm : {X Y : Type 0} (value : List X → Y) (P : List X) (cs : List (Option X)) (u : ℕ) (v : Y) → ((ys : List X) → Fills P cs ys → value ys ≡ v) → Turns value P cs u → ⊥
settled_calm value P cs u v all t = t.differ (all t.one t.one_fills ∙ sym (all t.other t.other_fills))

-- a cell behind an item of the greatest number that stands in both fillings
calm_behind : {X : Type 0} (rank : X → ℕ) (P : List X) (top : X) (cs : List (Option X)) (u at : ℕ) → Highest rank P top → AllPossible P cs → at < u → (t : Turns (first_greatest rank) P cs u) → (x : X) → slice_get t.one at ≡ Some x → rank x ≡ rank top → ⊥
calm_behind rank P top cs u at high all l t x e r =
    t.differ (first_agree rank (rank top) t.one t.other at x (λ i k. t.alone i (omega arith)) e r
    (below_top rank P top cs t.one high all t.one_fills) (below_top rank P top cs t.other high all t.other_fills))

head_of : {X : Type 0} (xs : List X) (n : ℕ) (y : X) → slice_get xs n ≡ Some y → (x : X) × (slice_get xs 0 ≡ Some x)
head_of [] n y e = cc
head_of (x ∷ xs) n y e = (x, refl)

calm_level : (rule : RuleValue) (extremes : Extremes) (cells : Row) (u : ℕ) → IsExtremes rule extremes → AllPossible (possible_kinds rule) cells → prio_of rule extremes.least ≡ prio_of rule extremes.greatest → slice_get cells u ≡ Some None → (eqb u 0 && has_rival extremes.rival) ≡ false → Turns (verdict_of rule) (possible_kinds rule) cells u → ⊥
calm_level rule extremes cells u extremes_is all level e t turns = elim (and_false (eqb u 0) (has_rival extremes.rival) t) [
  | inl h ↦
      let ne : u ≢ 0 = eqb-false _ _ h in
      let f = filled_at (possible_kinds rule) cells turns.one u turns.one_fills e in
      let x = head_of turns.one u f.0 f.1 in
      let p : Contains (possible_kinds rule) x.0 = possible_each (possible_kinds rule) cells turns.one all turns.one_fills 0 x.0 x.1 in
      let a : prio_of rule x.0 ≤ prio_of rule extremes.greatest = extremes_is.highest x.0 p in
      let b : prio_of rule extremes.least ≤ prio_of rule x.0 = extremes_is.lowest x.0 p in
      calm_behind (prio_of rule) (possible_kinds rule) extremes.greatest cells u 0 extremes_is.highest all (omega arith) turns x.0 x.1 (omega arith)
  | inr h ↦
      let some : u < length cells = slice_get_within cells u None e in
      settled_calm (verdict_of rule) (possible_kinds rule) cells u (Some extremes.greatest)
      (settled_single (prio_of rule) (possible_kinds rule) extremes.greatest extremes.least cells extremes_is.highest extremes_is.lowest level (alone_of (prio_of rule) (possible_kinds rule) extremes.greatest extremes.rival extremes_is.rival h) all (omega arith)) turns
]

calm_past : (rule : RuleValue) (extremes : Extremes) (best : Option Best) (cells : Row) (u : ℕ) → IsExtremes rule extremes → AllPossible (possible_kinds rule) cells → BestIs rule cells best → slice_get cells u ≡ Some None → passes_best rule extremes best u ≡ false → Turns (verdict_of rule) (possible_kinds rule) cells u → ⊥
calm_past rule extremes None cells u extremes_is all b e t turns = cc
calm_past rule extremes (Some best) cells u extremes_is all b e t turns =
    let parts = or_false (ltb (prio_of rule best.kind) (prio_of rule extremes.greatest)) (ltb u best.at && has_rival extremes.rival) t in
    let low : prio_of rule extremes.greatest ≤ prio_of rule best.kind = ltb-false _ _ parts.0 in
    let high : prio_of rule best.kind ≤ prio_of rule extremes.greatest = extremes_is.highest best.kind (all best.at best.kind b.here) in
    elim (and_false (ltb u best.at) (has_rival extremes.rival) parts.1) [
      | inl h ↦
          let behind : best.at ≤ u = ltb-false _ _ h in
          let ne : best.at ≢ u = (λ q. let k : slice_get cells u ≡ Some (Some best.kind) = ap (slice_get cells) (sym q) ∙ b.here in none_kept cells u best.kind e k) in
          calm_behind (prio_of rule) (possible_kinds rule) extremes.greatest cells u best.at extremes_is.highest all (omega arith) turns best.kind
          (kept_at (possible_kinds rule) cells turns.one best.at best.kind turns.one_fills b.here) (omega arith)
      | inr h ↦ settled_calm (verdict_of rule) (possible_kinds rule) cells u (Some extremes.greatest)
          (settled_alone (prio_of rule) (possible_kinds rule) extremes.greatest cells best.at extremes_is.highest (alone_of (prio_of rule) (possible_kinds rule) extremes.greatest extremes.rival extremes_is.rival h) all best.kind b.here (omega arith)) turns
    ]
  where
    none_kept : (cells : Row) (u : ℕ) (k : Kind) → slice_get cells u ≡ Some None → slice_get cells u ≡ Some (Some k) → ⊥
    none_kept cells u k a b = cc

-- and a cell that may not turn it does not
pub calm_when : (rule : RuleValue) (extremes : Extremes) (best : Option Best) (first_empty : ℕ) (cells : Row) (u : ℕ) → IsRow rule extremes best first_empty cells → slice_get cells u ≡ Some None → may_change_verdict rule extremes best u ≡ false → Turns (verdict_of rule) (possible_kinds rule) cells u → ⊥
calm_when rule extremes best first_empty cells u row e t =
    elim (eqb (prio_of rule extremes.least) (prio_of rule extremes.greatest)) as (λ b. eqb (prio_of rule extremes.least) (prio_of rule extremes.greatest) ≡ b → cond b (eqb u 0 && has_rival extremes.rival) (passes_best rule extremes best u) ≡ false → Turns (verdict_of rule) (possible_kinds rule) cells u → ⊥) [
      | true ↦ λ h k. calm_level rule extremes cells u row.extremes_is row.possible (eqb-true _ _ h) e k
      | false ↦ λ h k. calm_past rule extremes best cells u row.extremes_is row.possible row.best_is e k
    ] refl t
