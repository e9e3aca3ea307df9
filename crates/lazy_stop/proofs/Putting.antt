-- A row with one more cell filled.
use Rattle.std.proofs.Common.{ℕ, ◌≡◌, ◌≢◌, ◌<◌, ◌≤◌, List, Option, Some, None, Bool, true, false, cond, ◌&&◌, ◌||◌, eqb, ltb, refl, sym, ap, ◌∙◌, subst, inl, inr, arith, ◌⊎◌, set, replicate, suc, zero, length}
use Rattle.std.specs.List.{slice_get, Contains}
use Rattle.std.proofs.lemmas.Bool.{eqb-true, eqb-false, ltb-true, ltb-false}
use Rattle.farm_kinds.specs.declared.kinds.Kind.{Kind}
use Rattle.farm_kinds.specs.RuleValue.{RuleValue}
use Rattle.farm_kinds.specs.Rules.{prio_of, possible_kinds}
use Rattle.farm_model.specs.Rows.{Row}
use Rattle.lazy_stop.specs.ExtremeKinds.{IsExtremes}
use Rattle.lazy_stop.specs.RowFacts.{AllPossible, IsBest, BestIs, IsFirstEmpty, IsRow}
use Rattle.lazy_stop.proofs.ClosedForms.{is_better, best_with}
use Rattle.lazy_stop.specs.declared.row.Best.{Best}
use Rattle.lazy_stop.specs.declared.extremes.Extremes.{Extremes}
use Rattle.lazy_stop.proofs.Filling.{get-set_same, get-set_other}
use Rattle.lazy_stop.proofs.Mattering.{or_false, and_false, and_true}

-- a cell of the row after the write: the new one, or one from before
pub after_put : {X : Type 0} (cs : List (Option X)) (u : ℕ) (t : X) (i : ℕ) (c : Option X) → slice_get cs u ≡ Some None → slice_get (set cs u (Some t)) i ≡ Some c → ((i ≡ u) × (c ≡ Some t)) ⊎ ((i ≢ u) × (slice_get cs i ≡ Some c))
after_put cs u t i c e h = elim (eqb i u) as (λ b. eqb i u ≡ b → ((i ≡ u) × (c ≡ Some t)) ⊎ ((i ≢ u) × (slice_get cs i ≡ Some c))) [
  | true ↦ λ b.
      let at : i ≡ u = eqb-true _ _ b in
      let here : slice_get (set cs u (Some t)) u ≡ Some (Some t) = get-set_same cs u (Some t) None e in
      let there : slice_get (set cs u (Some t)) u ≡ Some c = ap (slice_get (set cs u (Some t))) (sym at) ∙ h in
      let q : Some c ≡ Some (Some t) = sym there ∙ here in
      inl (at, cc)
  | false ↦ λ b. let ne : i ≢ u = eqb-false _ _ b in inr (ne, sym (get-set_other cs u i (Some t) ne) ∙ h)
] refl

-- a filled cell of the row after the write
pub filled_after : {X : Type 0} (cs : List (Option X)) (u : ℕ) (t : X) (i : ℕ) (x : X) → slice_get cs u ≡ Some None → slice_get (set cs u (Some t)) i ≡ Some (Some x) → ((i ≡ u) × (x ≡ t)) ⊎ (slice_get cs i ≡ Some (Some x))
filled_after cs u t i x e h = elim (after_put cs u t i (Some x) e h) [
  | inl k ↦ let q : Some x ≡ Some t = k.1 in inl (k.0, cc)
  | inr k ↦ inr k.1
]

-- what isn't empty stays so
pub still_filled : {X : Type 0} (cs : List (Option X)) (u : ℕ) (t : X) (n : ℕ) → slice_get cs u ≡ Some None → ((i : ℕ) → i < n → slice_get cs i ≢ Some None) → (i : ℕ) → i < n → slice_get (set cs u (Some t)) i ≢ Some None
still_filled cs u t n e h i l k = elim (after_put cs u t i None e k) [
  | inl q ↦ cc
  | inr q ↦ h i l q.1
]

possible_put : {X : Type 0} (P : List X) (cs : List (Option X)) (u : ℕ) (t : X) → slice_get cs u ≡ Some None → Contains P t → AllPossible P cs → AllPossible P (set cs u (Some t))
possible_put P cs u t e p all i x k = elim (filled_after cs u t i x e k) [
  | inl q ↦ subst (Contains P) (sym q.1) p
  | inr q ↦ all i x q
]

-- the new cell is the best
best_new : {X : Type 0} (rank : X → ℕ) (cs : List (Option X)) (u : ℕ) (t : X) → slice_get cs u ≡ Some None → ((i : ℕ) (x : X) → i < u → slice_get cs i ≡ Some (Some x) → rank x < rank t) → ((i : ℕ) (x : X) → slice_get cs i ≡ Some (Some x) → rank x ≤ rank t) → IsBest rank (set cs u (Some t)) t u
best_new {X} rank cs u t e before all = record {
  here = get-set_same cs u (Some t) None e;
  earlier = λ i x l k. elim (filled_after cs u t i x e k) [
    | inl q ↦ let at : i ≡ u = q.0 in absurd (omega arith)
    | inr q ↦ before i x l q
  ];
  others = λ i x k. elim (filled_after cs u t i x e k) [
    | inl q ↦ let s : rank x ≡ rank t = ap rank q.1 in omega arith
    | inr q ↦ all i x q
  ];
}

-- the best from before stays
best_old : {X : Type 0} (rank : X → ℕ) (cs : List (Option X)) (u : ℕ) (t kind : X) (at : ℕ) → slice_get cs u ≡ Some None → IsBest rank cs kind at → rank t ≤ rank kind → (rank t ≡ rank kind → at ≤ u) → IsBest rank (set cs u (Some t)) kind at
best_old {X} rank cs u t kind at e b lower later =
    let ne : at ≢ u = (λ q. let k : slice_get cs u ≡ Some (Some kind) = ap (slice_get cs) (sym q) ∙ b.here in let z : Some (Some kind) ≡ Some None = sym k ∙ e in cc) in
    record {
      here = get-set_other cs u at (Some t) ne ∙ b.here;
      earlier = λ i x l k. elim (filled_after cs u t i x e k) [
        | inl q ↦ let s : rank x ≡ rank t = ap rank q.1 in let p : i ≡ u = q.0 in let w : rank t ≡ rank kind → ⊥ = (λ z. let y : at ≤ u = later z in omega arith) in omega arith
        | inr q ↦ b.earlier i x l q
      ];
      others = λ i x k. elim (filled_after cs u t i x e k) [
        | inl q ↦ let s : rank x ≡ rank t = ap rank q.1 in omega arith
        | inr q ↦ b.others i x q
      ];
    }

best_put : (rule : RuleValue) (cells : Row) (best : Option Best) (kind : Kind) (at : ℕ) → slice_get cells at ≡ Some None → BestIs rule cells best → BestIs rule (set cells at (Some kind)) (Some (best_with rule best kind at))
best_put rule cells None kind at e none = best_new (prio_of rule) cells at kind e (λ i x l k. absurd (none i x k)) (λ i x k. absurd (none i x k))
best_put rule cells (Some best) kind at e b =
    elim (is_better rule kind at best) as (λ t. is_better rule kind at best ≡ t → BestIs rule (set cells at (Some kind)) (Some (cond t (record { kind = kind; at = at }) best))) [
      | true ↦ λ t. elim (or_either (ltb (prio_of rule best.kind) (prio_of rule kind)) (eqb (prio_of rule best.kind) (prio_of rule kind) && ltb at best.at) t) [
        | inl h ↦
            let above : prio_of rule best.kind < prio_of rule kind = ltb-true _ _ h in
            best_new (prio_of rule) cells at kind e (λ i x l k. let q : prio_of rule x ≤ prio_of rule best.kind = b.others i x k in omega arith) (λ i x k. let q : prio_of rule x ≤ prio_of rule best.kind = b.others i x k in omega arith)
        | inr h ↦
            let parts = and_true (eqb (prio_of rule best.kind) (prio_of rule kind)) (ltb at best.at) h in
            let same : prio_of rule best.kind ≡ prio_of rule kind = eqb-true _ _ parts.0 in
            let before : at < best.at = ltb-true _ _ parts.1 in
            best_new (prio_of rule) cells at kind e (λ i x l k. let q : prio_of rule x < prio_of rule best.kind = b.earlier i x (omega arith) k in omega arith) (λ i x k. let q : prio_of rule x ≤ prio_of rule best.kind = b.others i x k in omega arith)
      ]
      | false ↦ λ t.
          let parts = or_false (ltb (prio_of rule best.kind) (prio_of rule kind)) (eqb (prio_of rule best.kind) (prio_of rule kind) && ltb at best.at) t in
          let lower : prio_of rule kind ≤ prio_of rule best.kind = ltb-false _ _ parts.0 in
          best_old (prio_of rule) cells at kind best.kind best.at e b lower
          (λ same. elim (and_false (eqb (prio_of rule best.kind) (prio_of rule kind)) (ltb at best.at) parts.1) [
            | inl h ↦ let ne : prio_of rule best.kind ≢ prio_of rule kind = eqb-false _ _ h in absurd (ne (sym same))
            | inr h ↦ ltb-false _ _ h
          ])
    ] refl
  where
    or_either : (a b : Bool) → (a || b) ≡ true → (a ≡ true) ⊎ (b ≡ true)
    or_either true b t = inl refl
    or_either false b t = inr t

-- the best cell that the code has, after a write into an empty cell
pub best_put_is : (rule : RuleValue) (best : Option Best) (kind : Kind) (at : ℕ) (new : Best) → new ≡ best_with rule best kind at → (cells : Row) → slice_get cells at ≡ Some None → BestIs rule cells best → BestIs rule (set cells at (Some kind)) (Some new)
best_put_is rule best kind at new is cells e b = subst (λ (n : Best). BestIs rule (set cells at (Some kind)) (Some n)) (sym is) (best_put rule cells best kind at e b)

-- a row of empty cells
abbrev empty_row : ℕ → Row
empty_row n = replicate n None

empty_at : (n i : ℕ) (kind : Kind) → slice_get (empty_row n) i ≡ Some (Some kind) → ⊥
empty_at zero i kind e = cc
empty_at (suc n) zero kind e = cc
empty_at (suc n) (suc i) kind e = empty_at n i kind e

first_of_empty : (n : ℕ) → 0 < length (empty_row n) → slice_get (empty_row n) 0 ≡ Some None
first_of_empty zero l = absurd (omega arith)
first_of_empty (suc n) l = refl

-- the row's facts, while no cell is filled
pub row_empty : (rule : RuleValue) (extremes : Extremes) (n : ℕ) (cells : Row) → IsExtremes rule extremes → cells ≡ replicate n None → IsRow rule extremes None 0 cells
row_empty rule extremes n cells known is = subst (IsRow rule extremes None 0) (sym is) (record {
  extremes_is = known;
  possible = λ i x e. absurd (empty_at n i x e);
  best_is = λ i kind e. empty_at n i kind e;
  empty_is = record {
    within = omega arith;
    filled = λ i l e. omega arith;
    empty = λ l. first_of_empty n l;
  };
})

-- the row's facts, after a write into an empty cell
pub row_put : (rule : RuleValue) (extremes : Extremes) (best : Option Best) (first_empty later : ℕ) (cells : Row) (at : ℕ) (kind : Kind) (new : Best) → IsRow rule extremes best first_empty cells → slice_get cells at ≡ Some None → Contains (possible_kinds rule) kind → BestIs rule (set cells at (Some kind)) (Some new) → IsFirstEmpty (set cells at (Some kind)) later → IsRow rule extremes (Some new) later (set cells at (Some kind))
row_put rule extremes best first_empty later cells at kind new row e p better empty = record {
  extremes_is = row.extremes_is;
  possible = possible_put (possible_kinds rule) cells at kind e p row.possible;
  best_is = better;
  empty_is = empty;
}
