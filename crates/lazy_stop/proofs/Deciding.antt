-- The condition under which a verdict is settled, and under which a cell matters.
use Rattle.std.proofs.Common.{ℕ, ◌≡◌, ◌≢◌, ◌<◌, ◌≤◌, List, [], ◌∷◌, Option, Some, None, refl, sym, ap, ◌∙◌, inl, inr, arith, length, set}
use Rattle.std.proofs.Common.{true, false, eqb}
use Rattle.std.proofs.lemmas.Bool.{eqb-true, eqb-false}
use Rattle.std.specs.List.{slice_get, Contains}
use Rattle.farm_kinds.specs.Ranks.{first_greatest}
use Rattle.lazy_stop.specs.Matters.{Fills}
use Rattle.lazy_stop.specs.RowFacts.{AllPossible, IsBest}
use Rattle.lazy_stop.specs.ExtremeKinds.{Highest, Lowest, Alone}
use Rattle.lazy_stop.proofs.Firsts.{Each, first_at, first_only, first_in}
use Rattle.lazy_stop.proofs.Filling.{kept_at, filled_at, from_cell, filled_by, Fills-filled_by, filled_by-kept, Fills-set, get-set_same, get-set_other, length_fills}

-- each item of a filled row is possible
pub possible_each : {X : Type 0} (P : List X) (cs : List (Option X)) (ys : List X) → AllPossible P cs → Fills P cs ys → Each (Contains P) ys
possible_each P cs ys all f i y e = elim (from_cell P cs ys i y f e) [ inl h ↦ all i y h | inr h ↦ h.1 ]

pub below_top : {X : Type 0} (rank : X → ℕ) (P : List X) (top : X) (cs : List (Option X)) (ys : List X) → Highest rank P top → AllPossible P cs → Fills P cs ys → Each (λ y. rank y ≤ rank top) ys
below_top rank P top cs ys high all f i y e = high y (possible_each P cs ys all f i y e)

-- the best is of the greatest possible number, and each cell before it is filled
pub settled_by_place : {X : Type 0} (rank : X → ℕ) (P : List X) (top : X) (cs : List (Option X)) (kind : X) (at : ℕ) → Highest rank P top → AllPossible P cs → IsBest rank cs kind at → rank kind ≡ rank top → ((i : ℕ) → i < at → slice_get cs i ≢ Some None) → (ys : List X) → Fills P cs ys → first_greatest rank ys ≡ Some kind
settled_by_place rank P top cs kind at high all best r full ys f =
    first_at rank ys at kind (kept_at P cs ys at kind f best.here)
    (λ i y l e. elim (from_cell P cs ys i y f e) [ inl h ↦ best.earlier i y l h | inr h ↦ absurd (full i l h.0) ])
    (λ i y e. let k : rank y ≤ rank top = below_top rank P top cs ys high all f i y e in omega arith)

-- each cell is filled
pub settled_by_full : {X : Type 0} (rank : X → ℕ) (P : List X) (cs : List (Option X)) (kind : X) (at : ℕ) → IsBest rank cs kind at → ((i : ℕ) → slice_get cs i ≢ Some None) → (ys : List X) → Fills P cs ys → first_greatest rank ys ≡ Some kind
settled_by_full rank P cs kind at best full ys f =
    first_at rank ys at kind (kept_at P cs ys at kind f best.here)
    (λ i y l e. elim (from_cell P cs ys i y f e) [ inl h ↦ best.earlier i y l h | inr h ↦ absurd (full i h.0) ])
    (λ i y e. elim (from_cell P cs ys i y f e) [ inl h ↦ best.others i y h | inr h ↦ absurd (full i h.0) ])

-- an item of the greatest possible number stands, and only one possible item has it
pub settled_alone : {X : Type 0} (rank : X → ℕ) (P : List X) (top : X) (cs : List (Option X)) (at : ℕ) → Highest rank P top → Alone rank P top → AllPossible P cs → (kind : X) → slice_get cs at ≡ Some (Some kind) → rank kind ≡ rank top → (ys : List X) → Fills P cs ys → first_greatest rank ys ≡ Some top
settled_alone rank P top cs at high alone all kind here r ys f =
    first_only rank (rank top) ys at kind top (kept_at P cs ys at kind f here) r (below_top rank P top cs ys high all f)
    (λ i y e k. alone y (possible_each P cs ys all f i y e) k)

-- there is only one possible item
pub settled_single : {X : Type 0} (rank : X → ℕ) (P : List X) (top low : X) (cs : List (Option X)) → Highest rank P top → Lowest rank P low → rank low ≡ rank top → Alone rank P top → AllPossible P cs → 0 < length cs → (ys : List X) → Fills P cs ys → first_greatest rank ys ≡ Some top
settled_single rank P top low cs high lowest level alone all some [] f = let k : 0 ≡ length cs = length_fills P cs [] f in absurd (omega arith)
settled_single rank P top low cs high lowest level alone all some (y ∷ ys) f =
    let p : Contains P y = possible_each P cs (y ∷ ys) all f 0 y refl in
    let a : rank y ≤ rank top = high y p in
    let b : rank low ≤ rank y = lowest y p in
    first_only rank (rank top) (y ∷ ys) 0 y top refl (omega arith) (below_top rank P top cs (y ∷ ys) high all f)
    (λ i z e k. alone z (possible_each P cs (y ∷ ys) all f i z e) k)

-- two fillings that differ at the cell alone, with different values
pub record Turns {X Y : Type 0} (value : List X → Y) (P : List X) (cs : List (Option X)) (u : ℕ) : Type 0 where
  pub one : List X
  pub other : List X
  pub one_fills : Fills P cs one
  pub other_fills : Fills P cs other
  pub alone : (i : ℕ) → i ≢ u → slice_get one i ≡ slice_get other i
  pub differ : value one ≢ value other

-- the filling by w, but by t at the cell u
abbrev pub turned : {X : Type 0} → X → ℕ → X → List (Option X) → List X
turned w u t cs = set (filled_by w cs) u t

pub Fills-turned : {X : Type 0} (P : List X) (w t : X) (u : ℕ) (cs : List (Option X)) → Contains P w → Contains P t → slice_get cs u ≡ Some None → Fills P cs (turned w u t cs)
Fills-turned P w t u cs hw ht e = Fills-set P cs (filled_by w cs) u t (Fills-filled_by P w cs hw) e ht

pub turned_here : {X : Type 0} (P : List X) (w t : X) (u : ℕ) (cs : List (Option X)) → Contains P w → slice_get cs u ≡ Some None → slice_get (turned w u t cs) u ≡ Some t
turned_here P w t u cs hw e =
    let h = filled_at P cs (filled_by w cs) u (Fills-filled_by P w cs hw) e in
    get-set_same (filled_by w cs) u t h.0 h.1

-- the first of a filling whose cells before u are lower than t
turned_first : {X : Type 0} (rank : X → ℕ) (P : List X) (top w t : X) (u : ℕ) (cs : List (Option X)) → Highest rank P top → AllPossible P cs → Contains P w → Contains P t → rank t ≡ rank top → slice_get cs u ≡ Some None → ((i : ℕ) (x : X) → i < u → slice_get cs i ≡ Some (Some x) → rank x < rank top) → ((i : ℕ) → i < u → slice_get cs i ≡ Some None → rank w < rank top) → first_greatest rank (turned w u t cs) ≡ Some t
turned_first rank P top w t u cs high all hw ht r e filled empty =
    first_at rank (turned w u t cs) u t (turned_here P w t u cs hw e)
    (λ i y l k. let same : slice_get (filled_by w cs) i ≡ Some y = sym (get-set_other (filled_by w cs) u i t (omega arith)) ∙ k in
    elim (filled_by-kept w cs i y same) [
      | inl h ↦ let s : rank y < rank top = filled i y l h in omega arith
      | inr h ↦ let s : rank w < rank top = empty i l h.0 in let q : rank y ≡ rank w = ap rank h.1 in omega arith
    ])
    (λ i y k. let s : rank y ≤ rank top = below_top rank P top cs (turned w u t cs) high all (Fills-turned P w t u cs hw ht e) i y k in omega arith)

-- two items of the greatest possible number, and all before u lower
pub turns_between : {X : Type 0} (rank : X → ℕ) (P : List X) (top w t : X) (u : ℕ) (cs : List (Option X)) → Highest rank P top → AllPossible P cs → Contains P w → Contains P top → Contains P t → rank t ≡ rank top → t ≢ top → slice_get cs u ≡ Some None → ((i : ℕ) (x : X) → i < u → slice_get cs i ≡ Some (Some x) → rank x < rank top) → ((i : ℕ) → i < u → slice_get cs i ≡ Some None → rank w < rank top) → Turns (first_greatest rank) P cs u
turns_between rank P top w t u cs high all hw htop ht r ne e filled empty =
    let a : first_greatest rank (turned w u top cs) ≡ Some top = turned_first rank P top w top u cs high all hw htop refl e filled empty in
    let b : first_greatest rank (turned w u t cs) ≡ Some t = turned_first rank P top w t u cs high all hw ht r e filled empty in
    record {
      one = turned w u top cs;
      other = turned w u t cs;
      one_fills = Fills-turned P w top u cs hw htop e;
      other_fills = Fills-turned P w t u cs hw ht e;
      alone = λ i n. get-set_other (filled_by w cs) u i top n ∙ sym (get-set_other (filled_by w cs) u i t n);
      differ = λ same. let k : Some top ≡ Some t = sym a ∙ same ∙ b in let q : top ≡ t = cc in ne (sym q);
    }

-- where an item of the turned row comes from
turned_lower : {X : Type 0} (rank : X → ℕ) (P : List X) (top w : X) (u : ℕ) (cs : List (Option X)) → Contains P w → rank w < rank top → ((i : ℕ) (x : X) → slice_get cs i ≡ Some (Some x) → rank x < rank top) → slice_get cs u ≡ Some None → first_greatest rank (turned w u w cs) ≡ Some top → ⊥
turned_lower rank P top w u cs hw lower filled e same =
    let h = first_in rank (turned w u w cs) top same in
    elim (eqb h.0 u) as (λ t. eqb h.0 u ≡ t → ⊥) [
      | true ↦ λ t.
          let at : h.0 ≡ u = eqb-true _ _ t in
          let there : slice_get (turned w u w cs) u ≡ Some w = turned_here P w w u cs hw e in
          let k : slice_get (turned w u w cs) u ≡ Some top = ap (slice_get (turned w u w cs)) (sym at) ∙ h.1 in
          let q : Some w ≡ Some top = sym there ∙ k in
          let r : w ≡ top = cc in
          let z : rank w ≡ rank top = ap rank r in
          omega arith
      | false ↦ λ t.
          let ne : h.0 ≢ u = eqb-false _ _ t in
          elim (filled_by-kept w cs h.0 top (sym (get-set_other (filled_by w cs) u h.0 w ne) ∙ h.1)) [
            | inl k ↦ let z : rank top < rank top = filled h.0 top k in omega arith
            | inr k ↦ let z : rank top ≡ rank w = ap rank k.1 in omega arith
          ]
    ] refl

-- all filled cells are lower than the greatest possible number, and so is a possible item
pub turns_above : {X : Type 0} (rank : X → ℕ) (P : List X) (top w : X) (u : ℕ) (cs : List (Option X)) → Highest rank P top → AllPossible P cs → Contains P w → Contains P top → rank w < rank top → slice_get cs u ≡ Some None → ((i : ℕ) (x : X) → slice_get cs i ≡ Some (Some x) → rank x < rank top) → Turns (first_greatest rank) P cs u
turns_above rank P top w u cs high all hw htop lower e filled =
    let a : first_greatest rank (turned w u top cs) ≡ Some top = turned_first rank P top w top u cs high all hw htop refl e (λ i x l k. filled i x k) (λ i l k. lower) in
    record {
      one = turned w u top cs;
      other = turned w u w cs;
      one_fills = Fills-turned P w top u cs hw htop e;
      other_fills = Fills-turned P w w u cs hw hw e;
      alone = λ i n. get-set_other (filled_by w cs) u i top n ∙ sym (get-set_other (filled_by w cs) u i w n);
      differ = λ same. turned_lower rank P top w u cs hw lower filled e (sym same ∙ a);
    }
