-- The steps of the loops over the possible kinds.
use Rattle.std.proofs.Common.{ℕ, ◌≡◌, ◌≢◌, ◌<◌, ◌≤◌, ◌+◌, List, Some, true, false, eqb, refl, sym, ap, ◌∙◌, subst, inl, inr, arith, length, ◌⊎◌, get_or}
use Rattle.std.specs.List.{slice_get, Contains}
use Rattle.std.proofs.lemmas.Bool.{eqb-true, eqb-false}
use Rattle.std.proofs.lemmas.Option.{slice_get-get_or}
use Rattle.std.proofs.lemmas.List.Elements.{Contains-get_or}
use Rattle.lazy_stop.specs.ExtremeKinds.{Highest, Lowest}
use Rattle.lazy_stop.proofs.Firsts.{EachBelow}

-- one place more
pub EachBelow-more : {X : Type 0} (P : X → Type 0) (xs : List X) (n : ℕ) (d : X) → n < length xs → EachBelow P n xs → P (get_or xs n d) → EachBelow P (n + 1) xs
EachBelow-more P xs n d l h p i x k e = elim (eqb i n) as (λ t. eqb i n ≡ t → P x) [
  | true ↦ λ t.
      let at : i ≡ n = eqb-true _ _ t in
      let here : slice_get xs n ≡ Some (get_or xs n d) = slice_get-get_or xs n d l in
      let q : Some (get_or xs n d) ≡ Some x = sym here ∙ ap (slice_get xs) (sym at) ∙ e in
      let s : get_or xs n d ≡ x = cc in
      subst P s p
  | false ↦ λ t. let ne : i ≢ n = eqb-false _ _ t in h i x (omega arith) e
] refl

pub EachBelow-weaker : {X : Type 0} (P Q : X → Type 0) (n : ℕ) (xs : List X) → ((x : X) → P x → Q x) → EachBelow P n xs → EachBelow Q n xs
EachBelow-weaker P Q n xs f h i x l e = f x (h i x l e)

pub contained_each : {X : Type 0} (P : X → Type 0) (xs : List X) (n : ℕ) → length xs ≤ n → EachBelow P n xs → (x : X) → Contains xs x → P x
contained_each P xs n l h x c = let k : c.0 < length xs = c.1 in h c.0 x (omega arith) (slice_get-get_or xs c.0 x c.1 ∙ ap Some c.2)

-- a highest item so far
pub record GreatestBelow {X : Type 0} (rank : X → ℕ) (xs : List X) (n : ℕ) (top : X) : Type 0 where
  pub one : Contains xs top
  pub above : EachBelow (λ x. rank x ≤ rank top) n xs

-- a lowest item so far
pub record LeastBelow {X : Type 0} (rank : X → ℕ) (xs : List X) (n : ℕ) (low : X) : Type 0 where
  pub one : Contains xs low
  pub below : EachBelow (λ x. rank low ≤ rank x) n xs

pub greatest_start : {X : Type 0} (rank : X → ℕ) (xs : List X) (top : X) → Contains xs top → GreatestBelow rank xs 0 top
greatest_start rank xs top c = record { one = c; above = λ i x l e. absurd (omega arith) }

pub least_start : {X : Type 0} (rank : X → ℕ) (xs : List X) (low : X) → Contains xs low → LeastBelow rank xs 0 low
least_start rank xs low c = record { one = c; below = λ i x l e. absurd (omega arith) }

pub greatest_more : {X : Type 0} (rank : X → ℕ) (xs : List X) (n : ℕ) (top d new : X) → n < length xs → GreatestBelow rank xs n top → (new ≡ top) ⊎ (new ≡ get_or xs n d) → rank top ≤ rank new → rank (get_or xs n d) ≤ rank new → GreatestBelow rank xs (n + 1) new
greatest_more {X} rank xs n top d new l h either one other = record {
  one = elim either [ inl e ↦ subst (Contains xs) (sym e) h.one | inr e ↦ subst (Contains xs) (sym e) (Contains-get_or xs n d l) ];
  above = EachBelow-more (λ x. rank x ≤ rank new) xs n d l (EachBelow-weaker (λ x. rank x ≤ rank top) (λ x. rank x ≤ rank new) n xs (λ x k. omega arith) h.above) other;
}

pub least_more : {X : Type 0} (rank : X → ℕ) (xs : List X) (n : ℕ) (low d new : X) → n < length xs → LeastBelow rank xs n low → (new ≡ low) ⊎ (new ≡ get_or xs n d) → rank new ≤ rank low → rank new ≤ rank (get_or xs n d) → LeastBelow rank xs (n + 1) new
least_more {X} rank xs n low d new l h either one other = record {
  one = elim either [ inl e ↦ subst (Contains xs) (sym e) h.one | inr e ↦ subst (Contains xs) (sym e) (Contains-get_or xs n d l) ];
  below = EachBelow-more (λ x. rank new ≤ rank x) xs n d l (EachBelow-weaker (λ x. rank low ≤ rank x) (λ x. rank new ≤ rank x) n xs (λ x k. omega arith) h.below) other;
}

pub greatest_all : {X : Type 0} (rank : X → ℕ) (xs : List X) (n : ℕ) (top : X) → length xs ≤ n → GreatestBelow rank xs n top → Highest rank xs top
greatest_all rank xs n top l h = contained_each (λ x. rank x ≤ rank top) xs n l h.above

pub least_all : {X : Type 0} (rank : X → ℕ) (xs : List X) (n : ℕ) (low : X) → length xs ≤ n → LeastBelow rank xs n low → Lowest rank xs low
least_all rank xs n low l h = contained_each (λ x. rank low ≤ rank x) xs n l h.below
