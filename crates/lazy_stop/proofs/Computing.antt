-- The computed test whether a cell matters.
use Rattle.std.proofs.Common.{ℕ, suc, zero, ◌+◌, ◌-◌, ◌≡◌, ◌≢◌, ◌↔◌, ◌≤◌, Bool, IsTrue, List, [], ◌∷◌, Option, Some, None, true, false, refl, sym, ap, ◌∙◌, subst, arith, set}
use Rattle.std.specs.Prelude.{not}
use Rattle.std.specs.List.{slice_get}
use Rattle.std.proofs.lemmas.Bool.Decides.{nat_tests}
use Rattle.farm_kinds.specs.declared.kinds.Kind.{Kind}
use Rattle.farm_kinds.specs.RuleValue.{RuleValue}
use Rattle.farm_kinds.specs.Rules.{verdict_of, possible_kinds}
use Rattle.farm_model.specs.Numbered.{item_of}
use Rattle.farm_model.specs.Rows.{Row, completions_of, is_verdict, same_verdict, depends_on, matters_at, matters}
use Rattle.lazy_stop.specs.Matters.{Matters, SomeMatters}
use Rattle.lazy_stop.proofs.Filling.{filled_at, Fills-set, get-set_other}
use Rattle.lazy_stop.proofs.Listing.{listed, fills_listed, list_any-one, list_any-some}
use Rattle.lazy_stop.proofs.Answering.{verdict_is, is_verdict-same}

-- Verdicts

not_same : (a b : Option Kind) → not (same_verdict a b) ≡ true → a ≢ b
not_same None None t e = cc
not_same None (Some b) t e = cc
not_same (Some a) b t e =
    let same : is_verdict a b ≡ true = ap (is_verdict a) (sym e) ∙ is_verdict-same a in
    let other : not true ≡ true = ap not (sym same) ∙ t in
    cc

same_not : (a b : Option Kind) → a ≢ b → not (same_verdict a b) ≡ true
same_not None None n = absurd (n refl)
same_not None (Some b) n = refl
same_not (Some a) b n = elim (is_verdict a b) as (λ t. is_verdict a b ≡ t → not t ≡ true) [
  | true ↦ λ t. absurd (n (sym (verdict_is a b t)))
  | false ↦ λ t. refl
] refl

-- Lists that differ at one place alone

same_items : {X : Type 0} (xs ys : List X) → ((i : ℕ) → slice_get xs i ≡ slice_get ys i) → xs ≡ ys
same_items [] [] h = refl
same_items [] (y ∷ ys) h = let e : None ≡ Some y = h 0 in cc
same_items (x ∷ xs) [] h = let e : Some x ≡ None = h 0 in cc
same_items (x ∷ xs) (y ∷ ys) h =
    let head : x ≡ y = (let e : Some x ≡ Some y = h 0 in cc) in
    ap (λ z. z ∷ xs) head ∙ ap (λ zs. y ∷ zs) (same_items xs ys (λ i. h (suc i)))

pub set_alone : {X : Type 0} (xs ys : List X) (u : ℕ) (x y : X) → slice_get xs u ≡ Some x → slice_get ys u ≡ Some y → ((i : ℕ) → i ≢ u → slice_get xs i ≡ slice_get ys i) → set xs u y ≡ ys
set_alone [] ys u x y a b h = cc
set_alone (z ∷ xs) [] u x y a b h = cc
set_alone (z ∷ xs) (w ∷ ys) zero x y a b h =
    let head : y ≡ w = cc in
    ap (λ v. v ∷ xs) head ∙ ap (λ vs. w ∷ vs) (same_items xs ys (λ i. h (suc i) (λ e. cc)))
set_alone (z ∷ xs) (w ∷ ys) (suc u) x y a b h =
    let head : z ≡ w = (let e : Some z ≡ Some w = h 0 (λ e. cc) in cc) in
    ap (λ v. v ∷ set xs u y) head ∙ ap (λ vs. w ∷ vs) (set_alone xs ys u x y a b (λ i n. h (suc i) (λ e. n (omega (arith, e)))))

-- Tests are counted from 1, and places from 0

item_next : (row : Row) (at : ℕ) → item_of row (at + 1) ≡ slice_get row at
item_next row at =
    let here : at + 1 - 1 ≡ at = omega arith in
    grind (arith, nat_tests, here)

matters_from : (rule : RuleValue) (row : Row) (at : ℕ) (o : Option (Option Kind)) → slice_get row at ≡ o → matters_at rule row (at + 1) o ≡ true → Matters rule row at
matters_from rule row at None e t = cc
matters_from rule row at (Some (Some k)) e t = cc
matters_from rule row at (Some None) e t =
    let one = list_any-one (λ kinds. depends_on rule kinds (at + 1)) (completions_of rule row) t in
    let kind = list_any-one (λ kind. not (same_verdict (verdict_of rule one.0) (verdict_of rule (set one.0 (at + 1 - 1) kind)))) (possible_kinds rule) one.2 in
    let here : at + 1 - 1 ≡ at = omega arith in
    record {
      empty = e;
      one = one.0;
      other = set one.0 at kind.0;
      one_completes = one.1;
      other_completes = listed rule row (set one.0 at kind.0) (Fills-set (possible_kinds rule) row one.0 at kind.0 (fills_listed rule row one.0 one.1) e kind.1);
      alone = λ i n. sym (get-set_other one.0 at i kind.0 n);
      differ = not_same (verdict_of rule one.0) (verdict_of rule (set one.0 at kind.0))
          (subst (λ (n : ℕ). not (same_verdict (verdict_of rule one.0) (verdict_of rule (set one.0 n kind.0))) ≡ true) here kind.2);
    }

matters_to : (rule : RuleValue) (row : Row) (at : ℕ) → Matters rule row at → matters_at rule row (at + 1) (Some None) ≡ true
matters_to rule row at m =
    let a = filled_at (possible_kinds rule) row m.one at (fills_listed rule row m.one m.one_completes) m.empty in
    let b = filled_at (possible_kinds rule) row m.other at (fills_listed rule row m.other m.other_completes) m.empty in
    let here : at ≡ at + 1 - 1 = omega arith in
    let other : set m.one (at + 1 - 1) b.0 ≡ m.other = ap (λ (n : ℕ). set m.one n b.0) (sym here) ∙ set_alone m.one m.other at a.0 b.0 a.1 b.1 m.alone in
    list_any-some (λ kinds. depends_on rule kinds (at + 1)) (completions_of rule row) m.one m.one_completes
    (list_any-some (λ kind. not (same_verdict (verdict_of rule m.one) (verdict_of rule (set m.one (at + 1 - 1) kind)))) (possible_kinds rule) b.0 b.2
    (ap (λ (ys : List Kind). not (same_verdict (verdict_of rule m.one) (verdict_of rule ys))) other ∙ same_not (verdict_of rule m.one) (verdict_of rule m.other) m.differ))

pub matters_computed : (rule : RuleValue) (row : Row) (at : ℕ) → (matters rule row (at + 1) ≡ true) ↔ Matters rule row at
matters_computed rule row at = (
  λ t. matters_from rule row at (slice_get row at) refl (ap (matters_at rule row (at + 1)) (sym (item_next row at)) ∙ t),
  λ m. ap (matters_at rule row (at + 1)) (item_next row at ∙ m.empty) ∙ matters_to rule row at m,
)

-- Two tests of one thing

same_test : {P : Type 0} (a b : Bool) → (a ≡ true) ↔ P → (b ≡ true) ↔ P → a ≡ b
same_test true b f g = sym (g.1 (f.0 refl))
same_test false true f g = f.1 (g.0 refl)
same_test false false f g = refl

pub matters_said : (rule : RuleValue) (row : Row) (test : ℕ) (answer : Bool) → 1 ≤ test → (answer ≡ true) ↔ Matters rule row (test - 1) → answer ≡ matters rule row test
matters_said rule row test answer low h =
    let place : test - 1 + 1 ≡ test = omega arith in
    same_test answer (matters rule row test) h (subst (λ (n : ℕ). (matters rule row n ≡ true) ↔ Matters rule row (test - 1)) place (matters_computed rule row (test - 1)))

test_matters : (rule : RuleValue) (row : Row) (test : ℕ) → IsTrue (matters rule row test) → SomeMatters rule row
test_matters rule row zero t = cc
test_matters rule row (suc at) t =
    let next : suc at ≡ at + 1 = omega arith in
    (at, (matters_computed rule row at).0 (subst (λ (n : ℕ). matters rule row n ≡ true) next t))

pub some_test : (rule : RuleValue) (row : Row) → SomeMatters rule row ↔ ((test : ℕ) × IsTrue (matters rule row test))
some_test rule row = (λ m. (m.0 + 1, (matters_computed rule row m.0).1 m.1), λ t. test_matters rule row t.0 t.1)
