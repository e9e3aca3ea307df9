-- The settled verdict by the list of completions, and the answer.
use Rattle.std.proofs.Common.{Bool, ◌↔◌, ℕ, suc, zero, ◌≡◌, ◌≢◌, ◌<◌, ◌≤◌, List, [], ◌∷◌, Option, Some, None, true, false, cond, ◌&&◌, eqb, ltb, refl, sym, ap, ◌∙◌, subst, inl, inr, arith, length, get_or, lit<}
use Rattle.std.specs.List.{slice_get, Contains}
use Rattle.std.proofs.lemmas.Bool.{eqb-true, eqb-false, ltb-false}
use Rattle.std.proofs.lemmas.Bool.Decides.{nat_tests}
use Rattle.std.proofs.lemmas.Option.{slice_get_within}
use Rattle.farm_kinds.specs.declared.kinds.Kind.{Kind}
use Rattle.farm_kinds.specs.declared.kinds.Kind.TheVariants.{Correct, WrongAnswer, RunError, TimeLimit, NoOutput, OutputLimit, MemoryLimit, JudgingError}
use Rattle.farm_kinds.specs.declared.outcomes.Verdict.TheVariants.{Tests}
use Rattle.farm_kinds.specs.declared.outcomes.Answer.TheVariants.{Final, Pending}
use Rattle.farm_kinds.specs.declared.outcomes.Mode.{Mode}
use Rattle.farm_kinds.specs.declared.outcomes.Mode.TheVariants.{Lazy, Full}
use Rattle.farm_kinds.specs.RuleValue.{RuleValue}
use Rattle.farm_kinds.specs.Kinds.{every_kind}
use Rattle.farm_kinds.specs.Rules.{prio_of, verdict_of, place_of, remap_of, possible_kinds}
use Rattle.farm_model.specs.Rows.{Row, completions_of, is_verdict, is_settled, settled_kind, kinds_of, full_kind, known_kind, answer_with, answer_of}
use Rattle.lazy_stop.specs.Matters.{IsPossible, Fills, Settled, IsCompletion, Matters}
use Rattle.lazy_stop.specs.RowFacts.{AllPossible, IsBest, BestIs, IsFirstEmpty, IsRow}
use Rattle.lazy_stop.specs.ExtremeKinds.{Alone, IsExtremes}
use Rattle.lazy_stop.proofs.ClosedForms.{has_rival, passes_best, may_change_verdict, deciding_kind}
use Rattle.lazy_stop.specs.declared.row.Best.{Best}
use Rattle.lazy_stop.specs.declared.extremes.Extremes.{Extremes}
use Rattle.lazy_stop.proofs.Filling.{Fills-filled_by, filled_by}
use Rattle.lazy_stop.proofs.Deciding.{Turns, settled_by_place, settled_by_full, settled_alone, settled_single}
use Rattle.lazy_stop.proofs.Listing.{listed, fills_listed, list_all-each, list_all-fails, find_unique, find_nothing}
use Rattle.lazy_stop.proofs.Mattering.{turns_when, calm_when, alone_of, and_false, or_false}

-- a kind is its place
kind_at : (k : Kind) → get_or every_kind (place_of k) Correct ≡ k
kind_at Correct = refl
kind_at WrongAnswer = refl
kind_at RunError = refl
kind_at TimeLimit = refl
kind_at NoOutput = refl
kind_at OutputLimit = refl
kind_at MemoryLimit = refl
kind_at JudgingError = refl

pub same_place : (a b : Kind) → place_of a ≡ place_of b → a ≡ b
same_place a b e = sym (kind_at a) ∙ ap (λ n. get_or every_kind n Correct) e ∙ kind_at b

pub every_contains : (k : Kind) → Contains every_kind k
every_contains Correct = (0, lit< tt, refl)
every_contains WrongAnswer = (1, lit< tt, refl)
every_contains RunError = (2, lit< tt, refl)
every_contains TimeLimit = (3, lit< tt, refl)
every_contains NoOutput = (4, lit< tt, refl)
every_contains OutputLimit = (5, lit< tt, refl)
every_contains MemoryLimit = (6, lit< tt, refl)
every_contains JudgingError = (7, lit< tt, refl)

-- what a kind counts as is possible
pub remap_possible : (rule : RuleValue) (kind : Kind) → Contains (possible_kinds rule) (remap_of rule kind)
remap_possible rule Correct = (0, lit< tt, refl)
remap_possible rule WrongAnswer = (1, lit< tt, refl)
remap_possible rule RunError = (2, lit< tt, refl)
remap_possible rule TimeLimit = (3, lit< tt, refl)
remap_possible rule NoOutput = (4, lit< tt, refl)
remap_possible rule OutputLimit = (5, lit< tt, refl)
remap_possible rule MemoryLimit = (6, lit< tt, refl)
remap_possible rule JudgingError = (7, lit< tt, refl)

pub possible_of : (rule : RuleValue) (kind : Kind) → IsPossible rule kind → Contains (possible_kinds rule) kind
unfolding IsPossible
possible_of rule kind p = p

pub remap_is_possible : (rule : RuleValue) (kind : Kind) → IsPossible rule (remap_of rule kind)
unfolding IsPossible
remap_is_possible rule kind = remap_possible rule kind

-- each rule has a possible kind
pub some_possible : (rule : RuleValue) → Contains (possible_kinds rule) (remap_of rule Correct)
some_possible rule = remap_possible rule Correct

pub verdict_is : (v : Kind) (o : Option Kind) → is_verdict v o ≡ true → o ≡ Some v
verdict_is v None t = cc
verdict_is v (Some k) t = ap Some (sym (same_place v k (eqb-true _ _ t)))

pub is_verdict-same : (v : Kind) → is_verdict v (Some v) ≡ true
is_verdict-same v = grind (arith, nat_tests)

-- the test over the list says that the verdict is settled
pub settled_if : (rule : RuleValue) (cells : Row) (v : Kind) → is_settled rule cells v ≡ true → Settled rule cells v
settled_if rule cells v t kinds f =
    verdict_is v (verdict_of rule kinds) (list_all-each (λ ks. is_verdict v (verdict_of rule ks)) (completions_of rule cells) kinds t (listed rule cells kinds f))

-- or there is a completion with another verdict
pub unsettled_if : (rule : RuleValue) (cells : Row) (v : Kind) → is_settled rule cells v ≡ false → (kinds : List Kind) × IsCompletion rule cells kinds × (verdict_of rule kinds ≢ Some v)
unsettled_if rule cells v t =
    let h = list_all-fails (λ ks. is_verdict v (verdict_of rule ks)) (completions_of rule cells) t in
    (h.0, fills_listed rule cells h.0 h.1, λ e. let k : is_verdict v (Some v) ≡ false = ap (is_verdict v) (sym e) ∙ h.2 in let q : is_verdict v (Some v) ≡ true = is_verdict-same v in cc)

pub settled_test : (rule : RuleValue) (cells : Row) (v : Kind) → Settled rule cells v → is_settled rule cells v ≡ true
settled_test rule cells v all = elim (is_settled rule cells v) as (λ t. is_settled rule cells v ≡ t → t ≡ true) [
  | true ↦ λ h. refl
  | false ↦ λ h. let u = unsettled_if rule cells v h in absurd (u.2 (all u.0 u.1))
] refl

-- no two verdicts are settled
pub settled_once : (rule : RuleValue) (cells : Row) (v w : Kind) → Settled rule cells v → Settled rule cells w → w ≡ v
settled_once rule cells v w a b =
    let f : Fills (possible_kinds rule) cells (filled_by (remap_of rule Correct) cells) = Fills-filled_by (possible_kinds rule) (remap_of rule Correct) cells (some_possible rule) in
    let x : verdict_of rule (filled_by (remap_of rule Correct) cells) ≡ Some v = a _ f in
    let y : verdict_of rule (filled_by (remap_of rule Correct) cells) ≡ Some w = b _ f in
    let q : Some w ≡ Some v = sym y ∙ x in
    cc

pub settled_kind_is : (rule : RuleValue) (cells : Row) (v : Kind) → Settled rule cells v → settled_kind rule cells ≡ Some v
settled_kind_is rule cells v all = find_unique (is_settled rule cells) every_kind v (every_contains v) (settled_test rule cells v all) (λ w t. settled_once rule cells v w all (settled_if rule cells w t))

pub settled_kind_none : (rule : RuleValue) (cells : Row) → ((v : Kind) → Settled rule cells v → ⊥) → settled_kind rule cells ≡ None
settled_kind_none rule cells none = find_nothing (is_settled rule cells) every_kind (λ w. elim (is_settled rule cells w) as (λ t. is_settled rule cells w ≡ t → t ≡ false) [ true ↦ λ h. absurd (none w (settled_if rule cells w h)) | false ↦ λ h. refl ] refl)

pub turns_unsettled : (rule : RuleValue) (cells : Row) (u : ℕ) → Turns (verdict_of rule) (possible_kinds rule) cells u → (v : Kind) → Settled rule cells v → ⊥
turns_unsettled rule cells u t v all = t.differ (all t.one t.one_fills ∙ sym (all t.other t.other_fills))

-- a row with an empty cell isn't full
not_full : (cells : Row) (u : ℕ) → slice_get cells u ≡ Some None → kinds_of cells ≡ None
not_full [] u e = cc
not_full (None ∷ cells) u e = refl
not_full (Some k ∷ cells) zero e = cc
not_full (Some k ∷ cells) (suc u) e = let h : kinds_of cells ≡ None = not_full cells u e in rw h refl

-- a row with no empty cell is
pub is_full : (P : List Kind) (cells : Row) → ((i : ℕ) → slice_get cells i ≢ Some None) → (kinds : List Kind) × (kinds_of cells ≡ Some kinds) × Fills P cells kinds
is_full P [] h = ([], refl, tt)
is_full P (None ∷ cells) h = absurd (h 0 refl)
is_full P (Some k ∷ cells) h = let t = is_full P cells (λ i. h (suc i)) in (k ∷ t.0, rw t.1 refl, (refl, t.2))

-- where no cell is filled, the first empty cell is the first
nothing_stands : {X : Type 0} (cells : List (Option X)) (n : ℕ) → 0 < n → 0 < length cells → ((i : ℕ) (k : X) → slice_get cells i ≢ Some (Some k)) → IsFirstEmpty cells n → ⊥
nothing_stands [] n a l none e = omega arith
nothing_stands (None ∷ cells) n a l none e = e.filled 0 a refl
nothing_stands (Some k ∷ cells) n a l none e = none 0 k refl

-- where the first cell is filled, it stands there
first_stands : {X : Type 0} (cells : List (Option X)) (n : ℕ) → 0 < n → 0 < length cells → IsFirstEmpty cells n → (k : X) × (slice_get cells 0 ≡ Some (Some k))
first_stands [] n a l e = absurd (omega arith)
first_stands (None ∷ cells) n a l e = absurd (e.filled 0 a refl)
first_stands (Some k ∷ cells) n a l e = (k, refl)

settled_place : (rule : RuleValue) (extremes : Extremes) (best : Best) (first_empty : ℕ) (cells : Row) → IsExtremes rule extremes → AllPossible (possible_kinds rule) cells → IsBest (prio_of rule) cells best.kind best.at → IsFirstEmpty cells first_empty → prio_of rule best.kind ≡ prio_of rule extremes.greatest → best.at ≤ first_empty → Settled rule cells best.kind
settled_place rule extremes best first_empty cells extremes_is all b empty r l =
    settled_by_place (prio_of rule) (possible_kinds rule) extremes.greatest cells best.kind best.at extremes_is.highest all b r (λ i k. empty.filled i (omega arith))

-- the best is of the greatest possible number, and alone there
settled_best : (rule : RuleValue) (extremes : Extremes) (best : Best) (cells : Row) → IsExtremes rule extremes → AllPossible (possible_kinds rule) cells → IsBest (prio_of rule) cells best.kind best.at → prio_of rule best.kind ≡ prio_of rule extremes.greatest → has_rival extremes.rival ≡ false → Settled rule cells best.kind
settled_best rule extremes best cells extremes_is all b r h =
    let alone : Alone (prio_of rule) (possible_kinds rule) extremes.greatest = alone_of (prio_of rule) (possible_kinds rule) extremes.greatest extremes.rival extremes_is.rival h in
    let same : best.kind ≡ extremes.greatest = alone best.kind (all best.at best.kind b.here) r in
    subst (Settled rule cells) (sym same) (settled_alone (prio_of rule) (possible_kinds rule) extremes.greatest cells best.at extremes_is.highest alone all best.kind b.here r)

-- what is settled where the first empty cell may not turn the verdict, all priorities being equal
settled_level : (rule : RuleValue) (extremes : Extremes) (best : Option Best) (first_empty : ℕ) (cells : Row) → IsExtremes rule extremes → AllPossible (possible_kinds rule) cells → BestIs rule cells best → IsFirstEmpty cells first_empty → 0 < length cells → prio_of rule extremes.least ≡ prio_of rule extremes.greatest → (eqb first_empty 0 && has_rival extremes.rival) ≡ false → Settled rule cells (deciding_kind extremes best)
settled_level rule extremes None first_empty cells extremes_is all b empty l level t = elim (and_false (eqb first_empty 0) (has_rival extremes.rival) t) [
  | inl h ↦ let ne : first_empty ≢ 0 = eqb-false _ _ h in absurd (nothing_stands cells first_empty (omega arith) l b empty)
  | inr h ↦ settled_single (prio_of rule) (possible_kinds rule) extremes.greatest extremes.least cells extremes_is.highest extremes_is.lowest level (alone_of (prio_of rule) (possible_kinds rule) extremes.greatest extremes.rival extremes_is.rival h) all l
]
settled_level rule extremes (Some best) first_empty cells extremes_is all b empty l level t =
    let p : Contains (possible_kinds rule) best.kind = all best.at best.kind b.here in
    let high : prio_of rule best.kind ≤ prio_of rule extremes.greatest = extremes_is.highest best.kind p in
    let low : prio_of rule extremes.least ≤ prio_of rule best.kind = extremes_is.lowest best.kind p in
    let r : prio_of rule best.kind ≡ prio_of rule extremes.greatest = omega arith in
    elim (and_false (eqb first_empty 0) (has_rival extremes.rival) t) [
      | inl h ↦
          let ne : first_empty ≢ 0 = eqb-false _ _ h in
          let x = first_stands cells first_empty (omega arith) l empty in
          let at_least : prio_of rule extremes.least ≤ prio_of rule x.0 = extremes_is.lowest x.0 (all 0 x.0 x.1) in
          let no_later : 0 < best.at → ⊥ = (λ k. let q : prio_of rule x.0 < prio_of rule best.kind = b.earlier 0 x.0 k x.1 in omega arith) in
          settled_place rule extremes best first_empty cells extremes_is all b empty r (omega arith)
      | inr h ↦ settled_best rule extremes best cells extremes_is all b r h
    ]

settled_past : (rule : RuleValue) (extremes : Extremes) (best : Option Best) (first_empty : ℕ) (cells : Row) → IsExtremes rule extremes → AllPossible (possible_kinds rule) cells → BestIs rule cells best → IsFirstEmpty cells first_empty → passes_best rule extremes best first_empty ≡ false → Settled rule cells (deciding_kind extremes best)
settled_past rule extremes None first_empty cells extremes_is all b empty t = cc
settled_past rule extremes (Some best) first_empty cells extremes_is all b empty t =
    let parts = or_false (ltb (prio_of rule best.kind) (prio_of rule extremes.greatest)) (ltb first_empty best.at && has_rival extremes.rival) t in
    let low : prio_of rule extremes.greatest ≤ prio_of rule best.kind = ltb-false _ _ parts.0 in
    let high : prio_of rule best.kind ≤ prio_of rule extremes.greatest = extremes_is.highest best.kind (all best.at best.kind b.here) in
    let r : prio_of rule best.kind ≡ prio_of rule extremes.greatest = omega arith in
    elim (and_false (ltb first_empty best.at) (has_rival extremes.rival) parts.1) [
      | inl h ↦ let le : best.at ≤ first_empty = ltb-false _ _ h in settled_place rule extremes best first_empty cells extremes_is all b empty r le
      | inr h ↦ settled_best rule extremes best cells extremes_is all b r h
    ]

pub settled_when : (rule : RuleValue) (extremes : Extremes) (best : Option Best) (first_empty : ℕ) (cells : Row) → IsRow rule extremes best first_empty cells → 0 < length cells → may_change_verdict rule extremes best first_empty ≡ false → Settled rule cells (deciding_kind extremes best)
settled_when rule extremes best first_empty cells row l t =
    elim (eqb (prio_of rule extremes.least) (prio_of rule extremes.greatest)) as (λ b. eqb (prio_of rule extremes.least) (prio_of rule extremes.greatest) ≡ b → cond b (eqb first_empty 0 && has_rival extremes.rival) (passes_best rule extremes best first_empty) ≡ false → Settled rule cells (deciding_kind extremes best)) [
      | true ↦ λ h k. settled_level rule extremes best first_empty cells row.extremes_is row.possible row.best_is row.empty_is l (eqb-true _ _ h) k
      | false ↦ λ h k. settled_past rule extremes best first_empty cells row.extremes_is row.possible row.best_is row.empty_is k
    ] refl t

-- a row that is full
no_empty : {X : Type 0} (cells : List (Option X)) (n : ℕ) → IsFirstEmpty cells n → n ≡ length cells → (i : ℕ) → slice_get cells i ≢ Some None
no_empty cells n e l i k = let w : i < length cells = slice_get_within cells i None k in e.filled i (omega arith) k

settled_full : (rule : RuleValue) (extremes : Extremes) (best : Option Best) (first_empty : ℕ) (cells : Row) → BestIs rule cells best → IsFirstEmpty cells first_empty → 0 < length cells → first_empty ≡ length cells → Settled rule cells (deciding_kind extremes best)
settled_full rule extremes None first_empty cells b empty l e = absurd (nothing_stands cells first_empty (omega arith) l b empty)
settled_full rule extremes (Some best) first_empty cells b empty l e = settled_by_full (prio_of rule) (possible_kinds rule) cells best.kind best.at b (no_empty cells first_empty empty e)

full_final : (rule : RuleValue) (cells : Row) (v : Kind) → Settled rule cells v → ((i : ℕ) → slice_get cells i ≢ Some None) → answer_with (full_kind rule (kinds_of cells)) ≡ Final (Tests v)
full_final rule cells v all none =
    let f = is_full (possible_kinds rule) cells none in
    ap (λ o. answer_with (full_kind rule o)) f.1 ∙ ap answer_with (all f.0 f.2)

answer_full_row : (rule : RuleValue) (mode : Mode) (cells : Row) (v : Kind) → Settled rule cells v → ((i : ℕ) → slice_get cells i ≢ Some None) → Final (Tests v) ≡ answer_with (known_kind rule mode cells)
answer_full_row rule Lazy cells v all none = sym (ap answer_with (settled_kind_is rule cells v all))
answer_full_row rule Full cells v all none = sym (full_final rule cells v all none)

pub answer_cells : (rule : RuleValue) (mode : Mode) (cells : Row) → 0 < length cells → answer_of rule mode cells ≡ answer_with (known_kind rule mode cells)
answer_cells rule mode [] l = absurd (omega arith)
answer_cells rule mode (c ∷ cells) l = refl

-- the fact of the contract, from two fillings
pub Matters-from_turns : (rule : RuleValue) (cells : Row) (u : ℕ) → slice_get cells u ≡ Some None → Turns (verdict_of rule) (possible_kinds rule) cells u → Matters rule cells u
Matters-from_turns rule cells u e t = record {
  empty = e;
  one = t.one;
  other = t.other;
  one_completes = listed rule cells t.one t.one_fills;
  other_completes = listed rule cells t.other t.other_fills;
  alone = t.alone;
  differ = t.differ;
}

pub turns_from_Matters : (rule : RuleValue) (cells : Row) (u : ℕ) → Matters rule cells u → Turns (verdict_of rule) (possible_kinds rule) cells u
turns_from_Matters rule cells u m = record {
  one = m.one;
  other = m.other;
  one_fills = fills_listed rule cells m.one m.one_completes;
  other_fills = fills_listed rule cells m.other m.other_completes;
  alone = m.alone;
  differ = m.differ;
}

pub matters_when : (rule : RuleValue) (extremes : Extremes) (best : Option Best) (first_empty : ℕ) (cells : Row) (u : ℕ) → IsRow rule extremes best first_empty cells → slice_get cells u ≡ Some None → may_change_verdict rule extremes best u ≡ true → Matters rule cells u
matters_when rule extremes best first_empty cells u row e t = Matters-from_turns rule cells u e (turns_when rule extremes best first_empty cells u row e t)

pub turned_when : (rule : RuleValue) (extremes : Extremes) (best : Option Best) (first_empty : ℕ) (cells : Row) (u : ℕ) → IsRow rule extremes best first_empty cells → slice_get cells u ≡ Some None → Matters rule cells u → may_change_verdict rule extremes best u ≡ true
turned_when rule extremes best first_empty cells u row e m = elim (may_change_verdict rule extremes best u) as (λ t. may_change_verdict rule extremes best u ≡ t → t ≡ true) [
  | true ↦ λ t. refl
  | false ↦ λ t. absurd (calm_when rule extremes best first_empty cells u row e t (turns_from_Matters rule cells u m))
] refl

-- a settled verdict is the one that the code has
pub deciding_kind_is : (rule : RuleValue) (extremes : Extremes) (best : Option Best) (first_empty : ℕ) (cells : Row) (v : Kind) → IsRow rule extremes best first_empty cells → 0 < length cells → Settled rule cells v → deciding_kind extremes best ≡ v
deciding_kind_is rule extremes best first_empty cells v row l all = elim (eqb first_empty (length cells)) as (λ t. eqb first_empty (length cells) ≡ t → deciding_kind extremes best ≡ v) [
  | true ↦ λ t. settled_once rule cells v (deciding_kind extremes best) all (settled_full rule extremes best first_empty cells row.best_is row.empty_is l (eqb-true _ _ t))
  | false ↦ λ t.
      let ne : first_empty ≢ length cells = eqb-false _ _ t in
      let within : first_empty ≤ length cells = row.empty_is.within in
      let e : slice_get cells first_empty ≡ Some None = row.empty_is.empty (omega arith) in
      elim (may_change_verdict rule extremes best first_empty) as (λ m. may_change_verdict rule extremes best first_empty ≡ m → deciding_kind extremes best ≡ v) [
        | true ↦ λ m. absurd (turns_unsettled rule cells first_empty (turns_when rule extremes best first_empty cells first_empty row e m) v all)
        | false ↦ λ m. settled_once rule cells v (deciding_kind extremes best) all (settled_when rule extremes best first_empty cells row l m)
      ] refl
] refl

-- the row is full
pub final_when_full : (rule : RuleValue) (extremes : Extremes) (best : Option Best) (first_empty : ℕ) (mode : Mode) (cells : Row) (kind : Kind) → IsRow rule extremes best first_empty cells → 0 < length cells → first_empty ≡ length cells → ((v : Kind) → Settled rule cells v → kind ≡ v) → Final (Tests kind) ≡ answer_of rule mode cells
final_when_full rule extremes best first_empty mode cells kind row l end is =
    let all : Settled rule cells (deciding_kind extremes best) = settled_full rule extremes best first_empty cells row.best_is row.empty_is l end in
    ap (λ k. Final (Tests k)) (is (deciding_kind extremes best) all)
    ∙ answer_full_row rule mode cells (deciding_kind extremes best) all (no_empty cells first_empty row.empty_is end)
    ∙ sym (answer_cells rule mode cells l)

-- the first empty cell doesn't matter
pub final_when_calm : (rule : RuleValue) (extremes : Extremes) (best : Option Best) (first_empty : ℕ) (cells : Row) (kind : Kind) → IsRow rule extremes best first_empty cells → 0 < length cells → slice_get cells first_empty ≡ Some None → (Matters rule cells first_empty → ⊥) → ((v : Kind) → Settled rule cells v → kind ≡ v) → Final (Tests kind) ≡ answer_of rule Lazy cells
final_when_calm rule extremes best first_empty cells kind row l e calm is = elim (may_change_verdict rule extremes best first_empty) as (λ m. may_change_verdict rule extremes best first_empty ≡ m → Final (Tests kind) ≡ answer_of rule Lazy cells) [
  | true ↦ λ m. absurd (calm (matters_when rule extremes best first_empty cells first_empty row e m))
  | false ↦ λ m.
      let all : Settled rule cells (deciding_kind extremes best) = settled_when rule extremes best first_empty cells row l m in
      ap (λ k. Final (Tests k)) (is (deciding_kind extremes best) all) ∙ sym (ap answer_with (settled_kind_is rule cells (deciding_kind extremes best) all)) ∙ sym (answer_cells rule Lazy cells l)
] refl

-- or it does
pub pending_when_matters : (rule : RuleValue) (cells : Row) (at : ℕ) → 0 < length cells → Matters rule cells at → Pending ≡ answer_of rule Lazy cells
pending_when_matters rule cells at l m =
    sym (ap answer_with (settled_kind_none rule cells (turns_unsettled rule cells at (turns_from_Matters rule cells at m)))) ∙ sym (answer_cells rule Lazy cells l)

pub pending_when_open : (rule : RuleValue) (cells : Row) (at : ℕ) → 0 < length cells → slice_get cells at ≡ Some None → Pending ≡ answer_of rule Full cells
pending_when_open rule cells at l e = sym (ap (λ o. answer_with (full_kind rule o)) (not_full cells at e)) ∙ sym (answer_cells rule Full cells l)

-- the closed form decides whether the cell matters
pub decides_matters : (rule : RuleValue) (extremes : Extremes) (best : Option Best) (at : ℕ) (answer : Bool) → answer ≡ may_change_verdict rule extremes best at → (cells : Row) (first_empty : ℕ) → IsRow rule extremes best first_empty cells → slice_get cells at ≡ Some None → (answer ≡ true) ↔ Matters rule cells at
decides_matters rule extremes best at answer is cells first_empty row e =
    (λ t. matters_when rule extremes best first_empty cells at row e (sym is ∙ t), λ m. is ∙ turned_when rule extremes best first_empty cells at row e m)
