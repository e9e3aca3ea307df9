-- Rows, and what is reported of them where every test is judged.
use Rattle.std.proofs.Common.{ℕ, zero, suc, ◌≡◌, ◌+◌, ◌-◌, ◌<◌, List, [], ◌∷◌, Option, Some, None, refl, sym, ap, ◌∙◌, arith, length, map, slice_get}
use Rattle.std.specs.Option.{option_map}
use Rattle.std.specs.List.{range_with_len, filter_map}
use Rattle.farm_kinds.specs.declared.kinds.Kind.{Kind}
use Rattle.farm_kinds.specs.declared.outcomes.Verdict.{Verdict}
use Rattle.farm_kinds.specs.declared.outcomes.Verdict.TheVariants.{Tests, CompilerError}
use Rattle.farm_kinds.specs.declared.outcomes.Answer.{Answer}
use Rattle.farm_kinds.specs.declared.outcomes.Answer.TheVariants.{Final, Pending}
use Rattle.farm_kinds.specs.declared.outcomes.Mode.TheVariants.{Full}
use Rattle.farm_kinds.specs.RuleValue.{RuleValue}
use Rattle.farm_kinds.specs.Rules.{prio_of, remap_of, verdict_of}
use Rattle.farm_kinds.specs.Ranks.{greatest}
use Rattle.farm_kinds.proofs.Greatest.{found}
use Rattle.farm_model.specs.Numbered.{item_of}
use Rattle.farm_model.specs.Rows.{Row, kinds_of, full_kind, answer_with, answer_of}
use Rattle.farm_model.specs.Replay.{verdict_from}
use Rattle.farm_laws.proofs.Items.{item_at, item_by}

-- Every cell is filled, or one is empty

pub kinds_missing : (row : Row) → kinds_of row ≡ None → (i : ℕ) × (slice_get row i ≡ Some None)
kinds_missing [] h = cc
kinds_missing (None ∷ row) h = (zero, refl)
kinds_missing (Some k ∷ row) h =
    elim (kinds_of row) as (λ o. kinds_of row ≡ o → option_map (λ kinds. k ∷ kinds) o ≡ None → (i : ℕ) × (slice_get (Some k ∷ row) i ≡ Some None)) [
      | None ↦ λ e f. let m = kinds_missing row e in (suc m.0, m.1)
      | Some kinds ↦ λ e f. cc
    ] refl h

pub missing_kinds : (row : Row) (i : ℕ) → slice_get row i ≡ Some None → kinds_of row ≡ None
missing_kinds [] i h = cc
missing_kinds (None ∷ row) i h = refl
missing_kinds (Some k ∷ row) zero h = cc
missing_kinds (Some k ∷ row) (suc i) h = ap (option_map (λ kinds. k ∷ kinds)) (missing_kinds row i h)

-- a list that is not empty has a verdict
pub has_verdict : (rule : RuleValue) (k : Kind) (ks : List Kind) → (v : Kind) × (verdict_of rule (k ∷ ks) ≡ Some v)
has_verdict rule k ks = let f = found (prio_of rule) k ks (greatest (prio_of rule) (k ∷ ks)) refl in (f.0, f.1)

kinds_there : (rule : RuleValue) (ks : List Kind) (n : ℕ) → length ks ≡ suc n → (v : Kind) × (verdict_of rule ks ≡ Some v)
kinds_there rule [] n h = absurd (omega arith)
kinds_there rule (k ∷ ks) n h = has_verdict rule k ks

pub length-kinds_of : (row : Row) (ks : List Kind) → kinds_of row ≡ Some ks → length ks ≡ length row
length-kinds_of [] ks h = let e : [] ≡ ks = cc in ap length (sym e)
length-kinds_of (None ∷ row) ks h = cc
length-kinds_of (Some k ∷ row) ks h =
    elim (kinds_of row) as (λ o. kinds_of row ≡ o → option_map (λ kinds. k ∷ kinds) o ≡ Some ks → length ks ≡ suc (length row)) [
      | None ↦ λ e f. cc
      | Some kinds ↦ λ e f. let same : k ∷ kinds ≡ ks = cc in let rest = length-kinds_of row kinds e in let long = ap length same in omega (arith, rest, long)
    ] refl h

-- Answers with `Full`

-- what is reported of a row whose kinds are these
abbrev pub reported : RuleValue → Option (List Kind) → Answer
reported rule o = answer_with (full_kind rule o)

final_kind : (o : Option Kind) (v : Verdict) → answer_with o ≡ Final v → v ≡ verdict_from o
final_kind None v h = cc
final_kind (Some k) v h = cc

-- a final verdict is that of the row's kinds
pub final_verdict : (rule : RuleValue) (row : Row) (ks : List Kind) (v : Verdict) → kinds_of row ≡ Some ks → answer_of rule Full row ≡ Final v → v ≡ verdict_from (verdict_of rule ks)
final_verdict rule [] ks v e h = let none : [] ≡ ks = cc in let w : CompilerError ≡ v = cc in sym w ∙ ap (λ kinds. verdict_from (verdict_of rule kinds)) none
final_verdict rule (c ∷ row) ks v e h = final_kind (verdict_of rule ks) v (ap (reported rule) (sym e) ∙ h)

pending_missing : (rule : RuleValue) (c : Option Kind) (row : Row) (v : Verdict) → kinds_of (c ∷ row) ≡ None → answer_of rule Full (c ∷ row) ≡ Final v → ⊥
pending_missing rule c row v e h = let p : Pending ≡ Final v = ap (reported rule) (sym e) ∙ h in cc

-- a row that is reported final is full
pub final_full : (rule : RuleValue) (row : Row) (v : Verdict) → answer_of rule Full row ≡ Final v → (ks : List Kind) × (kinds_of row ≡ Some ks)
final_full rule [] v h = ([], refl)
final_full rule (c ∷ row) v h =
    elim (kinds_of (c ∷ row)) as (λ o. kinds_of (c ∷ row) ≡ o → (ks : List Kind) × (o ≡ Some ks)) [
      | None ↦ λ e. absurd (pending_missing rule c row v e h)
      | Some ks ↦ λ e. (ks, refl)
    ] refl

full_final : (rule : RuleValue) (c : Option Kind) (row : Row) (ks : List Kind) → kinds_of (c ∷ row) ≡ Some ks → answer_of rule Full (c ∷ row) ≡ Pending → ⊥
full_final rule c row ks e h =
    let long : length ks ≡ suc (length row) = length-kinds_of (c ∷ row) ks e ∙ omega arith in
    let v = kinds_there rule ks (length row) long in
    let p : Final (Tests v.0) ≡ Pending = ap answer_with (sym v.1) ∙ ap (reported rule) (sym e) ∙ h in cc

-- a row that is reported pending has an empty cell
pub pending_empty : (rule : RuleValue) (row : Row) → answer_of rule Full row ≡ Pending → (t : ℕ) × (item_of row t ≡ Some None)
pending_empty rule [] h = cc
pending_empty rule (c ∷ row) h =
    elim (kinds_of (c ∷ row)) as (λ o. kinds_of (c ∷ row) ≡ o → (t : ℕ) × (item_of (c ∷ row) t ≡ Some None)) [
      | None ↦ λ e. let m = kinds_missing (c ∷ row) e in (suc m.0, item_by (c ∷ row) (suc m.0) None (omega arith) (ap (slice_get (c ∷ row)) (omega arith) ∙ m.1))
      | Some ks ↦ λ e. absurd (full_final rule c row ks e h)
    ] refl

pub empty_pending : (rule : RuleValue) (row : Row) (t : ℕ) → item_of row t ≡ Some None → answer_of rule Full row ≡ Pending
empty_pending rule [] t h = let a = item_at [] t None h in let b = a.1 in cc
empty_pending rule (c ∷ row) t h = ap (reported rule) (missing_kinds (c ∷ row) (t - 1) (item_at (c ∷ row) t None h).1)

-- Rows by their cells

pub map_range : {X : Type 0} (f g : ℕ → X) (a n : ℕ) → ((i : ℕ) → i < n → f (a + i) ≡ g (a + i)) → map f (range_with_len a n) ≡ map g (range_with_len a n)
map_range f g a zero h = refl
map_range f g a (suc n) h =
    let start : a + 0 ≡ a = omega arith in
    let here : f a ≡ g a = ap f (sym start) ∙ h 0 (omega arith) ∙ ap g start in
    let rest = map_range f g (a + 1) n (λ i lt. let next : a + 1 + i ≡ a + suc i = omega arith in ap f next ∙ h (suc i) (omega arith) ∙ ap g (sym next)) in
    ap (λ x. x ∷ map f (range_with_len (a + 1) n)) here ∙ ap (λ xs. g a ∷ xs) rest

-- the cells' kinds are what the tests truly count as
pub true_row : (rule : RuleValue) (f g : ℕ → Option Kind) (a n : ℕ) → ((i : ℕ) → i < n → (k : Kind) × (g (a + i) ≡ Some k) × (f (a + i) ≡ Some (remap_of rule k)))
    → kinds_of (map f (range_with_len a n)) ≡ Some (map (remap_of rule) (filter_map g (range_with_len a n)))
true_row rule f g a zero h = refl
true_row rule f g a (suc n) h =
    let start : a + 0 ≡ a = omega arith in
    let k = h 0 (omega arith) in
    let given : g a ≡ Some k.0 = ap g (sym start) ∙ k.1 in
    let cell : f a ≡ Some (remap_of rule k.0) = ap f (sym start) ∙ k.2 in
    let rest = true_row rule f g (a + 1) n (λ i lt. let next : a + 1 + i ≡ a + suc i = omega arith in let m = h (suc i) (omega arith) in (m.0, ap g next ∙ m.1, ap f next ∙ m.2)) in
    rw (cell, given) (rw rest refl)
