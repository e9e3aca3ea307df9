-- What is reported of judgings, before and after one of them is changed or added.
use Rattle.std.proofs.Common.{ℕ, zero, suc, ◌≡◌, ◌-◌, List, [], ◌∷◌, ◌++◌, Option, Some, None, refl, sym, ap, ◌∙◌, set, slice_get}
use Rattle.std.proofs.lemmas.List.{map-set, map_push}
use Rattle.std.proofs.lemmas.List.Elements.{All-head, All-tail}
use Rattle.farm_kinds.specs.declared.outcomes.Answer.{Answer}
use Rattle.farm_kinds.specs.RuleValue.{RuleValue}
use Rattle.farm_model.specs.Numbered.{item_of, change_item, with_change}
use Rattle.farm_model.specs.Judgings.{Judging, judging_answer}
use Rattle.judging_core.specs.JudgeShape.{answers_by, AreRuledBy, IsRuledBy}
use Rattle.judging_core.specs.declared.judgings.KeptJudging.{KeptJudging}
use Rattle.judging_core.proofs.Items.{kept_seen, with_same}

-- a change of what the answer does not depend on
pub answers_kept : (rule : RuleValue) (before new : List Judging) (n : ℕ) (f : Judging → Judging) (answers : List Answer) → answers ≡ answers_by rule before → new ≡ with_change before n f → ((x : Judging) → judging_answer rule (f x) ≡ judging_answer rule x) → answers ≡ answers_by rule new
answers_kept rule before new n f answers e changed same =
    e ∙ sym (kept_seen (judging_answer rule) before n f same) ∙ sym (ap (answers_by rule) changed)

-- the answer of the judging that was changed is made anew
pub answers_changed : (rule : RuleValue) (before : List Judging) (n : ℕ) (f : Judging → Judging) (x : Judging) → item_of (with_change before n f) n ≡ Some x → set (answers_by rule before) (n - 1) (judging_answer rule x) ≡ answers_by rule (with_change before n f)
answers_changed rule before n f x here = at (item_of before n) refl where
  at : (o : Option Judging) → item_of before n ≡ o → set (answers_by rule before) (n - 1) (judging_answer rule x) ≡ answers_by rule (change_item before n f o)
  at None e =
      let h : item_of before n ≡ Some x = ap (λ o. item_of (change_item before n f o) n) (sym e) ∙ here in
      cc
  at (Some y) e =
      let h : item_of (set before (n - 1) (f y)) n ≡ Some x = ap (λ o. item_of (change_item before n f o) n) (sym e) ∙ here in
      let s : item_of (set before (n - 1) (f y)) n ≡ Some (f y) = with_same before n y (f y) e in
      let same : x ≡ f y = cc in
      ap (λ z. set (answers_by rule before) (n - 1) (judging_answer rule z)) same ∙ sym (map-set (judging_answer rule) before (n - 1) (f y))

-- one judging more
pub answers_pushed : (rule : RuleValue) (before new : List Judging) (judging : Judging) (answers : List Answer) (answer : Answer) → answers ≡ answers_by rule before → new ≡ before ++ judging ∷ [] → answer ≡ judging_answer rule judging → answers ++ answer ∷ [] ≡ answers_by rule new
answers_pushed rule before new judging answers answer e pushed is =
    ap (λ a. a ++ answer ∷ []) e ∙ ap (λ a. answers_by rule before ++ a ∷ []) is ∙ sym (map_push (judging_answer rule) before judging) ∙ sym (ap (answers_by rule) pushed)

-- a judging that was read is judged by the rule of all
pub ruled_at : (rule : RuleValue) (js : List KeptJudging) (i : ℕ) (kept : KeptJudging) → AreRuledBy rule js → slice_get js i ≡ Some kept → kept.row.rule ≡ rule
ruled_at rule [] i kept h e = cc
ruled_at rule (x ∷ js) zero kept h e = let same : x ≡ kept = cc in ap (λ (k : KeptJudging). k.row.rule) (sym same) ∙ All-head (IsRuledBy rule) x js h
ruled_at rule (x ∷ js) (suc i) kept h e = ruled_at rule js i kept (All-tail (IsRuledBy rule) x js h) e
