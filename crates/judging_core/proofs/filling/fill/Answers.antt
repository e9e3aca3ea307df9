use Rattle.std.proofs.Common.{◌≡◌, ◌∙◌, ◌-◌, ℕ, List, Some, refl, sym, ap, subst, arith, set}
use Rattle.std.specs.Option.{option_map}
use Rattle.farm_kinds.specs.RuleValue.{RuleValue}
use Rattle.farm_model.specs.Numbered.{item_of}
use Rattle.farm_kinds.specs.declared.outcomes.Mode.{Mode}
use Rattle.farm_model.specs.Judgings.{Judging, fill_cell, judging_answer}
use Rattle.farm_model.specs.Rows.{answer_of}
use Rattle.judging_core.specs.Listed.{IsWantedUpTo}
use Rattle.judging_core.specs.declared.judgings.KeptJudging.{KeptJudging}
use Rattle.judging_core.specs.JudgeShape.{judging_value, judging_values}
use Rattle.judging_core.proofs.Changed.{changed, item_there}
use Rattle.judging_core.proofs.Items.{item_at, item_seen, with_same}
use Rattle.judging_core.proofs.Reported.{ruled_at}
use Rattle.judging_core.proofs.filling.fill.Goals as goal

pub returns-clause-value : goal.returns-clause-value
returns-clause-value c =
    let kept = c.index_mut-kept.result.now in
    changed judging_value c.args.judgings.now.items c.args.judging kept c.put_result.new.kept (fill_cell c.args.test c.args.given)
    (omega (arith, c.requires.numbered)) c.requires.known c.index_mut-kept.ensures.value (rw c.put_result.ensures.value refl)

-- of the judging that was changed, what is read by its number is what it became
became : (js : List KeptJudging) (n : ℕ) (kept new : KeptJudging) (judging : Judging) → item_of js n ≡ Some kept → item_of (judging_values (set js (n - 1) new)) n ≡ Some judging → judging_value new ≡ judging
became js n kept new judging there is =
    let seen : item_of (judging_values (set js (n - 1) new)) n ≡ Some (judging_value new) =
    item_seen judging_value (set js (n - 1) new) n ∙ ap (option_map judging_value) (with_same js n kept new there) in
    let both : Some (judging_value new) ≡ Some judging = sym seen ∙ is in
    cc

pub returns-clause-answer : goal.returns-clause-answer
returns-clause-answer c = λ rule ruled. record {
  each = λ judging is.
      let js = c.args.judgings.now.items in
      let kept = c.index_mut-kept.result.now in
      let new = c.put_result.new.kept in
      let there : item_of js c.args.judging ≡ Some kept = item_there js c.args.judging kept (omega (arith, c.requires.numbered)) c.requires.known c.index_mut-kept.ensures.value in
      let by : kept.row.rule ≡ rule = ruled_at rule js (c.args.judging - 1) kept ruled (item_at js c.args.judging kept there).1 in
      let mode : new.mode ≡ kept.mode = ap (λ (k : KeptJudging). k.mode) c.put_result.ensures.value in
      c.put_result.ensures.answer
      ∙ ap (λ (r : RuleValue). answer_of r kept.mode new.row.cells) by
      ∙ sym (ap (λ (m : Mode). answer_of rule m new.row.cells) mode)
      ∙ ap (λ (j : Judging). judging_answer rule j) (became js c.args.judging kept new judging there is);
}

pub returns-clause-last : goal.returns-clause-last
returns-clause-last c = λ rule ruled. record {
  each = λ judging is.
      let js = c.args.judgings.now.items in
      let kept = c.index_mut-kept.result.now in
      let new = c.put_result.new.kept in
      let there : item_of js c.args.judging ≡ Some kept = item_there js c.args.judging kept (omega (arith, c.requires.numbered)) c.requires.known c.index_mut-kept.ensures.value in
      let by : kept.row.rule ≡ rule = ruled_at rule js (c.args.judging - 1) kept ruled (item_at js c.args.judging kept there).1 in
      let mode : new.mode ≡ kept.mode = ap (λ (k : KeptJudging). k.mode) c.put_result.ensures.value in
      subst (λ (j : Judging). IsWantedUpTo rule j.mode j.row c.put_result.result.last) (became js c.args.judging kept new judging there is)
      (subst (λ (m : Mode). IsWantedUpTo rule m new.row.cells c.put_result.result.last) (sym mode)
      (subst (λ (r : RuleValue). IsWantedUpTo r kept.mode new.row.cells c.put_result.result.last) by c.put_result.ensures.last));
}
