use Rattle.std.proofs.Common.{◌∙◌, List, ap}
use Rattle.farm_kinds.specs.declared.outcomes.Answer.{Answer}
use Rattle.farm_model.specs.Numbered.{item_of}
use Rattle.farm_model.specs.Judge.{answer_of_judging}
use Rattle.farm_model.specs.Judgings.{judging_answer}
use Rattle.judging_core.specs.JudgeValue.{JudgeValue}
use Rattle.judging_core.specs.JudgeShape.{judging_values}
use Rattle.judging_core.proofs.Items.{item_seen}
use Rattle.judging_core.proofs.judge.Judge.answer.Goals as goal

pub returns : goal.returns
returns c =
    let at = c.self.inside in
    let n = c.args.judging in
    c.copied.ensures
    ∙ c.item_of.ensures.item
    ∙ ap (λ (xs : List Answer). item_of xs n) (c.deref.ensures.value ∙ c.self.invariant.answered)
    ∙ item_seen (judging_answer at.rule) (judging_values at.judgings.items) n
    ∙ ap (λ (v : JudgeValue). answer_of_judging v.state n) c.self.view_is
