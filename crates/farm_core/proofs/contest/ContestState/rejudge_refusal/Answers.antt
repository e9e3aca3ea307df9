use Rattle.std.proofs.Common.{◌≡◌, Option, None, rules, sym, ◌∙◌, subst}
use Rattle.std.specs.Prelude.{IfSome}
use Rattle.farm_kinds.specs.declared.events.Reply.{Reply}
use Rattle.farm_core.specs.FarmShape.{HadMemory, list_refusal}
use Rattle.farm_core.proofs.Refusing.{rest_refuses, book_answers}
use Rattle.farm_core.proofs.contest.ContestState.rejudge_refusal.Goals as goal

pub returns-clause-refusal : goal.returns-clause-refusal
returns-clause-refusal c =
    let none : list_refusal c.args.self.now c.args.list.now ≡ None = search rules in
    c.book_refusal.ensures.refusal ∙ sym (rest_refuses c.args.self.now c.args.list.now none)

pub returns-clause-answers : goal.returns-clause-answers
returns-clause-answers c =
    subst (λ (o : Option Reply). IfSome o HadMemory) (sym c.book_refusal.ensures.refusal) (book_answers c.args.self.now.rejudgings c.args.list.now)
