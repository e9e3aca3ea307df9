use Rattle.std.proofs.Common.{◌≡◌, [], ◌∷◌, None, sym, ap, ◌∙◌, rules}
use Rattle.farm_model.specs.Refusing.{first_of}
use Rattle.rejudge_book.specs.Marks.{marked_refusal}
use Rattle.rejudge_book.specs.Book.{Book}
use Rattle.rejudge_book.proofs.Marking.{refusal_is, last_of}
use Rattle.rejudge_book.proofs.book.RejudgeBook.refusal.Goals as goal
use Rattle.farm_model.specs.Rejudgings.{busy_refusal, twice_refusal}
use Rattle.rejudge_book.specs.declared.faults.BookFault.TheVariants as fault

pub returns-clause-refusal : goal.returns-clause-refusal
returns-clause-refusal c =
    let twice : twice_refusal fault.Twice c.args.members.now ≡ None = search rules in
    let busy : c.first_marked.result ≡ busy_refusal fault.Busy c.self.inside.rejudgings.items c.args.members.now
    = c.first_marked.ensures ∙ (ap (λ ms. marked_refusal ms c.args.members.now) c.deref.ensures.value ∙ refusal_is c.self.inside.rejudgings.items c.self.inside.marks.items c.args.self.now.submissions c.args.members.now c.self.invariant.marks c.requires.known) in
    let same : busy_refusal fault.Busy c.self.inside.rejudgings.items c.args.members.now ≡ busy_refusal fault.Busy c.args.self.now.rejudgings c.args.members.now
    = ap (λ (b : Book). busy_refusal fault.Busy b.rejudgings c.args.members.now) c.self.view_is in
    busy ∙ (same ∙ (sym (last_of (busy_refusal fault.Busy c.args.self.now.rejudgings c.args.members.now)) ∙ ap (λ o. first_of (o ∷ busy_refusal fault.Busy c.args.self.now.rejudgings c.args.members.now ∷ [])) (sym twice)))
