use Rattle.std.proofs.Common.{rules, ◌≡◌, List, Some, sym, ap, ◌∙◌}
use Rattle.std.specs.Option.{option_copied}
use Rattle.farm_model.specs.declared.records.Rejudging.{Rejudging}
use Rattle.farm_model.specs.declared.records.RejudgeState.TheVariants as state
use Rattle.farm_model.specs.Numbered.{item_of}
use Rattle.rejudge_book.specs.Refusals.{close_refusal}
use Rattle.rejudge_book.specs.Book.{Book}
use Rattle.rejudge_book.proofs.Closing.{is_open, accepted}
use Rattle.rejudge_book.proofs.book.RejudgeBook.close.Goals as goal

pub close_open-requires : goal.close_open-requires
close_open-requires c =
    let rs = c.self.inside.rejudgings.items in
    let own = c.in-Some.rejudging.now in
    let item : item_of rs c.args.number ≡ Some own
    = sym (ap (λ (xs : List Rejudging). item_of xs c.args.number) c.deref.ensures.value) ∙ (sym c.item_of.ensures.item ∙ ap (λ o. option_copied o) c.in-Some.is) in
    let still : own.state ≡ state.Open = is_open own.state (sym c.how_closed.ensures ∙ c.in_default-how_closed.is) in
    ap (λ (b : Book). close_refusal b.rejudgings c.args.number) (sym c.self.view_is) ∙ accepted rs c.args.number own item still

pub returns-in-Some-how_closed-clause-fault : goal.returns-in-Some-how_closed-clause-fault
returns-in-Some-how_closed-clause-fault c = search rules
