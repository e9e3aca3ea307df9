use Rattle.std.proofs.Common.{◌≡◌, ◌-◌, ℕ, List, Some, sym, ap, ◌∙◌, arith, length, set, vec_len, vec_capacity, min}
use Rattle.std.specs.Option.{option_copied}
use Rattle.std.proofs.lemmas.Option.{slice_get_within, get_or_from_slice_get}
use Rattle.farm_model.specs.declared.records.Member.{Member}
use Rattle.farm_model.specs.declared.records.Rejudging.{Rejudging}
use Rattle.farm_model.specs.declared.records.RejudgeState.{RejudgeState}
use Rattle.farm_model.specs.declared.records.RejudgeState.TheVariants as state
use Rattle.farm_model.specs.Numbered.{item_of}
use Rattle.farm_model.specs.Rejudgings.{close_as, closed}
use Rattle.rejudge_book.specs.Refusals.{close_refusal}
use Rattle.rejudge_book.specs.Marks.{submissions_of, with_marks}
use Rattle.rejudge_book.specs.Book.{Book, with_closed}
use Rattle.rejudge_book.specs.BookLayout.{book_value}
use Rattle.rejudge_book.proofs.Closing.{item_place, was_open, closed_is}
use Rattle.rejudge_book.proofs.Marking.{members_known, members_are, marks_closed}
use Rattle.rejudge_book.proofs.book.RejudgeBook.close_open.Goals as goal

pub mark-requires : goal.mark-requires
mark-requires c =
    let rs = c.self.inside.rejudgings.items in
    let own = c.in-Some.rejudging.now in
    let item : item_of rs c.args.number ≡ Some own
    = sym (ap (λ (xs : List Rejudging). item_of xs c.args.number) c.deref.ensures.value) ∙ (sym c.item_of.ensures.item ∙ ap (λ o. option_copied o) c.in-Some.is) in
    let still : own.state ≡ state.Open = was_open rs c.args.number own item (ap (λ (b : Book). close_refusal b.rejudgings c.args.number) c.self.view_is ∙ c.requires) in
    let known = members_known rs c.self.inside.marks.items (c.args.number - 1) own c.self.invariant.marks (item_place rs c.args.number own item) still in
    let len : length c.self.inside.marks.items ≡ vec_len c.self.inside.marks = omega (arith, c.self.inside.marks.ok.0) in
    record { known = rw (c.as_slice.ensures, ← len) (members_are (length c.self.inside.marks.items) own.members known) }

pub index_mut-requires : goal.index_mut-requires
index_mut-requires c =
    let rs = c.self.inside.rejudgings.items in
    let own = c.in-Some.rejudging.now in
    let item : item_of rs c.args.number ≡ Some own
    = sym (ap (λ (xs : List Rejudging). item_of xs c.args.number) c.deref.ensures.value) ∙ (sym c.item_of.ensures.item ∙ ap (λ o. option_copied o) c.in-Some.is) in
    let within = slice_get_within rs (c.args.number - 1) own (item_place rs c.args.number own item) in
    omega (arith, c.self.inside.rejudgings.ok.0)

pub invariant_of-self : goal.invariant_of-self
invariant_of-self c =
    let n = c.args.number - 1 in
    let rs = c.self.inside.rejudgings.items in
    let own = c.in-Some.rejudging.now in
    let item : item_of rs c.args.number ≡ Some own
    = sym (ap (λ (xs : List Rejudging). item_of xs c.args.number) c.deref.ensures.value) ∙ (sym c.item_of.ensures.item ∙ ap (λ o. option_copied o) c.in-Some.is) in
    let same : c.index_mut.result.now ≡ own
    = c.index_mut.ensures.value ∙ get_or_from_slice_get rs n own c.index_mut.result.now (item_place rs c.args.number own item) in
    let rejudgings : set rs n (record { members = c.index_mut.result.now.members; state = c.state_when.result }) ≡ set rs n (close_as c.args.how own)
    = ap (λ (r : Rejudging). set rs n (record { members = r.members; state = c.state_when.result })) same ∙ ap (λ (s : RejudgeState). set rs n (record { members = own.members; state = s })) c.state_when.ensures in
    let still : own.state ≡ state.Open = was_open rs c.args.number own item (ap (λ (b : Book). close_refusal b.rejudgings c.args.number) c.self.view_is ∙ c.requires) in
    let marked : c.mark.new.marks.items ≡ with_marks c.self.inside.marks.items (submissions_of own.members) 0
    = c.mark.ensures.marks ∙ ap (λ (ms : List Member). with_marks c.self.inside.marks.items (submissions_of ms) 0) c.as_slice.ensures in
    let made = marks_closed rs c.self.inside.marks.items n own c.args.how c.self.invariant.marks (item_place rs c.args.number own item) still in
    record {
      marks = rw (rejudgings, marked) made;
      places = c.self.invariant.places ∙ sym c.mark.ensures.len;
      blank = c.self.invariant.blank;
    }

pub returns : goal.returns
returns c =
    let n = c.args.number - 1 in
    let rs = c.self.inside.rejudgings.items in
    let own = c.in-Some.rejudging.now in
    let item : item_of rs c.args.number ≡ Some own
    = sym (ap (λ (xs : List Rejudging). item_of xs c.args.number) c.deref.ensures.value) ∙ (sym c.item_of.ensures.item ∙ ap (λ o. option_copied o) c.in-Some.is) in
    let same : c.index_mut.result.now ≡ own
    = c.index_mut.ensures.value ∙ get_or_from_slice_get rs n own c.index_mut.result.now (item_place rs c.args.number own item) in
    let rejudgings : set rs n (record { members = c.index_mut.result.now.members; state = c.state_when.result }) ≡ set rs n (close_as c.args.how own)
    = ap (λ (r : Rejudging). set rs n (record { members = r.members; state = c.state_when.result })) same ∙ ap (λ (s : RejudgeState). set rs n (record { members = own.members; state = s })) c.state_when.ensures in
    let now = book_value c.self.inside in
    let made = closed_is rs c.args.number own c.args.how item in
    let with : List Rejudging → ℕ → ℕ → Book
    = λ (x : List Rejudging) (len cap : ℕ). record { rejudgings = x; submissions = len; spare = min cap (vec_capacity c.self.inside.places) - len; reserved = now.reserved } in
    ap (λ (x : List Rejudging). with x (vec_len c.mark.new.marks) (vec_capacity c.mark.new.marks)) (rejudgings ∙ sym made)
    ∙ (ap (λ (len : ℕ). with (closed rs c.args.number c.args.how) len (vec_capacity c.mark.new.marks)) c.mark.ensures.len
    ∙ (ap (λ (cap : ℕ). with (closed rs c.args.number c.args.how) (vec_len c.self.inside.marks) cap) c.mark.ensures.capacity
    ∙ ap (λ (b : Book). with_closed b c.args.number c.args.how) c.self.view_is))
