use Rattle.std.proofs.Common.{◌≡◌, ◌+◌, ℕ, List, [], ◌∷◌, ◌++◌, None, refl, sym, ap, ◌∙◌, subst, arith, rules, length, vec_len}
use Rattle.farm_model.specs.declared.records.Member.{Member}
use Rattle.farm_model.specs.declared.records.Rejudging.{Rejudging}
use Rattle.farm_model.specs.declared.records.RejudgeState.TheVariants as state
use Rattle.farm_model.specs.Rejudgings.{members_from}
use Rattle.rejudge_book.specs.Refusals.{AreKnown}
use Rattle.rejudge_book.specs.Marks.{marked_refusal, submissions_of, with_marks}
use Rattle.rejudge_book.specs.Book.{Book}
use Rattle.rejudge_book.proofs.Closing.{none_busy}
use Rattle.rejudge_book.proofs.Marking.{has_members, members_are, opened, refusal_is, submissions_from}
use Rattle.rejudge_book.proofs.book.RejudgeBook.prepare_reserved.Goals as goal
use Rattle.farm_model.specs.Rejudgings.{busy_refusal}
use Rattle.rejudge_book.specs.declared.faults.BookFault.TheVariants as fault

pub mark-requires : goal.mark-requires
mark-requires c =
    let count : c.args.self.now.submissions ≡ vec_len c.self.inside.marks = sym (ap (λ (b : Book). b.submissions) c.self.view_is) in
    let written : c.as_slice.result.now ≡ members_from c.args.first c.args.members.now c.args.olds.now = c.as_slice.ensures.value ∙ c.write_members.ensures in
    let list : c.args.members.now ≡ submissions_of c.as_slice.result.now
    = sym (ap (λ (ms : List Member). submissions_of ms) written ∙ submissions_from c.args.first c.args.members.now c.args.olds.now c.requires.paired) in
    record {
      known = members_are (vec_len c.self.inside.marks) c.as_slice.result.now (subst (λ (ss : List ℕ). AreKnown (vec_len c.self.inside.marks) ss) list (subst (λ (n : ℕ). AreKnown n c.args.members.now) count c.requires.known));
    }

pub invariant_of-self : goal.invariant_of-self
invariant_of-self c =
    let rs = c.self.inside.rejudgings.items in
    let marks = c.self.inside.marks.items in
    let list = c.args.members.now in
    let r : Rejudging = record { members = members_from c.args.first list c.args.olds.now; state = state.Open } in
    let len : c.args.self.now.submissions ≡ length marks = omega (arith, ap (λ (b : Book). b.submissions) c.self.view_is, c.self.inside.marks.ok.0) in
    let written : c.as_slice.result.now ≡ r.members = c.as_slice.ensures.value ∙ c.write_members.ensures in
    let submissions : submissions_of c.as_slice.result.now ≡ list = ap (λ (ms : List Member). submissions_of ms) written ∙ submissions_from c.args.first list c.args.olds.now c.requires.paired in
    let count : c.len.result + 1 ≡ length rs + 1 = omega (arith, c.len.ensures, c.self.inside.rejudgings.ok.0) in
    let free : marked_refusal marks list ≡ None
    = refusal_is rs marks c.args.self.now.submissions list c.self.invariant.marks c.requires.known ∙ (ap (λ (b : Book). busy_refusal fault.Busy b.rejudgings list) c.self.view_is ∙ none_busy c.args.self.now.rejudgings list c.requires.accepted) in
    let made = opened rs r marks list c.self.invariant.marks (subst (λ (n : ℕ). AreKnown n list) len c.requires.known) free refl (λ s. has_members s c.args.first list c.args.olds.now c.requires.paired) in
    let members : c.from_vec.result ≡ members_from c.args.first list c.args.olds.now = c.from_vec.ensures ∙ c.write_members.ensures in
    let rejudgings : c.push_reserved.new.self.items ≡ rs ++ r ∷ []
    = c.push_reserved.ensures.items ∙ ap (λ (ms : List Member). rs ++ (record { members = ms; state = state.Open }) ∷ []) members in
    let marked : c.mark.new.marks.items ≡ with_marks marks list (length rs + 1)
    = c.mark.ensures.marks ∙ (ap (λ (ss : List ℕ). with_marks marks ss (c.len.result + 1)) submissions ∙ ap (λ (n : ℕ). with_marks marks list n) count) in
    record {
      marks = rw (rejudgings, marked) made;
      places = c.self.invariant.places ∙ sym c.mark.ensures.len;
      blank = search rules;
    }
