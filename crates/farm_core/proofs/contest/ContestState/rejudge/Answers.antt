use Rattle.std.proofs.Common.{◌≡◌, ◌+◌, ◌≤◌, List, rules, sym, ap, ◌∙◌, subst, arith, length}
use Rattle.std.proofs.lemmas.List.{length-map}
use Rattle.farm_model.specs.declared.records.Rejudging.{Rejudging}
use Rattle.farm_model.specs.State.{State, current_of}
use Rattle.rejudge_book.specs.Refusals.{AreKnown}
use Rattle.rejudge_book.specs.Book.{Book}
use Rattle.farm_core.specs.FarmShape.{AreKept}
use Rattle.farm_core.proofs.Keeping.{prepared_kept}
use Rattle.farm_core.proofs.contest.ContestState.rejudge.Goals as goal

pub invariant_of-self-2 : goal.invariant_of-self-2
invariant_of-self-2 c =
    let a = c.self.inside in
    let list = c.args.list.now in
    let submissions = length a.submissions.items in
    let judgings = length a.judge.state.judgings in
    let judge : length c.reserve.new.self.state.judgings ≡ judgings = search rules in
    let count : length c.add_judgings.new.judge.state.judgings ≡ judgings + length list = omega (arith, c.add_judgings.ensures.count, judge) in
    let next : c.judgings.result + 1 ≡ judgings + 1 = search rules in
    let room : judgings + length list ≤ 400000 = subst (λ (s : State). length s.judge.judgings + length list ≤ 400000) (sym c.self.view_is) c.requires.room in
    let known : AreKnown submissions list = subst (λ (s : State). AreKnown (length s.submissions) list) (sym c.self.view_is) c.requires.known in
    record {
      short = c.self.invariant.short;
      problems = c.self.invariant.problems;
      problem_names = c.self.invariant.problem_names;
      hosts = search rules;
      few_hosts = c.self.invariant.few_hosts;
      host_names = c.self.invariant.host_names;
      submissions = c.self.invariant.submissions;
      booked = search rules;
      rejudgings = subst (λ (b : Book). AreKept submissions (length c.add_judgings.new.judge.state.judgings) b.rejudgings) (sym c.prepare_reserved-number.ensures.prepared)
          (prepared_kept submissions judgings (length c.add_judgings.new.judge.state.judgings) (c.judgings.result + 1) c.reserve_members.new.self.rejudgings list c.as_slice.result.now
          (subst (λ (rs : List Rejudging). AreKept submissions judgings rs) (sym c.reserve_members.ensures.rejudgings) c.self.invariant.rejudgings) known next count (omega arith));
    }

pub prepare_reserved-number-requires-clause-paired : goal.prepare_reserved-number-requires-clause-paired
prepare_reserved-number-requires-clause-paired c =
    sym (ap length c.as_slice.ensures.value ∙ ap length c.in_ok-olds.ensures ∙ length-map c.args.list.now (current_of c.deref.result.now))
