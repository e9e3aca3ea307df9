use Rattle.std.proofs.Common.{ℕ, ◌≡◌, sym, ap, ◌∙◌, subst, arith, length}
use Rattle.std.proofs.lemmas.Grind.{common_steps}
use Rattle.std.specs.Vec.{with_items}
use Rattle.std.proofs.lemmas.List.{with_items_is}
use Rattle.farm_kinds.specs.declared.outcomes.How.TheVariants as how
use Rattle.rejudge_book.specs.Book.{Book}
use Rattle.farm_core.specs.FarmShape.{AreKept}
use Rattle.farm_core.proofs.Keeping.{closed_kept, length_applied}
use Rattle.farm_core.proofs.contest.ContestState.apply.Goals as goal

pub invariant_of-self : goal.invariant_of-self
invariant_of-self c =
    let a = c.self.inside in
    let new = c.make_current.new.submissions in
    let submissions = length a.submissions.items in
    let judgings = length a.judge.state.judgings in
    let count : length new ≡ submissions
    = ap length c.make_current.ensures ∙ length_applied c.deref_mut.result.now c.members_in-members.result.now ∙ ap length c.deref_mut.ensures.value in
    let all : length (with_items a.submissions new).items ≡ submissions
    = ap length (with_items_is a.submissions new (count ∙ sym a.submissions.ok.0)) ∙ count in
    let kept : AreKept submissions judgings c.close_open.new.self.rejudgings
    = subst (λ (b : Book). AreKept submissions judgings b.rejudgings) (sym c.close_open.ensures)
    (closed_kept submissions judgings a.book.rejudgings c.args.rejudging how.Applied c.self.invariant.rejudgings) in
    record {
      short = c.self.invariant.short;
      problems = c.self.invariant.problems;
      problem_names = c.self.invariant.problem_names;
      hosts = c.self.invariant.hosts;
      few_hosts = c.self.invariant.few_hosts;
      host_names = c.self.invariant.host_names;
      submissions = omega (arith, all, c.self.invariant.submissions);
      booked = ap (λ b. b.submissions) c.close_open.ensures ∙ c.self.invariant.booked ∙ sym all;
      rejudgings = subst (λ (n : ℕ). AreKept n judgings c.close_open.new.self.rejudgings) (sym all) kept;
    }

pub returns-clause-done : goal.returns-clause-done
returns-clause-done c = grind (arith, common_steps)
