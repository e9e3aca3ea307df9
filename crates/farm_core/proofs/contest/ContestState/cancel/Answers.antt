use Rattle.std.proofs.Common.{ℕ, ◌≡◌, sym, ap, ◌∙◌, subst, length}
use Rattle.farm_kinds.specs.declared.outcomes.How.TheVariants as how
use Rattle.rejudge_book.specs.Book.{Book}
use Rattle.farm_core.specs.FarmShape.{AreKept}
use Rattle.farm_core.proofs.Keeping.{closed_kept}
use Rattle.farm_core.proofs.contest.ContestState.cancel.Goals as goal

pub invariant_of-self : goal.invariant_of-self
invariant_of-self c =
    let a = c.self.inside in
    let submissions = length a.submissions.items in
    let judgings = length a.judge.state.judgings in
    let count : length c.drop_judgings.new.judge.state.judgings ≡ judgings = c.drop_judgings.ensures.count in
    let kept : AreKept submissions judgings c.close_open.new.self.rejudgings
    = subst (λ (b : Book). AreKept submissions judgings b.rejudgings) (sym c.close_open.ensures)
    (closed_kept submissions judgings a.book.rejudgings c.args.rejudging how.Cancelled c.self.invariant.rejudgings) in
    record {
      short = c.self.invariant.short;
      problems = c.self.invariant.problems;
      problem_names = c.self.invariant.problem_names;
      hosts = c.self.invariant.hosts ∙ sym (ap (λ j. j.hosts) c.drop_judgings.ensures.dropped);
      few_hosts = c.self.invariant.few_hosts;
      host_names = c.self.invariant.host_names;
      submissions = c.self.invariant.submissions;
      booked = ap (λ b. b.submissions) c.close_open.ensures ∙ c.self.invariant.booked;
      rejudgings = subst (λ (n : ℕ). AreKept submissions n c.close_open.new.self.rejudgings) (sym count) kept;
    }
