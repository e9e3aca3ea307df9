use Rattle.std.proofs.Common.{◌≡◌, ◌≤◌, [], ◌∷◌, ◌++◌, rules, sym, ap, ◌∙◌, subst}
use Rattle.std.proofs.lemmas.List.Elements.{All-push}
use Rattle.farm_model.specs.declared.records.Problem.{Problem}
use Rattle.farm_model.specs.Limits.{max_tests}
use Rattle.farm_core.specs.FarmShape.{AreShort}
use Rattle.farm_model.specs.State.{problem_number}
use Rattle.farm_core.proofs.Named.{unknown_name, names_more}
use Rattle.farm_core.proofs.contest.ContestState.add_problem.Goals as goal

pub push_reserved-requires-2-clause-unknown : goal.push_reserved-requires-2-clause-unknown
push_reserved-requires-2-clause-unknown c =
    unknown_name (λ problem. problem.name) c.args.name c.self.inside.problems.items _ (c.reserve-2.ensures.names ∙ c.self.invariant.problem_names)
    (ap (λ s. problem_number s.problems c.args.name) c.self.view_is ∙ c.requires.unknown)

pub invariant_of-self-2 : goal.invariant_of-self-2
invariant_of-self-2 c =
    let before = c.self.inside.problems.items in
    let added : Problem = record { name = c.args.name; version = 1; tests = c.args.tests; mode = c.judged_mode.result; asked = c.is_asked_at_once.result } in
    let after : c.push_reserved.new.self.items ≡ before ++ added ∷ [] = search rules in
    record {
      short = subst AreShort (sym after) (All-push (λ problem. problem.tests ≤ max_tests) before added c.self.invariant.short c.requires.few_tests);
      problems = search rules;
      problem_names = names_more (λ problem. problem.name) before _ added _ _ (c.reserve-2.ensures.names ∙ c.self.invariant.problem_names) c.push_reserved-2.ensures after;
      hosts = c.self.invariant.hosts;
      few_hosts = c.self.invariant.few_hosts;
      host_names = c.self.invariant.host_names;
      submissions = c.self.invariant.submissions;
      booked = c.self.invariant.booked;
      rejudgings = c.self.invariant.rejudgings;
    }
