use Rattle.std.proofs.Common.{◌≡◌, ◌+◌, Some, rules, sym, ap, ◌∙◌, arith, get_or}
use Rattle.farm_kinds.specs.declared.events.Reply.TheVariants as reply
use Rattle.farm_model.specs.Numbered.{number_or_0}
use Rattle.farm_model.specs.State.{problem_number}
use Rattle.farm_model.specs.Refusals.{version_of}
use Rattle.farm_core.proofs.Named.{names_kept}
use Rattle.farm_core.proofs.Entering.{version_there, version_few, version_written}
use Rattle.farm_core.proofs.contest.ContestState.replace.Goals as goal

pub overflow_add-version : goal.overflow_add-version
overflow_add-version c =
    let found : problem_number c.args.self.now.problems c.args.name ≡ Some (c.in-Some.place + 1) = search rules in
    let version : version_of c.args.self.now.problems (c.in-Some.place + 1) ≡ c.index-kept.result.now.version
    = version_there c.args.self.now.problems c.in-Some.place c.index-kept.result.now (search rules) (search rules) in
    omega (arith, version_few c.args.self.now.problems c.args.name c.args.tests c.in-Some.place found c.requires.accepted)

pub returns-clause-version : goal.returns-clause-version
returns-clause-version c =
    let found : problem_number c.args.self.now.problems c.args.name ≡ Some (c.in-Some.place + 1) = search rules in
    let version : version_of c.args.self.now.problems (c.in-Some.place + 1) ≡ c.index-kept.result.now.version
    = version_there c.args.self.now.problems c.in-Some.place c.index-kept.result.now (search rules) (search rules) in
    ap (λ n. reply.Problem c.args.name (n + 1)) (sym version) ∙ ap (λ o. reply.Problem c.args.name (version_of c.args.self.now.problems (number_or_0 o) + 1)) (sym found)

pub returns-clause-done : goal.returns-clause-done
returns-clause-done c =
    let found : problem_number c.args.self.now.problems c.args.name ≡ Some (c.in-Some.place + 1) = search rules in
    version_written c.args.self.now c.args.name c.args.tests c.in-Some.place c.index-kept.result.now _ found (search rules) (search rules) (search rules)

pub invariant_of-self : goal.invariant_of-self
invariant_of-self c =
    let before = c.self.inside.problems.items in
    let kept = c.index-kept.result.now in
    let here : kept ≡ get_or before c.in-Some.place kept = search rules in
    record {
      short = search rules;
      problems = search rules;
      problem_names = c.self.invariant.problem_names ∙ sym (names_kept (λ problem. problem.name) before c.in-Some.place _ kept (ap (λ problem. problem.name) here));
      hosts = c.self.invariant.hosts;
      few_hosts = c.self.invariant.few_hosts;
      host_names = c.self.invariant.host_names;
      submissions = c.self.invariant.submissions;
      booked = c.self.invariant.booked;
      rejudgings = c.self.invariant.rejudgings;
    }
