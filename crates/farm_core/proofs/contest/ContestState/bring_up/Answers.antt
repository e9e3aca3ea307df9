use Rattle.std.proofs.Common.{◌≡◌, Some, true, rules, sym, ap, ◌∙◌}
use Rattle.std.specs.List.{position}
use Rattle.std.specs.Str.{bytes_eq}
use Rattle.farm_model.specs.Changes.{host_as}
use Rattle.farm_core.proofs.Named.{name_there, names_kept}
use Rattle.farm_core.proofs.Entering.{host_back, host_full, host_added}
use Rattle.farm_core.proofs.contest.ContestState.bring_up.Goals as goal

pub returns-in-Some : goal.returns-in-Some
returns-in-Some c = host_back c.args.self.now c.args.name c.in-Some.place _ (search rules) (search rules) (search rules)

pub returns-then-len : goal.returns-then-len
returns-then-len c = host_full c.args.self.now c.args.name (search rules) (search rules) (search rules)

pub returns-in-Ok : goal.returns-in-Ok
returns-in-Ok c = host_added c.args.self.now c.args.name c.add_host.new.self (search rules) (search rules) (search rules) (search rules)

pub invariant_of-self : goal.invariant_of-self
invariant_of-self c =
    let name = c.args.name in
    let before = c.self.inside.hosts.items in
    let found : position (λ host. bytes_eq host.name name) before ≡ Some c.in-Some.place
    = ap (λ s. position (λ host. bytes_eq host.name name) s.hosts) c.self.view_is ∙ sym c.host_place.ensures.place ∙ c.in-Some.is in
    let there = name_there (λ host. host.name) name before c.in-Some.place (host_as name true) found in
    record {
      short = c.self.invariant.short;
      problems = c.self.invariant.problems;
      problem_names = c.self.invariant.problem_names;
      hosts = search rules;
      few_hosts = search rules;
      host_names = c.self.invariant.host_names ∙ sym (names_kept (λ host. host.name) before c.in-Some.place (host_as name true) (host_as name true) (sym there));
      submissions = c.self.invariant.submissions;
      booked = c.self.invariant.booked;
      rejudgings = c.self.invariant.rejudgings;
    }
