use Rattle.std.proofs.Common.{◌≡◌, ◌-◌, Some, false, rules, sym, ap, ◌∙◌}
use Rattle.farm_model.specs.State.{up_number}
use Rattle.farm_model.specs.Changes.{host_as}
use Rattle.farm_core.proofs.Named.{up_there, names_kept}
use Rattle.farm_core.proofs.contest.ContestState.bring_down.Goals as goal

pub invariant_of-self : goal.invariant_of-self
invariant_of-self c =
    let name = c.args.host in
    let number = c.in-Some.number in
    let before = c.self.inside.hosts.items in
    let found : up_number before name ≡ Some number
    = ap (λ s. up_number s.hosts name) c.self.view_is ∙ sym c.up_number.ensures.number ∙ c.in-Some.is in
    let there = up_there name before number (host_as name false) found in
    record {
      short = c.self.invariant.short;
      problems = c.self.invariant.problems;
      problem_names = c.self.invariant.problem_names;
      hosts = search rules;
      few_hosts = search rules;
      host_names = c.self.invariant.host_names ∙ sym (names_kept (λ host. host.name) before (number - 1) (host_as name false) (host_as name false) (sym there));
      submissions = c.self.invariant.submissions;
      booked = c.self.invariant.booked;
      rejudgings = search rules;
    }
