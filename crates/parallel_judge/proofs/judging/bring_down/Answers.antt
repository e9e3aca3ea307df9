use Rattle.std.proofs.Common.{◌≤◌, ◌∙◌, arith}
use Rattle.parallel_judge.proofs.Starting.{one_more_dies, all_die}
use Rattle.parallel_judge.proofs.judging.bring_down.Goals as goal

pub loop-host-preserved : goal.loop-host-preserved
loop-host-preserved c = record {
  down = λ settings case_at cells w.
      one_more_dies settings case_at cells c.args.hosts c.loop-host.host c.host_name.result c.loop-host.noted.farm c.enter.new.self.farm c.loop-host-test.true c.host_name.ensures
      c.in_ok-enter.ensures.state (c.loop-host.invariant.down settings case_at cells w);
  journal = λ case_at settings hosts kept. c.enter.ensures.journal case_at tt settings hosts (c.loop-host.invariant.journal case_at settings hosts kept);
  kept = c.enter.ensures.kept ∙ c.loop-host.invariant.kept;
}

pub returns-clause-down : goal.returns-clause-down
returns-clause-down c settings case_at cells w =
    let end = c.loop-host-test.false in
    let all : c.args.hosts ≤ c.loop-host.host = omega (arith, end) in
    all_die settings case_at cells c.args.hosts c.loop-host.host c.loop-host.noted.farm all (c.loop-host.invariant.down settings case_at cells w)
