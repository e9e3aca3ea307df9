use Rattle.std.proofs.Common.{ℕ, ◌≡◌, List, [], Option, take, drop, is_some}
use Rattle.farm_kinds.specs.declared.outcomes.Task.{Task}
use Rattle.farm_model.specs.State.{SettingsValue}
use Rattle.case_run.specs.Cases.{TestCase}
use Rattle.parallel_judge.specs.Hosts.{host_names}
use Rattle.parallel_judge.specs.Noting.{StillKeeps}
use Rattle.parallel_judge.specs.UnderWay.{IsUnderWay}
use Rattle.parallel_judge.proofs.judging.bring_down.Given as goal

abbrev pub invariant-loop-host : goal.invariant-loop-host
invariant-loop-host l = record {
  down : (settings : SettingsValue) (case_at : Task → Option TestCase) (cells : List ℕ) → IsUnderWay settings case_at cells [] (host_names l.hosts) l.initial.noted.farm
      → IsUnderWay settings case_at cells (take l.host (host_names l.hosts)) (drop l.host (host_names l.hosts)) l.noted.farm;
  journal : (case_at : Task → Option TestCase) → StillKeeps case_at l.initial.noted l.noted;
  kept : is_some l.noted.history ≡ is_some l.initial.noted.history;
}
