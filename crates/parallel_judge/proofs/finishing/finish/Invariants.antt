use Rattle.std.proofs.Common.{◌≡◌, is_some}
use Rattle.farm_model.specs.State.{SettingsValue}
use Rattle.parallel_judge.specs.Noting.{StillKeeps}
use Rattle.parallel_judge.specs.Working.{IsReady, IsHonestRun, row_lengths, unjudged}
use Rattle.parallel_judge.proofs.finishing.finish.Given as goal

abbrev pub invariant-loop : goal.invariant-loop
invariant-loop g l = record {
  ready : IsReady (g.C.Cases.case_at l.cases) l.host l.noted.farm;
  honest : (settings : SettingsValue) → IsHonestRun settings (g.C.Cases.case_at l.cases) l.initial.noted.farm
      → IsHonestRun settings (g.C.Cases.case_at l.cases) l.noted.farm;
  lengths : row_lengths l.noted.farm ≡ row_lengths l.initial.noted.farm;
  journal : StillKeeps (g.C.Cases.case_at l.cases) l.initial.noted l.noted;
  kept : is_some l.noted.history ≡ is_some l.initial.noted.history;
  cases : l.cases ≡ l.initial.cases;
  host : l.host ≡ l.initial.host;
}

abbrev pub decreases-loop : goal.decreases-loop
decreases-loop g l = unjudged l.noted.farm.judge.judgings
