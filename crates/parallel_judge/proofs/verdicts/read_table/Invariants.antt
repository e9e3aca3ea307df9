use Rattle.std.proofs.Common.{◌≡◌, Option, map, take, is_some}
use Rattle.std.specs.List.{enumerate_from}
use Rattle.farm_kinds.specs.declared.outcomes.Task.{Task}
use Rattle.case_run.specs.Cases.{TestCase}
use Rattle.parallel_judge.specs.Noting.{StillKeeps}
use Rattle.parallel_judge.specs.Table.{row_for}
use Rattle.parallel_judge.proofs.verdicts.read_table.Given as goal

abbrev pub invariant-loop-i : goal.invariant-loop-i
invariant-loop-i l = record {
  rows : l.rows ≡ map (row_for l.roster) (take l.i (enumerate_from 1 l.roster.submissions));
  farm : l.noted.farm ≡ l.initial.noted.farm;
  journal : (case_at : Task → Option TestCase) → StillKeeps case_at l.initial.noted l.noted;
  kept : is_some l.noted.history ≡ is_some l.initial.noted.history;
}
