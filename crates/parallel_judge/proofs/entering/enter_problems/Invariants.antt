use Rattle.std.proofs.Common.{◌≡◌, ◌+◌, ◌++◌, List, map, take}
use Rattle.farm_kinds.specs.declared.events.Event.{Event}
use Rattle.farm_board.specs.BoardState.{BoardState}
use Rattle.farm_board.specs.Histories.{IsOpening}
use Rattle.parallel_judge.specs.Entering.{problem_event}
use Rattle.parallel_judge.specs.Hosts.{HasEntered}
use Rattle.parallel_judge.specs.Table.{named_problem}
use Rattle.parallel_judge.proofs.entering.enter_problems.Given as goal

abbrev pub invariant-loop-i : goal.invariant-loop-i
invariant-loop-i g l = record {
  entered : (start : BoardState) (before : List Event) → IsOpening start → HasEntered start before l.initial.pass
      → HasEntered start (before ++ map problem_event (map named_problem (take l.i l.roster.problems))) l.pass;
  left : l.pass.left + l.i ≡ l.initial.pass.left;
  board : l.pass.board ≡ l.initial.pass.board;
  spare : l.pass.spare ≡ l.initial.pass.spare;
}
