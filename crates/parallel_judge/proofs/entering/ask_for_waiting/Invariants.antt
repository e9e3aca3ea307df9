use Rattle.std.proofs.Common.{◌≡◌, ◌+◌, ◌++◌, ◌≤◌, List, map, take}
use Rattle.farm_kinds.specs.declared.events.Event.{Event}
use Rattle.farm_board.specs.BoardState.{BoardState}
use Rattle.farm_board.specs.Histories.{IsOpening}
use Rattle.parallel_judge.specs.Entering.{ask_event, waiting}
use Rattle.parallel_judge.specs.Hosts.{HasEntered}
use Rattle.parallel_judge.specs.Table.{named_submission}
use Rattle.parallel_judge.proofs.entering.ask_for_waiting.Given as goal

abbrev pub invariant-loop-i : goal.invariant-loop-i
invariant-loop-i g l = record {
  entered : (start : BoardState) (before : List Event) → IsOpening start → HasEntered start before l.initial.pass
      → HasEntered start (before ++ map ask_event (waiting l.roster.settings.modes 1 (map named_submission (take l.i l.roster.submissions)))) l.pass;
  left : l.initial.pass.left ≤ l.pass.left + l.i;
  board : l.pass.board ≡ l.initial.pass.board;
  spare : l.pass.spare ≡ l.initial.pass.spare;
}
