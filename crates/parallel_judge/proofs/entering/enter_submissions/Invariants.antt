use Rattle.std.proofs.Common.{◌≡◌, ◌+◌, ◌++◌, List, map, take}
use Rattle.farm_kinds.specs.declared.events.Event.{Event}
use Rattle.farm_board.specs.BoardState.{BoardState}
use Rattle.farm_board.specs.Histories.{IsOpening}
use Rattle.parallel_judge.specs.Entering.{submission_event}
use Rattle.parallel_judge.specs.Hosts.{HasEntered}
use Rattle.parallel_judge.specs.Table.{named_submission}
use Rattle.parallel_judge.proofs.entering.enter_submissions.Given as goal

abbrev pub invariant-loop-i : goal.invariant-loop-i
invariant-loop-i g l = record {
  entered : (start : BoardState) (before : List Event) → IsOpening start → HasEntered start before l.initial.pass
      → HasEntered start (before ++ map submission_event (map named_submission (take l.i l.roster.submissions))) l.pass;
  left : l.pass.left + l.i ≡ l.initial.pass.left;
  board : l.pass.board ≡ l.initial.pass.board;
  spare : l.pass.spare ≡ l.initial.pass.spare;
}
