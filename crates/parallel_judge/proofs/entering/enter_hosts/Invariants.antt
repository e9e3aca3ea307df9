use Rattle.std.proofs.Common.{◌≡◌, ◌+◌, ◌++◌, List, map}
use Rattle.farm_kinds.specs.declared.events.Event.{Event}
use Rattle.farm_kinds.specs.declared.events.Event.TheVariants as event
use Rattle.farm_board.specs.BoardState.{BoardState}
use Rattle.farm_board.specs.Histories.{IsOpening}
use Rattle.parallel_judge.specs.Hosts.{HasEntered, host_names}
use Rattle.parallel_judge.proofs.entering.enter_hosts.Given as goal

abbrev pub invariant-loop-host : goal.invariant-loop-host
invariant-loop-host g l = record {
  entered : (start : BoardState) (before : List Event) → IsOpening start → HasEntered start before l.initial.pass
      → HasEntered start (before ++ map event.Host (host_names l.host)) l.pass;
  left : l.pass.left + l.host ≡ l.initial.pass.left;
  board : l.pass.board ≡ l.initial.pass.board;
  spare : l.pass.spare ≡ l.initial.pass.spare;
}
