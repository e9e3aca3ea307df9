use Rattle.std.proofs.Common.{ℕ, ◌≡◌, ◌+◌, ◌≤◌, ◌++◌, List, Option, All, length}
use Rattle.farm_kinds.specs.declared.outcomes.Task.{Task}
use Rattle.case_run.specs.Cases.{TestCase}
use Rattle.farm_board.specs.BoardState.{BoardState}
use Rattle.farm_board.specs.Histories.{IsOpening}
use Rattle.farm_board.specs.Passes.{PassValue}
use Rattle.farm_board.specs.declared.entries.Call.{Call}
use Rattle.parallel_judge.specs.Hosts.{IsBeside, IsDonePass, pass_numbers}
use Rattle.parallel_judge.proofs.hosts.join_passes.Given as goal

abbrev pub invariant-loop-from : goal.invariant-loop-from
invariant-loop-from g l = record {
  beside : (case_at : Task → Option TestCase) (start : BoardState) (calls : List Call) (split joined : List ℕ) → IsOpening start
      → All (IsDonePass case_at l.board.id) l.yielded → IsBeside case_at start calls split joined l.initial.pass
      → IsBeside case_at start calls split (joined ++ pass_numbers l.yielded) l.pass;
  spare : All (λ (from : PassValue). from.spare ≡ 0) l.yielded → l.pass.spare ≡ l.initial.pass.spare + length l.yielded;
  board : l.pass.board ≡ l.initial.pass.board;
  left : l.initial.pass.left ≤ l.pass.left + length l.yielded;
}
