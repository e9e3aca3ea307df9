use Rattle.std.proofs.Common.{◌≡◌, ◌+◌, ◌*◌, ◌≤◌, List, [], Option, All, vec_len}
use Rattle.std.specs.Vec.{vec_capacity}
use Rattle.farm_kinds.specs.declared.outcomes.Task.{Task}
use Rattle.case_run.specs.Cases.{TestCase}
use Rattle.farm_board.specs.BoardState.{BoardState}
use Rattle.farm_board.specs.declared.entries.Call.{Call}
use Rattle.parallel_judge.specs.Hosts.{share, IsBeside, IsReadyPass, pass_numbers}
use Rattle.parallel_judge.proofs.hosts.split_passes.Given as goal

abbrev pub invariant-loop-host : goal.invariant-loop-host
invariant-loop-host g l = record {
  beside : (case_at : Task → Option TestCase) (start : BoardState) (calls : List Call) → IsBeside case_at start calls [] [] l.initial.pass
      → IsBeside case_at start calls (pass_numbers l.passes.items) [] l.pass;
  ready : All (IsReadyPass l.board.id) l.passes.items;
  room : l.hosts ≤ vec_capacity l.passes;
  len : vec_len l.passes ≡ l._host;
  spare : l.pass.spare + l._host ≡ l.initial.pass.spare;
  left : l.pass.left + l._host * (share + 1) ≡ l.initial.pass.left;
  board : l.pass.board ≡ l.initial.pass.board;
}
