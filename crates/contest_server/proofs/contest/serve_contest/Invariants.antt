use Rattle.std.proofs.Common.{false}
use Rattle.farm_model.specs.State.{start}
use Rattle.farm_board.specs.Histories.{opening_board}
use Rattle.contest_server.specs.Contest.{seats}
use Rattle.contest_server.proofs.contest.serve_contest.Given as goal

abbrev pub ghosts-serve_named : goal.ghosts-serve_named
ghosts-serve_named g a = record {
  board = a.ground.now.board.now.id;
  start = opening_board (start a.ground.now.cases.now.roster.now.settings) (seats a.ground.now.workers) false;
  number = a.own.number;
}
