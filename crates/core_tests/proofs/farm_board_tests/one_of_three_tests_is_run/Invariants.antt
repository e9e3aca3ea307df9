use Rattle.std.proofs.Common.{[], Some}
use Rattle.case_run.specs.Cases.{ByDefault}
use Rattle.farm_board.specs.Trusts.{is_value_of}
use Rattle.core_tests.proofs.farm_board_tests.one_of_three_tests_is_run.Given as goal

abbrev pub ghosts-judge_three_tests : goal.ghosts-judge_three_tests
ghosts-judge_three_tests g a = record {
  admits = λ task kind. is_value_of (Some (record {
    image = a.cases.image.now;
    input = [];
    answer = [];
    check = ByDefault a.cases.flags;
    limits = record { instructions = 9; pages = 1; output = 0 };
  })) kind;
}
