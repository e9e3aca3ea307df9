-- A made contest: what is drawn of it, in the order of the draws.
use Rattle.std.specs.Prelude.{ℕ, zero, suc, ◌+◌, ◌%◌, List, [], ◌∷◌}
use Rattle.work_maker.specs.declared.programs.Program.{Program}
use Rattle.work_maker.specs.declared.submission.Submission.{Submission as Drawn}
use Rattle.work_maker.specs.Programs.{program_numbered}
use Rattle.work_maker.specs.Draws.{next, drawn, after}

-- a problem, and the number that each of its tests has as its input
pub record MadeProblem : Type 0 where
  pub number : ℕ
  pub inputs : List ℕ

-- a submission: the number of its problem, its program, and the number of its team
pub record MadeSubmission : Type 0 where
  pub problem : ℕ
  pub program : Program
  pub team : ℕ

-- how many tests a problem has, by the state behind the draw of it
abbrev pub tests_by : ℕ → ℕ
tests_by state = 1 + drawn state % 5

-- the inputs of as many tests as the first number says, a draw for each
abbrev pub inputs_from : ℕ → ℕ → List ℕ
inputs_from zero state = []
inputs_from (suc tests) state = drawn (next state) % 1000 ∷ inputs_from tests (next state)

-- a problem, by the state behind the draw of how many tests it has
abbrev pub problem_by : ℕ → ℕ → MadeProblem
problem_by number state = record { number = number; inputs = inputs_from (tests_by state) state }

abbrev pub after_problem : ℕ → ℕ
after_problem state = after (tests_by (next state)) (next state)

-- as many problems as the first number says, of which the first one has the number `number`
abbrev pub problems_from : ℕ → ℕ → ℕ → List MadeProblem
problems_from zero number state = []
problems_from (suc more) number state =
    problem_by number (next state) ∷ problems_from more (suc number) (after_problem state)

abbrev pub after_problems : ℕ → ℕ → ℕ
after_problems zero state = state
after_problems (suc more) state = after_problems more (after_problem state)

-- a submission to one of `problems` problems: three draws
abbrev pub submission_from : ℕ → ℕ → MadeSubmission
submission_from problems state = record {
  problem = 1 + drawn (after 1 state) % problems;
  program = program_numbered (drawn (after 2 state) % 7);
  team = drawn (after 3 state) % 10;
}

abbrev pub submissions_from : ℕ → ℕ → ℕ → List MadeSubmission
submissions_from zero problems state = []
submissions_from (suc more) problems state =
    submission_from problems state ∷ submissions_from more problems (after 3 state)

-- the problems of a contest, whose number is the first state
abbrev pub made_problems : ℕ → ℕ → List MadeProblem
made_problems number problems = problems_from problems 1 number

-- its submissions, whose draws follow those of the problems
abbrev pub made_submissions : ℕ → ℕ → ℕ → List MadeSubmission
made_submissions number problems submissions = submissions_from submissions problems (after_problems problems number)

-- a submission that was drawn
abbrev pub submission_value : Drawn → MadeSubmission
submission_value drawn = record { problem = drawn.problem; program = drawn.program; team = drawn.team }
