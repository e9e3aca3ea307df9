-- What the run of a test gives (DOMjudge manual, "Judging": the results of a test; Kattis problem package format,
-- legacy, "Output Validators": exit codes 42 and 43).
use Rattle.std.specs.Prelude.{ℕ, List, [], ◌∷◌, None, Some, Bool, true, false, if◌then◌else◌, ◌==◌}
use Rattle.farm_kinds.specs.declared.kinds.Kind.{Kind}
use Rattle.farm_kinds.specs.declared.kinds.Kind.TheVariants as kind
use Rattle.farm_kinds.specs.declared.Limits.{Limits}
use Rattle.default_validator.specs.Accepts.{accepts_of}
use Rattle.rv_machine.specs.declared.ending.Ending.{Ending}
use Rattle.rv_machine.specs.declared.ending.Ending.TheVariants as ending
use Rattle.rv_machine.specs.Inputs.{Inputs}
use Rattle.rv_machine.specs.Stepping.{Finish, run_of}
use Rattle.case_run.specs.Cases.{Checking, ByDefault, ByProgram, TestCase}
use Rattle.case_run.specs.Images.{run_of_image}

-- what a program reads that is no validator
abbrev pub program_inputs : List ℕ → Inputs
program_inputs input = record { stdin = input; extra = None }

-- a validator reads the output as its standard input, and the input, the answer and the flags at descriptors 3, 4 and 5
abbrev pub validator_inputs : List ℕ → List ℕ → List ℕ → List ℕ → Inputs
validator_inputs output input answer flags =
    record { stdin = output; extra = Some (record { input = input; answer = answer; flags = flags }) }

-- what a validator's run may use
abbrev pub validator_limits : Limits
validator_limits = record { instructions = 100000000; pages = 16384; output = 8388608 }

-- an output that is not accepted
abbrev pub rejected : List ℕ → Kind
rejected [] = kind.NoOutput
rejected (b ∷ output) = kind.WrongAnswer

abbrev pub judged : List ℕ → Bool → Kind
judged output true = kind.Correct
judged output false = rejected output

-- a validator accepts with 42 and rejects with 43, and says nothing of the output by any other ending
abbrev pub exit_judges : List ℕ → ℕ → Kind
exit_judges output code =
    if code == 42 then judged output true else if code == 43 then judged output false else kind.JudgingError

abbrev pub ending_judges : List ℕ → Ending → Kind
ending_judges output (ending.Exit code) = exit_judges output code
ending_judges output (ending.Trap trap) = kind.JudgingError
ending_judges output ending.Time = kind.JudgingError
ending_judges output ending.Memory = kind.JudgingError
ending_judges output ending.Output = kind.JudgingError

abbrev pub validator_run : List ℕ → List ℕ → List ℕ → List ℕ → List ℕ → Finish
validator_run image flags input answer output =
    run_of image validator_limits (validator_inputs output input answer flags)

abbrev pub output_judged : Checking → List ℕ → List ℕ → List ℕ → Kind
output_judged (ByDefault flags) input answer output = judged output (accepts_of flags answer output)
output_judged (ByProgram image flags) input answer output =
    ending_judges output (validator_run image flags input answer output).ending

-- what a run gives: its output is looked at only where the program exits with 0
abbrev pub exit_gives : TestCase → List ℕ → ℕ → Kind
exit_gives c output code = if code == 0 then output_judged c.check c.input c.answer output else kind.RunError

abbrev pub ending_gives : TestCase → List ℕ → Ending → Kind
ending_gives c output (ending.Exit code) = exit_gives c output code
ending_gives c output (ending.Trap trap) = kind.RunError
ending_gives c output ending.Time = kind.TimeLimit
ending_gives c output ending.Memory = kind.MemoryLimit
ending_gives c output ending.Output = kind.OutputLimit

abbrev pub run_gives : TestCase → Finish → Kind
run_gives c run = ending_gives c run.state.output run.ending

-- the kind that the test gives
unfoldable pub case_value : TestCase → Kind
case_value c = run_gives c (run_of_image c.image c.limits (program_inputs c.input))
