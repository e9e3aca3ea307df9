-- The table of a contest: what running every test in rank order on one thread gives.
use Rattle.std.specs.Prelude.{ℕ, List, map, length, not, if◌then◌else◌}
use Rattle.std.specs.Option.{option_map}
use Rattle.std.specs.List.{enumerate_from}
use Rattle.farm_kinds.specs.declared.outcomes.Verdict.{Verdict}
use Rattle.farm_kinds.specs.declared.outcomes.TableRow.{TableRow}
use Rattle.farm_kinds.specs.declared.events.Event.{Event}
use Rattle.farm_model.specs.Numbered.{number_or_0}
use Rattle.farm_model.specs.Replay.{one_thread_verdict}
use Rattle.contest_folder.specs.declared.roster.Problem.{Problem}
use Rattle.contest_folder.specs.declared.roster.Submission.{Submission}
use Rattle.contest_folder.specs.RosterValue.{RosterValue}
use Rattle.contest_folder.specs.RosterShape.{problem_named}
use Rattle.contest_folder.specs.JudgingCases.{case_at}
use Rattle.case_run.specs.Images.{is_image}
use Rattle.parallel_judge.specs.Entering.{NamedProblem, NamedSubmission, contest_events}
use Rattle.parallel_judge.specs.Working.{truth_of}

abbrev pub named_problem : Problem → NamedProblem
named_problem problem = record { name = problem.name; tests = length problem.contents.tests }

abbrev pub named_submission : Submission → NamedSubmission
named_submission submission = record { problem = submission.problem; broken = not (is_image submission.image) }

-- the events by which a contest enters a farm
abbrev pub roster_events : RosterValue → List Event
roster_events roster =
    contest_events roster.settings.modes (map named_problem roster.problems) (map named_submission roster.submissions)

-- how many tests a submission is judged by: those of its problem, or none where it is broken
abbrev pub tests_for : RosterValue → Submission → ℕ
tests_for roster submission =
    if is_image submission.image
    then number_or_0 (option_map (λ (problem : Problem). length problem.contents.tests)
    (problem_named roster.problems submission.problem))
    else 0

-- what running the tests of the submission of this number gives
abbrev pub verdict_for : RosterValue → ℕ → Submission → Verdict
verdict_for roster number submission =
    one_thread_verdict roster.settings.rule (truth_of (case_at roster)) number (tests_for roster submission)

abbrev pub row_for : RosterValue → ℕ × Submission → TableRow
row_for roster p = record { number = p.0; team = p.1.team; problem = p.1.problem; verdict = verdict_for roster p.0 p.1 }

-- a row for each submission in order
unfoldable pub table_rows : RosterValue → List TableRow
table_rows roster = map (row_for roster) (enumerate_from 1 roster.submissions)
