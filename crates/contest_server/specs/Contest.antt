-- How a contest enters the farm that is served.
use Rattle.std.specs.Prelude.{ℕ, ◌+◌, List, ◌++◌, map}
use Rattle.farm_kinds.specs.declared.events.Event.{Event}
use Rattle.contest_folder.specs.RosterValue.{RosterValue}
use Rattle.contest_folder.specs.declared.roster.Problem.{Problem}
use Rattle.contest_folder.specs.declared.roster.Submission.{Submission}
use Rattle.contest_page.specs.declared.view.SubmissionRow.{SubmissionRow}
use Rattle.contest_page.specs.ViewValue.{ViewValue}
use Rattle.parallel_judge.specs.Entering.{problem_event, submission_event}
use Rattle.parallel_judge.specs.Table.{named_problem, named_submission}

-- its problems, and then its submissions, each in order; nothing is asked for
abbrev pub entering_events : RosterValue → List Event
entering_events roster =
    map problem_event (map named_problem roster.problems)
    ++ map submission_event (map named_submission roster.submissions)

-- whose a submission is, and to which problem
abbrev pub entry_of : Submission → SubmissionRow
entry_of submission = record { team = submission.team; problem = submission.problem }

-- the names that anybody is shown
abbrev pub view_of : RosterValue → ViewValue
view_of roster = record {
  problems = map (λ (problem : Problem). problem.name) roster.problems;
  entries = map entry_of roster.submissions;
}

-- how many connections that came may not be given back yet, where at most `lanes` are served at the same time: beside
-- these, those that have ended and wait for their line, because one that came before them is still being served
abbrev pub open_limit : ℕ → ℕ
open_limit lanes = 8192 + lanes

-- how many passes of the board may be out: one for each of them, that of the feed, and the one by which the contest enters
abbrev pub seats : ℕ → ℕ
seats lanes = open_limit lanes + 2
