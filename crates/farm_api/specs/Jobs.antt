-- What is given to those who ask: to a host the job of a test, and to anybody the names of the contest.
use Rattle.std.specs.Prelude.{◌≡◌, ℕ, nat_le, List, [], Option, Some, None, option_map, if◌then◌else◌, codes}
use Rattle.farm_kinds.specs.declared.outcomes.Task.{Task}
use Rattle.farm_kinds.specs.declared.events.Reply.{Reply}
use Rattle.farm_kinds.specs.declared.events.Reply.TheVariants as reply
use Rattle.case_run.specs.Cases.{TestCase}
use Rattle.wire_job.specs.declared.parts.JobPart.{JobPart}
use Rattle.wire_job.specs.Writing.{job_text}
use Rattle.contest_page.specs.ViewValue.{ViewValue}

-- the submission that a reply names as that of a judging
abbrev pub owner_in : Reply → Option ℕ
owner_in (reply.Owned submission) = Some submission
owner_in r = None

-- what may be given: for the number of a submission and that of a test a case, or none; and the names of a contest
pub record Gives : Type 1 where
  pub case : ℕ → ℕ → Option TestCase → Type 0
  pub contest : ViewValue

abbrev pub no_view : ViewValue
no_view = record { problems = []; entries = [] }

-- there are no cases, and no names
abbrev pub gives_none : Gives
gives_none = record { case = λ submission test case. case ≡ None; contest = no_view }

-- The case of a submission and a test, where cases are those of tasks: a submission's cases are those of its first
-- judging, which has the submission's number. Tests have numbers up to 65,535.
abbrev pub case_of : (Task → Option TestCase) → ℕ → ℕ → Option TestCase
case_of case_at submission test =
    if nat_le test 65535 then case_at (record { judging = submission; test = test }) else None

-- what is given is that case, and none where there is none
abbrev pub IsCaseBy : (Task → Option TestCase) → ℕ → ℕ → Option TestCase → Type 0
IsCaseBy case_at submission test case = case ≡ case_of case_at submission test

-- these cases are given, and these names
abbrev pub gives_by : (Task → Option TestCase) → ViewValue → Gives
gives_by case_at view = record { case = IsCaseBy case_at; contest = view }

-- the text of so much of a judging's job
abbrev pub text_for : JobPart → ℕ → ℕ → TestCase → List ℕ
text_for p judging test c = job_text p (record { judging = judging; test = test }) c

-- the text of so much of the judging's job is that of a case which may be given; there is none where none may be
abbrev pub IsJobText : (Option TestCase → Type 0) → JobPart → ℕ → ℕ → Option (List ℕ) → Type 0
IsJobText may p judging test text =
    (case : Option TestCase) × may case × (text ≡ option_map (text_for p judging test) case)

abbrev pub no_job : List ℕ
no_job = codes "{\"reply\":\"no-job\"}"
