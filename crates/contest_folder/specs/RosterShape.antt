-- What a roster keeps of its problems and submissions.
use Rattle.std.specs.Prelude.{◌≡◌, ℕ, ◌≤◌, List, length, map, find, All, Option, is_some, true}
use Rattle.std.specs.Str.{bytes_eq}
use Rattle.package_folder.specs.Order.{IsRising}
use Rattle.package_folder.specs.Package.{IsPackage}
use Rattle.contest_folder.specs.declared.roster.Problem.{Problem}
use Rattle.contest_folder.specs.declared.roster.Submission.{Submission}
use Rattle.contest_folder.specs.declared.roster.Roster.TheInside.{Inside}
use Rattle.contest_folder.specs.RosterValue.{RosterValue}

-- how many problems and submissions a contest has at most
abbrev pub problem_limit : ℕ
problem_limit = 1000

abbrev pub submission_limit : ℕ
submission_limit = 100000

abbrev pub names_of : List Problem → List (List ℕ)
names_of problems = map (λ problem. problem.name) problems

abbrev pub problem_named : List Problem → List ℕ → Option Problem
problem_named problems name = find (λ (problem : Problem). bytes_eq name problem.name) problems

-- the submission is one to a problem of these
abbrev pub IsPlaced : List Problem → Submission → Type 0
IsPlaced problems submission = is_some (problem_named problems submission.problem) ≡ true

abbrev pub roster_value : Inside → RosterValue
roster_value a = record { settings = a.settings; problems = a.problems.items; submissions = a.submissions.items }

-- The problems stand in the order of their names, of which each is there once. Each is a package, and each submission
-- is one to a problem of these.
pub record IsContest (roster : RosterValue) : Type 0 where
  pub few_problems : length roster.problems ≤ problem_limit
  pub rising : IsRising (names_of roster.problems)
  pub packages : All (λ (problem : Problem). IsPackage problem.contents) roster.problems
  pub few_submissions : length roster.submissions ≤ submission_limit
  pub placed : All (IsPlaced roster.problems) roster.submissions

abbrev pub IsRoster : Inside → Type 0
IsRoster a = IsContest (roster_value a)
