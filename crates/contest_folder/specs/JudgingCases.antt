-- The case of each judging and test of a roster: judging j is that of submission j, and tests are numbered from 1.
use Rattle.std.specs.Prelude.{ℕ, zero, suc, List, if◌then◌else◌, Option, None, option_map, option_and_then}
use Rattle.std.specs.List.{slice_get}
use Rattle.farm_kinds.specs.declared.outcomes.Task.{Task}
use Rattle.package_folder.specs.declared.package.Test.{Test}
use Rattle.package_folder.specs.declared.package.Package.{Package}
use Rattle.package_folder.specs.declared.package.Checker.{Checker}
use Rattle.package_folder.specs.declared.package.Checker.TheVariants.{Default, Custom}
use Rattle.case_run.specs.Cases.{TestCase, Checking, ByDefault, ByProgram}
use Rattle.case_run.specs.Images.{is_image}
use Rattle.contest_folder.specs.declared.roster.Problem.{Problem}
use Rattle.contest_folder.specs.declared.roster.Submission.{Submission}
use Rattle.contest_folder.specs.RosterValue.{RosterValue}
use Rattle.contest_folder.specs.RosterShape.{problem_named}

-- what has this number, from 1
abbrev pub numbered : {A : Type 0} → List A → ℕ → Option A
numbered items zero = None
numbered items (suc i) = slice_get items i

abbrev pub checking_by : Checker → Checking
checking_by (Default flags) = ByDefault flags
checking_by (Custom image flags) = ByProgram image flags

abbrev pub case_with : List ℕ → Package → Test → TestCase
case_with image contents test = record {
  image = image;
  input = test.input;
  answer = test.answer;
  check = checking_by contents.check;
  limits = contents.limits;
}

abbrev pub case_in : List ℕ → ℕ → Problem → Option TestCase
case_in image test problem = option_map (case_with image problem.contents) (numbered problem.contents.tests test)

-- a broken submission has no cases
abbrev pub case_for : List Problem → ℕ → Submission → Option TestCase
case_for problems test submission =
    if is_image submission.image
    then option_and_then (case_in submission.image test) (problem_named problems submission.problem)
    else None

abbrev pub case_at : RosterValue → Task → Option TestCase
case_at roster task = option_and_then (case_for roster.problems task.test) (numbered roster.submissions task.judging)
