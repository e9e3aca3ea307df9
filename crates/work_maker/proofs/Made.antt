-- Every made contest is one.
use Rattle.std.proofs.Common.{ℕ, zero, suc, ◌≡◌, ◌≤◌, List, [], ◌++◌, length, refl, sym, ap, ◌∙◌, subst, arith}
use Rattle.std.specs.List.{flat_map}
use Rattle.farm_tree.specs.declared.reads.TreeFile.{TreeFile}
use Rattle.work_maker.specs.Made.{made_problems, made_submissions, problems_from, after_problem, after_problems, submissions_from}
use Rattle.work_maker.specs.Files.{problem_files, submission_files, made_files}
use Rattle.work_maker.specs.Reading.{IsContestFolder}
use Rattle.work_maker.proofs.Cases.{problems_are, submissions_are, submissions_length, problem_numbered}
use Rattle.work_maker.proofs.Contests.{IsMadeContest, contest_is}

problems_length : (more number state : ℕ) → length (problems_from more number state) ≡ more
problems_length zero number state = refl
problems_length (suc more) number state = ap suc (problems_length more (suc number) (after_problem state))

made_contest : (number problems submissions : ℕ) → 1 ≤ problems → problems ≤ 50 → submissions ≤ 2000
    → IsMadeContest problems (made_problems number problems) (made_submissions number problems submissions)
made_contest number problems submissions some few few_submissions = record {
  few = few;
  are_problems = problems_are problems problems 1 number (omega arith) (omega arith);
  numbered = λ i first last. problem_numbered problems 1 number i first (omega (arith, last));
  few_made = omega (arith, few, problems_length problems 1 number);
  are_submissions = submissions_are problems submissions (after_problems problems number) some;
  few_submissions = omega (arith, few_submissions, submissions_length submissions problems (after_problems problems number));
}

pub is_read : (number problems submissions : ℕ) → 1 ≤ problems → problems ≤ 50 → submissions ≤ 2000 → IsContestFolder (made_files number problems submissions)
is_read number problems submissions some few few_submissions =
    contest_is problems (made_problems number problems) (made_submissions number problems submissions) (made_contest number problems submissions some few few_submissions)

pub files_read : (number problems submissions : ℕ) (files : List TreeFile) → 1 ≤ problems → problems ≤ 50 → submissions ≤ 2000 → files ≡ made_files number problems submissions → IsContestFolder files
files_read number problems submissions files some few few_submissions is = subst IsContestFolder (sym is) (is_read number problems submissions some few few_submissions)

-- the files, one piece behind the other
pub whole : (number problems submissions : ℕ) (none first all : List TreeFile) (state later : ℕ) → none ≡ [] → state ≡ number
    → first ≡ none ++ flat_map problem_files (problems_from problems 1 state) → later ≡ after_problems problems state
    → all ≡ first ++ submission_files (submissions_from submissions problems later) → all ≡ made_files number problems submissions
whole number problems submissions none first all state later empty begins one moved two =
    let prefix : first ≡ flat_map problem_files (problems_from problems 1 number) =
    one ∙ ap (λ fs. fs ++ flat_map problem_files (problems_from problems 1 state)) empty ∙ ap (λ s. flat_map problem_files (problems_from problems 1 s)) begins in
    two ∙ ap (λ fs. fs ++ submission_files (submissions_from submissions problems later)) prefix
    ∙ ap (λ s. flat_map problem_files (problems_from problems 1 number) ++ submission_files (submissions_from submissions problems s)) (moved ∙ ap (after_problems problems) begins)
