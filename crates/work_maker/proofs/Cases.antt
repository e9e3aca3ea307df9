-- What holds of each file of a made contest.
use Rattle.std.proofs.Common.{ℕ, zero, suc, ◌≡◌, ◌≢◌, ◌+◌, ◌<◌, ◌≤◌, ◌%◌, mod-lt, List, [], ◌∷◌, ◌++◌, length, refl, ap, arith, codes, inl, inr}
use Rattle.std.specs.List.{flat_map}
use Rattle.std.proofs.lemmas.Bool.{cases_lt}
use Rattle.farm_tree.specs.declared.reads.TreeFile.{TreeFile}
use Rattle.work_maker.specs.declared.programs.Program.{Program}
use Rattle.work_maker.specs.Draws.{next, drawn, after}
use Rattle.work_maker.specs.Made.{MadeProblem, MadeSubmission, tests_by, inputs_from, problem_by, after_problem, problems_from, submissions_from}
use Rattle.work_maker.specs.Programs.{image_of}
use Rattle.work_maker.specs.Files.{file_with, problem_path, test_path, yaml_text, limit_text, input_text, test_files, problem_files, image_path, image_files, list_path, list_text, files_with}
use Rattle.work_maker.proofs.Each.{Each, each_both, each_flat}
use Rattle.work_maker.proofs.Listed.{IsMade}

-- a problem of a contest with `problems` problems
pub record IsProblem (problems : ℕ) (made : MadeProblem) : Type 0 where
  pub first : 1 ≤ made.number
  pub last : made.number ≤ problems
  pub some : 1 ≤ length made.inputs
  pub few : length made.inputs ≤ 5
  pub small : Each (λ n. n < 1000) made.inputs

-- ---- what is drawn

inputs_length : (tests state : ℕ) → length (inputs_from tests state) ≡ tests
inputs_length zero state = refl
inputs_length (suc tests) state = ap suc (inputs_length tests (next state))

inputs_small : (tests state : ℕ) → Each (λ n. n < 1000) (inputs_from tests state)
inputs_small zero state = tt
inputs_small (suc tests) state = (omega arith, inputs_small tests (next state))

pub problems_are : (problems more number state : ℕ) → 1 ≤ number → number + more ≤ problems + 1 → Each (IsProblem problems) (problems_from more number state)
problems_are problems zero number state first last = tt
problems_are problems (suc more) number state first last =
    let count = inputs_length (tests_by (next state)) (next state) in (
      record {
        first = first;
        last = omega (arith, last);
        some = omega (arith, count);
        few = omega (arith, count);
        small = inputs_small (tests_by (next state)) (next state);
      },
      problems_are problems more (suc number) (after_problem state) (omega (arith, first)) (omega (arith, last)),
    )

pub submissions_are : (problems more state : ℕ) → 1 ≤ problems → Each (IsMade problems) (submissions_from more problems state)
submissions_are problems zero state some = tt
submissions_are problems (suc more) state some =
    let rest : drawn (after 1 state) % problems < problems = mod-lt (drawn (after 1 state)) (omega (arith, some)) in
    (record { first = omega arith; last = omega (arith, rest); team = omega arith }, submissions_are problems more (after 3 state) some)

pub submissions_length : (more problems state : ℕ) → length (submissions_from more problems state) ≡ more
submissions_length zero problems state = refl
submissions_length (suc more) problems state = ap suc (submissions_length more problems (after 3 state))

-- the problem of this number, and the others
pub record HasProblem (made : List MadeProblem) (number : ℕ) : Type 0 where
  pub before : List MadeProblem
  pub problem : MadeProblem
  pub behind : List MadeProblem
  pub is : made ≡ before ++ problem ∷ behind
  pub numbered : problem.number ≡ number
  pub before_other : Each (λ (other : MadeProblem). number ≢ other.number) before
  pub behind_other : Each (λ (other : MadeProblem). number ≢ other.number) behind

later_differ : (more first state number : ℕ) → number < first → Each (λ (other : MadeProblem). number ≢ other.number) (problems_from more first state)
later_differ zero first state number less = tt
later_differ (suc more) first state number less =
    ((λ e. absurd (omega (arith, less, e))), later_differ more (suc first) (after_problem state) number (omega (arith, less)))

pub problem_numbered : (more first state number : ℕ) → first ≤ number → number < first + more → HasProblem (problems_from more first state) number
problem_numbered zero first state number low high = absurd (omega (arith, low, high))
problem_numbered (suc more) first state number low high =
    elim (cases_lt first number) [
      | inl less ↦ let rest = problem_numbered more (suc first) (after_problem state) number (omega (arith, less)) (omega (arith, high)) in record {
        before = problem_by first (next state) ∷ rest.before;
        problem = rest.problem;
        behind = rest.behind;
        is = ap (λ ps. problem_by first (next state) ∷ ps) rest.is;
        numbered = rest.numbered;
        before_other = ((λ e. absurd (omega (arith, less, e))), rest.before_other);
        behind_other = rest.behind_other;
      }
      | inr not_less ↦ let here : first ≡ number = omega (arith, low, not_less) in record {
        before = [];
        problem = problem_by first (next state);
        behind = problems_from more (suc first) (after_problem state);
        is = refl;
        numbered = here;
        before_other = tt;
        behind_other = later_differ more (suc first) (after_problem state) number (omega (arith, here));
      }
    ]

-- ---- files

-- a fact of each kind of file, but for the list of the submissions
pub record Cases (problems : ℕ) (P : TreeFile → Type 0) : Type 0 where
  pub yaml : (i : ℕ) → 1 ≤ i → i ≤ problems → P (file_with (problem_path i (codes "problem.yaml")) (yaml_text i))
  pub limit : (i : ℕ) → 1 ≤ i → i ≤ problems → P (file_with (problem_path i (codes "domjudge-problem.ini")) limit_text)
  pub input : (i k n : ℕ) → 1 ≤ i → i ≤ problems → k ≤ 5 → n < 1000 → P (file_with (test_path i k (codes ".in")) (input_text n))
  pub answer : (i k n : ℕ) → 1 ≤ i → i ≤ problems → k ≤ 5 → n < 1000 → P (file_with (test_path i k (codes ".ans")) (input_text n))
  pub image : (s : ℕ) (program : Program) → s ≤ 2000 → P (file_with (image_path s) (image_of program))

module _ (problems : ℕ) (P : TreeFile → Type 0) (cases : Cases problems P) where
  each_test : (i k : ℕ) (inputs : List ℕ) → 1 ≤ i → i ≤ problems → k + length inputs ≤ 6 → Each (λ n. n < 1000) inputs → Each P (test_files i k inputs)
  each_test i k [] first last few small = tt
  each_test i k (n ∷ inputs) first last few small = (
    cases.input i k n first last (omega (arith, few)) small.0,
    (cases.answer i k n first last (omega (arith, few)) small.0, each_test i (suc k) inputs first last (omega (arith, few)) small.1),
  )

  each_problem : (made : MadeProblem) → IsProblem problems made → Each P (problem_files made)
  each_problem made is =
      (cases.yaml made.number is.first is.last, (cases.limit made.number is.first is.last, each_test made.number 1 made.inputs is.first is.last (omega (arith, is.few)) is.small))

  pub each_problem_file : (made : List MadeProblem) → Each (IsProblem problems) made → Each P (flat_map problem_files made)
  each_problem_file made are = each_flat (IsProblem problems) P problem_files made each_problem are

  pub each_image : (s : ℕ) (submissions : List MadeSubmission) → s + length submissions ≤ 2001 → Each P (image_files s submissions)
  each_image s [] few = tt
  each_image s (submission ∷ submissions) few = (cases.image s submission.program (omega (arith, few)), each_image (suc s) submissions (omega (arith, few)))

  pub each_file : (made : List MadeProblem) (submissions : List MadeSubmission) → Each (IsProblem problems) made → 1 + length submissions ≤ 2001
      → P (file_with list_path (list_text 1 submissions)) → Each P (files_with made submissions)
  each_file made submissions are few list =
      each_both P (flat_map problem_files made) _ (each_problem_file made are)
      (each_both P (image_files 1 submissions) _ (each_image 1 submissions few) (list, tt))
