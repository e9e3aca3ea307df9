-- The names of a contest, one after another.
use Rattle.std.proofs.Common.{◌≡◌, ℕ, ◌+◌, ◌-◌, List, [], ◌∷◌, ◌++◌, Option, Some, None, length, map, take, slice_get, refl, ap, ◌∙◌, sym, arith}
use Rattle.std.specs.Prelude.{not}
use Rattle.std.specs.Option.{option_map}
use Rattle.std.proofs.lemmas.List.{map-append}
use Rattle.case_run.specs.Images.{is_image}
use Rattle.contest_folder.specs.declared.roster.Problem.{Problem}
use Rattle.contest_folder.specs.declared.roster.Submission.{Submission}
use Rattle.contest_folder.specs.declared.roster.RosterProblem.{RosterProblem}
use Rattle.contest_folder.specs.declared.roster.RosterSubmission.{RosterSubmission}
use Rattle.contest_page.specs.declared.view.SubmissionRow.{SubmissionRow}
use Rattle.parallel_judge.proofs.Rosters.{one_taken, told_submission, told_as}
use Rattle.contest_server.specs.Contest.{entry_of}

-- what is told of a problem
abbrev pub told_problem : Problem → RosterProblem
told_problem problem = record { name = problem.name; tests = length problem.contents.tests }

abbrev pub name_of : Problem → List ℕ
name_of problem = problem.name

problem_as : (xs : List Problem) (i : ℕ) (r : RosterProblem) → option_map told_problem (slice_get xs (i + 1 - 1)) ≡ Some r
    → (x : Problem) × (slice_get xs i ≡ Some x) × (told_problem x ≡ r)
problem_as xs i r told =
    let place : i + 1 - 1 ≡ i = omega arith in
    let here : option_map told_problem (slice_get xs i) ≡ Some r = ap (λ n. option_map told_problem (slice_get xs n)) (sym place) ∙ told in
    elim (slice_get xs i) as (λ (o : Option Problem). slice_get xs i ≡ o → option_map told_problem o ≡ Some r → (x : Problem) × (slice_get xs i ≡ Some x) × (told_problem x ≡ r)) [
      | None ↦ λ e seen. absurd (cc seen)
      | Some x ↦ λ e seen. (x, e, cc)
    ] refl here

-- the name of one problem more
pub one_problem_more : (xs : List Problem) (names : List (List ℕ)) (i : ℕ) (r : RosterProblem) → names ≡ map name_of (take i xs)
    → option_map told_problem (slice_get xs (i + 1 - 1)) ≡ Some r → names ++ r.name ∷ [] ≡ map name_of (take (i + 1) xs)
one_problem_more xs names i r before told =
    let x = problem_as xs i r told in
    let named : x.0.name ≡ r.name = ap (λ (y : RosterProblem). y.name) x.2 in
    sym (ap (λ ys. map name_of ys) (one_taken xs i x.0 x.1) ∙ map-append name_of (take i xs) (x.0 ∷ [])
    ∙ ap (λ (n : List ℕ). map name_of (take i xs) ++ n ∷ []) named ∙ ap (λ (ns : List (List ℕ)). ns ++ r.name ∷ []) (sym before))

-- one submission more
pub one_entry_more : (xs : List Submission) (entries : List SubmissionRow) (i : ℕ) (r : RosterSubmission) → entries ≡ map entry_of (take i xs)
    → option_map told_submission (slice_get xs (i + 1 - 1)) ≡ Some r → entries ++ (record { team = r.team; problem = r.problem }) ∷ [] ≡ map entry_of (take (i + 1) xs)
one_entry_more xs entries i r before told =
    let x = told_as xs i r told in
    let same : entry_of x.0 ≡ record { team = r.team; problem = r.problem } = ap (λ (y : RosterSubmission). let e : SubmissionRow = record { team = y.team; problem = y.problem } in e) x.2 in
    sym (ap (λ ys. map entry_of ys) (one_taken xs i x.0 x.1) ∙ map-append entry_of (take i xs) (x.0 ∷ [])
    ∙ ap (λ (e : SubmissionRow). map entry_of (take i xs) ++ e ∷ []) same ∙ ap (λ (es : List SubmissionRow). es ++ (record { team = r.team; problem = r.problem }) ∷ []) (sym before))
