-- One turn of each loop: what is still to be made has one piece less.
use Rattle.std.proofs.Common.{ℕ, suc, ◌+◌, ◌-◌, ◌<◌, ◌≡◌, List, [], ◌∷◌, ◌++◌, sym, ap, ◌∙◌, append_assoc, arith, ◌≤◌, codes, ◌%◌}
use Rattle.std.specs.List.{flat_map}
use Rattle.std.proofs.lemmas.List.{append-nil}
use Rattle.farm_tree.specs.declared.reads.TreeFile.{TreeFile}
use Rattle.work_maker.specs.Draws.{next, drawn, after}
use Rattle.work_maker.specs.Made.{MadeSubmission, tests_by, inputs_from, problem_by, after_problem, problems_from, after_problems, submission_from, submissions_from}
use Rattle.work_maker.specs.Programs.{image_of}
use Rattle.work_maker.specs.Files.{file_with, problem_path, yaml_text, limit_text, test_path, input_text, test_files, problem_files, image_path, image_files, submission_line, list_text}
use Rattle.work_maker.proofs.Appends.{moved}

-- what is left is one more than what is left behind the turn
one_less : (count at : ℕ) → at < count → count - at ≡ suc (count - (at + 1))
one_less count at below = omega (arith, below)

-- ---- the tests of a problem

-- the files of the tests that are still to be drawn
abbrev pub tests_left : ℕ → ℕ → ℕ → ℕ → List TreeFile
tests_left problem tests at state = test_files problem (at + 1) (inputs_from (tests - at) state)

test_piece : ℕ → ℕ → ℕ → List TreeFile
test_piece problem test input =
    file_with (test_path problem test (codes ".in")) (input_text input) ∷ file_with (test_path problem test (codes ".ans")) (input_text input) ∷ []

tests_are : (problem at left state : ℕ) → test_files problem (at + 1) (inputs_from (suc left) state)
    ≡ test_piece problem (at + 1) (drawn (next state) % 1000) ++ test_files problem (at + 1 + 1) (inputs_from left (next state))
unfolding test_piece
tests_are problem at left state = ap (λ n. test_piece problem (at + 1) (drawn (next state) % 1000) ++ test_files problem n (inputs_from left (next state))) (omega arith)

pub test_turn : (problem tests at state state' input : ℕ) (old new : List TreeFile) → at < tests → state' ≡ next state → input ≡ drawn state' % 1000
    → new ≡ old ++ file_with (test_path problem (at + 1) (codes ".in")) (input_text input) ∷ file_with (test_path problem (at + 1) (codes ".ans")) (input_text input) ∷ []
    → new ++ tests_left problem tests (at + 1) state' ≡ old ++ tests_left problem tests at state
unfolding test_piece
test_turn problem tests at state state' input old new below stepped drew e =
    let value : input ≡ drawn (next state) % 1000 = drew ∙ ap (λ s. drawn s % 1000) stepped in
    ap (λ s. new ++ tests_left problem tests (at + 1) s) stepped
    ∙ moved old new (test_piece problem (at + 1) (drawn (next state) % 1000)) (tests_left problem tests (at + 1) (next state)) (e ∙ ap (λ n. old ++ test_piece problem (at + 1) n) value)
    ∙ ap (λ xs. old ++ xs) (sym (ap (λ n. test_files problem (at + 1) (inputs_from n state)) (one_less tests at below) ∙ tests_are problem at (tests - (at + 1)) state))

pub draws_turn : (count at state state' : ℕ) → at < count → state' ≡ next state → after (count - (at + 1)) state' ≡ after (count - at) state
draws_turn count at state state' below stepped = ap (after (count - (at + 1))) stepped ∙ sym (ap (λ n. after n state) (one_less count at below))

-- behind the last test all the problem's files are there
pub tests_end : (problem tests at state start : ℕ) (old settled files : List TreeFile) → tests ≤ at → tests ≡ tests_by start
    → files ++ tests_left problem tests at state ≡ settled ++ tests_left problem tests 0 start
    → settled ≡ old ++ file_with (problem_path problem (codes "problem.yaml")) (yaml_text problem) ∷ file_with (problem_path problem (codes "domjudge-problem.ini")) limit_text ∷ []
    → files ≡ old ++ problem_files (problem_by problem start)
tests_end problem tests at state start old settled files past count whole settings =
    let none : tests - at ≡ 0 = omega (arith, past) in
    let all : tests - 0 ≡ tests = omega arith in
    sym (append-nil files) ∙ sym (ap (λ n. files ++ test_files problem (at + 1) (inputs_from n state)) none) ∙ whole
    ∙ ap (λ n. settled ++ test_files problem 1 (inputs_from n start)) (all ∙ count)
    ∙ ap (λ xs. xs ++ test_files problem 1 (inputs_from (tests_by start) start)) settings
    ∙ append_assoc old _ (test_files problem 1 (inputs_from (tests_by start) start))

-- ---- the problems

-- the files of the problems that are still to be drawn
abbrev pub problems_left : ℕ → ℕ → ℕ → List TreeFile
problems_left problems at state = flat_map problem_files (problems_from (problems - at) (at + 1) state)

pub problem_turn : (problems at state state' : ℕ) (old new : List TreeFile) → at < problems → state' ≡ after_problem state → new ≡ old ++ problem_files (problem_by (at + 1) (next state))
    → new ++ problems_left problems (at + 1) state' ≡ old ++ problems_left problems at state
problem_turn problems at state state' old new below stepped e =
    let one : suc (at + 1) ≡ at + 1 + 1 = omega arith in
    ap (λ s. new ++ problems_left problems (at + 1) s) stepped
    ∙ moved old new (problem_files (problem_by (at + 1) (next state))) (problems_left problems (at + 1) (after_problem state)) e
    ∙ ap (λ n. old ++ (problem_files (problem_by (at + 1) (next state)) ++ flat_map problem_files (problems_from (problems - (at + 1)) n (after_problem state)))) (sym one)
    ∙ ap (λ n. old ++ flat_map problem_files (problems_from n (at + 1) state)) (sym (one_less problems at below))

pub state_turn : (problems at state state' : ℕ) → at < problems → state' ≡ after_problem state → after_problems (problems - (at + 1)) state' ≡ after_problems (problems - at) state
state_turn problems at state state' below stepped = ap (after_problems (problems - (at + 1))) stepped ∙ sym (ap (λ n. after_problems n state) (one_less problems at below))

-- ---- the submissions

-- the images of the submissions that are still to be drawn, and their lines
abbrev pub images_left : ℕ → ℕ → ℕ → ℕ → List TreeFile
images_left problems submissions at state = image_files (at + 1) (submissions_from (submissions - at) problems state)

abbrev pub lines_left : ℕ → ℕ → ℕ → ℕ → List ℕ
lines_left problems submissions at state = list_text (at + 1) (submissions_from (submissions - at) problems state)

pub image_turn : (problems submissions at state state' : ℕ) (made : MadeSubmission) (old new : List TreeFile) → at < submissions → state' ≡ after 3 state → made ≡ submission_from problems state
    → new ≡ old ++ file_with (image_path (at + 1)) (image_of made.program) ∷ []
    → new ++ images_left problems submissions (at + 1) state' ≡ old ++ images_left problems submissions at state
image_turn problems submissions at state state' made old new below stepped is e =
    let one : suc (at + 1) ≡ at + 1 + 1 = omega arith in
    let piece : List TreeFile = file_with (image_path (at + 1)) (image_of (submission_from problems state).program) ∷ [] in
    ap (λ s. new ++ images_left problems submissions (at + 1) s) stepped
    ∙ moved old new piece (images_left problems submissions (at + 1) (after 3 state)) (e ∙ ap (λ (s : MadeSubmission). old ++ file_with (image_path (at + 1)) (image_of s.program) ∷ []) is)
    ∙ ap (λ n. old ++ (piece ++ image_files n (submissions_from (submissions - (at + 1)) problems (after 3 state)))) (sym one)
    ∙ ap (λ n. old ++ image_files (at + 1) (submissions_from n problems state)) (sym (one_less submissions at below))

pub line_turn : (problems submissions at state state' : ℕ) (made : MadeSubmission) (old new : List ℕ) → at < submissions → state' ≡ after 3 state → made ≡ submission_from problems state
    → new ≡ old ++ submission_line (at + 1) made
    → new ++ lines_left problems submissions (at + 1) state' ≡ old ++ lines_left problems submissions at state
line_turn problems submissions at state state' made old new below stepped is e =
    let one : suc (at + 1) ≡ at + 1 + 1 = omega arith in
    let piece : List ℕ = submission_line (at + 1) (submission_from problems state) in
    ap (λ s. new ++ lines_left problems submissions (at + 1) s) stepped
    ∙ moved old new piece (lines_left problems submissions (at + 1) (after 3 state)) (e ∙ ap (λ (s : MadeSubmission). old ++ submission_line (at + 1) s) is)
    ∙ ap (λ n. old ++ (piece ++ list_text n (submissions_from (submissions - (at + 1)) problems (after 3 state)))) (sym one)
    ∙ ap (λ n. old ++ list_text (at + 1) (submissions_from n problems state)) (sym (one_less submissions at below))
