-- Which files of a made contest are tests of a problem, and what they hold.
use Rattle.std.proofs.Common.{ℕ, suc, ◌≡◌, ◌≢◌, ◌≤◌, List, [], ◌∷◌, ◌++◌, Bool, true, false, cond, length, map, filter, is_some, refl, ap, ◌∙◌, subst, arith, codes, append_assoc}
use Rattle.std.specs.Fmt.{decimal}
use Rattle.std.specs.List.{flat_map}
use Rattle.std.proofs.lemmas.List.{append-nil, map-append}
use Rattle.std.proofs.lemmas.List.Elements.{filter-append}
use Rattle.std.proofs.lemmas.Fmt.{decimal_injective}
use Rattle.std.proofs.lemmas.Grind.{flat_map-append}
use Rattle.farm_tree.specs.declared.reads.TreeFile.{TreeFile}
use Rattle.farm_tree.specs.Listing.{below}
use Rattle.package_folder.specs.Names.{is_below, paths_below, input_path, answer_path}
use Rattle.package_folder.specs.Order.{in_order}
use Rattle.work_maker.specs.Made.{MadeProblem, MadeSubmission}
use Rattle.work_maker.specs.Files.{file_with, problem_path, test_path, yaml_text, limit_text, test_files, problem_files, image_files, submission_files, files_with}
use Rattle.work_maker.proofs.Digits.{number_lacks, below_same, below_other}
use Rattle.work_maker.proofs.Each.{Each, each_both, each_flat}
use Rattle.work_maker.proofs.Stems.{test_paths, data_folder}
use Rattle.work_maker.proofs.Cases.{IsProblem, HasProblem}

-- ---- what lies in a problem's folder of tests

abbrev pub is_test_of : ℕ → TreeFile → Bool
is_test_of i file = is_below (data_folder i) file.path

-- the paths of the files that do
abbrev pub tests_among : ℕ → List TreeFile → List (List ℕ)
tests_among i files = filter (is_below (data_folder i)) (map (λ (file : TreeFile). file.path) files)

among_both : (i : ℕ) (xs ys : List TreeFile) → tests_among i (xs ++ ys) ≡ tests_among i xs ++ tests_among i ys
among_both i xs ys =
    ap (filter (is_below (data_folder i))) (map-append (λ (file : TreeFile). file.path) xs ys)
    ∙ filter-append (is_below (data_folder i)) (map (λ (file : TreeFile). file.path) xs) (map (λ (file : TreeFile). file.path) ys)

none_among : (i : ℕ) (files : List TreeFile) → Each (λ file. is_test_of i file ≡ false) files → tests_among i files ≡ []
none_among i [] each = refl
none_among i (file ∷ files) each = ap (λ b. cond b (file.path ∷ tests_among i files) (tests_among i files)) each.0 ∙ none_among i files each.1

all_among : (i : ℕ) (files : List TreeFile) → Each (λ file. is_test_of i file ≡ true) files → tests_among i files ≡ map (λ (file : TreeFile). file.path) files
all_among i [] each = refl
all_among i (file ∷ files) each =
    ap (λ b. cond b (file.path ∷ tests_among i files) (tests_among i files)) each.0 ∙ ap (λ ps. file.path ∷ ps) (all_among i files each.1)

-- what another problem's folder has is not there
elsewhere : (i j : ℕ) (name : List ℕ) → i ≤ 50 → j ≤ 50 → i ≢ j → is_below (data_folder i) (problem_path j name) ≡ false
elsewhere i j name si sj ne =
    ap is_some (below_other (decimal i) (decimal j) (codes "data") name (number_lacks 47 i (omega arith) (omega (arith, si))) (number_lacks 47 j (omega arith) (omega (arith, sj)))
    (λ e. ne (decimal_injective i j (omega (arith, si)) (omega (arith, sj)) e)))

-- and of its own folder, what the name says
here : (i : ℕ) (name : List ℕ) → is_below (data_folder i) (problem_path i name) ≡ is_some (below (47 ∷ codes "data") (47 ∷ name))
here i name = ap is_some (below_same (decimal i) (47 ∷ codes "data") (47 ∷ name))

other_tests : (i j k : ℕ) (inputs : List ℕ) → i ≤ 50 → j ≤ 50 → i ≢ j → Each (λ file. is_test_of i file ≡ false) (test_files j k inputs)
other_tests i j k [] si sj ne = tt
other_tests i j k (n ∷ inputs) si sj ne = (elsewhere i j _ si sj ne, (elsewhere i j _ si sj ne, other_tests i j (suc k) inputs si sj ne))

other_problem : (i : ℕ) (made : MadeProblem) → i ≤ 50 → made.number ≤ 50 → i ≢ made.number → Each (λ file. is_test_of i file ≡ false) (problem_files made)
other_problem i made si sj ne =
    (elsewhere i made.number _ si sj ne, (elsewhere i made.number _ si sj ne, other_tests i made.number 1 made.inputs si sj ne))

abbrev IsOther : ℕ → MadeProblem → Type 0
IsOther i made = (made.number ≤ 50) × (i ≢ made.number)

other_problems : (i : ℕ) (made : List MadeProblem) → i ≤ 50 → Each (IsOther i) made → tests_among i (flat_map problem_files made) ≡ []
other_problems i made si each =
    none_among i (flat_map problem_files made)
    (each_flat (IsOther i) (λ file. is_test_of i file ≡ false) problem_files made (λ p h. other_problem i p si h.0 h.1) each)

own_tests : (i k : ℕ) (inputs : List ℕ) → Each (λ file. is_test_of i file ≡ true) (test_files i k inputs)
own_tests i k [] = tt
own_tests i k (n ∷ inputs) = (here i _, (here i _, own_tests i (suc k) inputs))

own_paths : (i k : ℕ) (inputs : List ℕ) → map (λ (file : TreeFile). file.path) (test_files i k inputs) ≡ test_paths i k (length inputs)
own_paths i k [] = refl
own_paths i k (n ∷ inputs) = ap (λ ps. test_path i k (codes ".in") ∷ test_path i k (codes ".ans") ∷ ps) (own_paths i (suc k) inputs)

own_problem : (made : MadeProblem) → tests_among made.number (problem_files made) ≡ test_paths made.number 1 (length made.inputs)
own_problem made =
    let i = made.number in
    let settings : List TreeFile = file_with (problem_path i (codes "problem.yaml")) (yaml_text i) ∷ file_with (problem_path i (codes "domjudge-problem.ini")) limit_text ∷ [] in
    among_both i settings (test_files i 1 made.inputs)
    ∙ ap (λ ps. ps ++ tests_among i (test_files i 1 made.inputs)) (none_among i settings (here i _, (here i _, tt)))
    ∙ all_among i (test_files i 1 made.inputs) (own_tests i 1 made.inputs)
    ∙ own_paths i 1 made.inputs

no_images : (i s : ℕ) (submissions : List MadeSubmission) → Each (λ file. is_test_of i file ≡ false) (image_files s submissions)
no_images i s [] = tt
no_images i s (submission ∷ submissions) = (refl, no_images i (suc s) submissions)

others_are : (problems i : ℕ) (made : List MadeProblem) → problems ≤ 50 → Each (IsProblem problems) made → Each (λ (other : MadeProblem). i ≢ other.number) made → Each (IsOther i) made
others_are problems i [] few are differ = tt
others_are problems i (p ∷ made) few are differ = ((omega (arith, few, are.0.last), differ.0), others_are problems i made few are.1 differ.1)

prefix_are : (P : MadeProblem → Type 0) (before : List MadeProblem) (p : MadeProblem) (behind : List MadeProblem) → Each P (before ++ p ∷ behind) → Each P before × P p × Each P behind
prefix_are P [] p behind each = (tt, each.0, each.1)
prefix_are P (q ∷ before) p behind each = let h = prefix_are P before p behind each.1 in ((each.0, h.0), h.1, h.2)

-- the tests of a problem are those of its own files
pub tests_are : (problems i : ℕ) (made : List MadeProblem) (submissions : List MadeSubmission) → problems ≤ 50 → i ≤ 50 → Each (IsProblem problems) made
    → (has : HasProblem made i) → paths_below (data_folder i) (files_with made submissions) ≡ in_order (test_paths i 1 (length has.problem.inputs))
tests_are problems i made submissions few si are has =
    let parts = prefix_are (IsProblem problems) has.before has.problem has.behind (subst (Each (IsProblem problems)) has.is are) in
    let flat = flat_map problem_files in
    let rest = submission_files submissions in
    let a : tests_among i (flat has.before) ≡ [] = other_problems i has.before si (others_are problems i has.before few parts.0 has.before_other) in
    let b : tests_among i (flat has.behind) ≡ [] = other_problems i has.behind si (others_are problems i has.behind few parts.2 has.behind_other) in
    let own : tests_among i (problem_files has.problem) ≡ test_paths i 1 (length has.problem.inputs) =
    subst (λ n. tests_among n (problem_files has.problem) ≡ test_paths n 1 (length has.problem.inputs)) has.numbered (own_problem has.problem) in
    let none : tests_among i rest ≡ [] =
    none_among i rest (each_both (λ file. is_test_of i file ≡ false) (image_files 1 submissions) _ (no_images i 1 submissions) (refl, tt)) in
    let inner : tests_among i (flat (has.before ++ has.problem ∷ has.behind)) ≡ test_paths i 1 (length has.problem.inputs) =
    ap (tests_among i) (flat_map-append problem_files has.before (has.problem ∷ has.behind))
    ∙ among_both i (flat has.before) (problem_files has.problem ++ flat has.behind)
    ∙ ap (λ ps. ps ++ tests_among i (problem_files has.problem ++ flat has.behind)) a
    ∙ among_both i (problem_files has.problem) (flat has.behind)
    ∙ ap (λ ps. tests_among i (problem_files has.problem) ++ ps) b
    ∙ append-nil (tests_among i (problem_files has.problem)) ∙ own in
    ap in_order
    (among_both i (flat made) rest
    ∙ ap (λ ps. tests_among i (flat made) ++ ps) none
    ∙ append-nil (tests_among i (flat made))
    ∙ ap (λ ps. tests_among i (flat ps)) has.is ∙ inner)

-- ---- the files of a test

joined : (ds mid es end : List ℕ) → (ds ++ (mid ++ (es ++ []))) ++ end ≡ ds ++ (mid ++ (es ++ end))
joined ds mid es end =
    append_assoc ds (mid ++ (es ++ [])) end ∙ ap (λ t. ds ++ t) (append_assoc mid (es ++ []) end ∙ ap (λ t. mid ++ t) (append_assoc es [] end))

pub input_is : (i k : ℕ) → input_path (test_path i k []) ≡ test_path i k (codes ".in")
input_is i k = ap (λ t. codes "contest/problems/p" ++ t) (joined (decimal i) (47 ∷ codes "data/secret/0") (decimal k) (codes ".in"))

pub answer_is : (i k : ℕ) → answer_path (test_path i k []) ≡ test_path i k (codes ".ans")
answer_is i k = ap (λ t. codes "contest/problems/p" ++ t) (joined (decimal i) (47 ∷ codes "data/secret/0") (decimal k) (codes ".ans"))
