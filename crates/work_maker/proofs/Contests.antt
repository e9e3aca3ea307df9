-- A made contest is one: its folder is read without a fault.
use Rattle.std.proofs.Common.{ℕ, zero, suc, ◌≡◌, ◌≢◌, ◌+◌, ◌*◌, ◌<◌, ◌≤◌, List, [], ◌∷◌, ◌++◌, Bool, true, false, cond, nat_le, length, map, filter, filter_map, find, get_or, drop, not, Option, Some, None, is_none, option_map, Result, Ok, Err, Contains, refl, sym, ap, ◌∙◌, subst, arith, codes, length-append, inl, inr, Ordering, Less, Equal, Greater}
use Rattle.std.specs.Prelude.{◌⊎◌}
use Rattle.std.specs.Fmt.{decimal}
use Rattle.std.specs.List.{flat_map, before_first}
use Rattle.std.specs.Str.{bytes_eq}
use Rattle.std.proofs.lemmas.Bool.Decides.{nat_tests}
use Rattle.std.proofs.lemmas.Slice.Eq.{bytes_eq-Decides}
use Rattle.std.proofs.lemmas.Fmt.{length-decimal-le}
use Rattle.std.proofs.lemmas.List.{append-nil}
use Rattle.std.proofs.lemmas.List.Elements.{filter_map-append}
use Rattle.std.proofs.lemmas.Grind.{flat_map-append}
use Rattle.farm_tree.specs.declared.reads.TreeFile.{TreeFile}
use Rattle.farm_tree.specs.declared.entries.Entry.{Entry as FolderEntry}
use Rattle.farm_tree.specs.Reading.{file_at, file_limit}
use Rattle.farm_tree.specs.Listing.{in_folder, below, entry_to, entries_below, is_slash}
use Rattle.farm_model.specs.State.{standard_settings}
use Rattle.package_folder.specs.declared.package.Test.{Test}
use Rattle.package_folder.specs.Names.{input_path, answer_path, stems_of}
use Rattle.package_folder.specs.Order.{in_order, put_in, put_at, compare_bytes}
use Rattle.package_folder.specs.Package.{package_of}
use Rattle.package_folder.proofs.Members.{first_in, later_in, first_or_later, none_in, in_map, from_map, in_filter, from_filter, in_filter_map, from_filter_map}
use Rattle.package_folder.proofs.Ordered.{ordered_same}
use Rattle.contest_folder.specs.declared.roster.Problem.{Problem}
use Rattle.contest_folder.specs.declared.roster.Submission.{Submission}
use Rattle.contest_folder.specs.declared.faults.ContestFault.{ContestFault}
use Rattle.contest_folder.specs.declared.faults.ContestFault.TheVariants as fault
use Rattle.contest_folder.specs.RosterValue.{RosterValue}
use Rattle.contest_folder.specs.RosterShape.{problem_named, problem_limit, submission_limit}
use Rattle.contest_folder.specs.Telling.{and_then, with_first, file_within, file_in}
use Rattle.contest_folder.specs.Problems.{problems_of, folders_of, shorts_in, is_bad_name, shorts_named, shorts_checked, package_or_fault, packages_in, problems_in}
use Rattle.contest_folder.specs.SubmissionLines.{lacks_problem, entries_placed, entries_checked, entries_in, entries_said}
use Rattle.contest_folder.specs.Images.{images_of, held_of, image_file, lacks_image, submission_of, held_or_none, total_limit, added, added_all, test_sizes, problem_sizes, image_sizes, total_of, submissions_within, submissions_imaged, submissions_in}
use Rattle.contest_folder.specs.Contest.{contest_of, settings_in, settings_said, with_settings, with_problems, with_entries, roster_with}
use Rattle.work_maker.specs.declared.programs.Program.{Program}
use Rattle.work_maker.specs.declared.programs.Program.TheVariants as program
use Rattle.work_maker.specs.Made.{MadeProblem, MadeSubmission}
use Rattle.work_maker.specs.Programs.{image_of}
use Rattle.work_maker.specs.Files.{contest_folder, file_with, problem_name, problem_path, test_path, yaml_text, limit_text, input_text, test_files, problem_files, image_path, image_files, list_path, list_text, submission_files, files_with}
use Rattle.work_maker.proofs.Digits.{same_number, number_lacks, component, has_slash}
use Rattle.work_maker.proofs.Each.{Each, each_both, each_at, each_of, each_weaker, in_front, in_back, filtered_shorter, mapped_length, found_shorter}
use Rattle.work_maker.proofs.Computed.{problem_is_named, yaml_is_plain}
use Rattle.work_maker.proofs.Stems.{test_paths, stems_from, data_folder, stems_are}
use Rattle.work_maker.proofs.Held.{none_at, bytes_at, held_at, IsHeld}
use Rattle.work_maker.proofs.Listed.{Entry, IsMade, entries_for, list_is, list_short}
use Rattle.work_maker.proofs.Cases.{IsProblem, HasProblem, each_file}
use Rattle.work_maker.proofs.ProblemTests.{tests_are, input_is, answer_is}
use Rattle.work_maker.proofs.Packages.{bound, HasFiles, IsSmall, IsSmallPackage, package_is}

-- the folder of a problem
abbrev package_path : ℕ → List ℕ
package_path i = in_folder (problems_of contest_folder) (problem_name i)

-- the problems and the submissions of a contest with `count` problems
pub record IsMadeContest (count : ℕ) (made : List MadeProblem) (submissions : List MadeSubmission) : Type 0 where
  pub few : count ≤ 50
  pub are_problems : Each (IsProblem count) made
  pub numbered : (i : ℕ) → 1 ≤ i → i ≤ count → HasProblem made i
  pub few_made : length made ≤ 50
  pub are_submissions : Each (IsMade count) submissions
  pub few_submissions : length submissions ≤ 2000

fits : (n limit : ℕ) → n ≤ limit → nat_le n limit ≡ true
fits n limit le = grind (arith, nat_tests)

-- ---- how large files are

small_input : (n : ℕ) → n < 1000 → length (input_text n) ≤ bound
small_input n lt =
    let digits = length-decimal-le 3 n (omega arith) (omega (arith, lt)) (omega (arith, lt)) in
    omega (arith, digits, length-append (decimal n) (10 ∷ []))

small_yaml : (i : ℕ) → i ≤ 50 → length (yaml_text i) ≤ bound
small_yaml i le =
    let digits = length-decimal-le 2 i (omega arith) (omega (arith, le)) (omega (arith, le)) in
    omega (arith, digits, length-append (decimal i) (codes "\nlimits:\n  memory: 1\n"))

small_image : (p : Program) → length (image_of p) ≤ bound
small_image program.Echo = omega arith
small_image program.Silent = omega arith
small_image program.Loop = omega arith
small_image program.Fail = omega arith
small_image program.Half = omega arith
small_image program.Greedy = omega arith
small_image program.Broken = omega arith

-- ---- paths

-- paths differ that differ at a place
apart : (at : ℕ) (x y : List ℕ) → get_or x at 0 ≢ get_or y at 0 → x ≢ y
apart at x y ne e = ne (ap (λ t. get_or t at 0) e)

-- the number of a problem, and the name of the file in its folder
same_problem : (i j : ℕ) (a b : List ℕ) → i ≤ 50 → j ≤ 50 → problem_path i a ≡ problem_path j b → (i ≡ j) × (a ≡ b)
same_problem i j a b si sj e = same_number i j a b (omega (arith, si)) (omega (arith, sj)) (ap (drop 18) e)

-- ---- what a search finds

find_none : {X : Type 0} (p : X → Bool) (xs : List X) → Each (λ x. p x ≡ false) xs → find p xs ≡ None
find_none p [] each = refl
find_none p (x ∷ xs) each = ap (λ b. cond b (Some x) (find p xs)) each.0 ∙ find_none p xs each.1

-- ---- the names of the problems

abbrev entry_at : List ℕ → Option FolderEntry
entry_at path = option_map entry_to (below (problems_of contest_folder) path)

entry_name : (i : ℕ) (name : List ℕ) → i ≤ 50 → before_first is_slash (problem_name i ++ 47 ∷ name) ≡ problem_name i
entry_name i name le = component (problem_name i) name ((λ e. absurd (omega (arith, e))), number_lacks 47 i (omega arith) (omega (arith, le)))

put_length_by : (t first : List ℕ) (others rest : List (List ℕ)) (o : Ordering) → length rest ≤ suc (length others) → length (put_at o t first others rest) ≤ suc (suc (length others))
put_length_by t first others rest Less h = omega arith
put_length_by t first others rest Equal h = omega arith
put_length_by t first others rest Greater h = omega (arith, h)

put_length : (t : List ℕ) (others : List (List ℕ)) → length (put_in t others) ≤ suc (length others)
put_length t [] = omega arith
put_length t (first ∷ others) = put_length_by t first others (put_in t others) (compare_bytes t first) (put_length t others)

ordered_length : (texts : List (List ℕ)) → length (in_order texts) ≤ length texts
ordered_length [] = omega arith
ordered_length (t ∷ texts) = omega (arith, put_length t (in_order texts), ordered_length texts)

tests_length : (i k : ℕ) (inputs : List ℕ) → length (test_files i k inputs) ≡ 2 * length inputs
tests_length i k [] = omega arith
tests_length i k (n ∷ inputs) = omega (arith, tests_length i (suc k) inputs)

problems_length : (count : ℕ) (made : List MadeProblem) → Each (IsProblem count) made → length (flat_map problem_files made) ≤ 12 * length made
problems_length count [] are = omega arith
problems_length count (p ∷ made) are =
    omega (arith, problems_length count made are.1, are.0.few, tests_length p.number 1 p.inputs, length-append (problem_files p) (flat_map problem_files made))

no_entries : (s : ℕ) (submissions : List MadeSubmission) → filter_map (λ (f : TreeFile). entry_at f.path) (image_files s submissions) ≡ []
no_entries s [] = refl
no_entries s (submission ∷ submissions) = no_entries (suc s) submissions

-- ---- the tests of a problem

stems_at : (i n : ℕ) → i ≤ 50 → 1 ≤ n → n ≤ 5 → stems_of (data_folder i) (in_order (test_paths i 1 n)) ≡ Ok (stems_from i 1 n)
stems_at i zero known some few = absurd (omega (arith, some))
stems_at i (suc more) known some few = stems_are i more known (omega (arith, few))

stems_length : (i k n : ℕ) → length (stems_from i k n) ≡ n
stems_length i k zero = refl
stems_length i k (suc n) = ap suc (stems_length i (suc k) n)

-- ---- how many bytes a contest has

added_most : (total size : ℕ) → added total size ≤ total + size
added_most total size = by (nat_le total total_limit)
  where
    by : (b : Bool) → cond b (total + size) total ≤ total + size
    by true = omega arith
    by false = omega arith

total_most : (total : ℕ) (sizes : List ℕ) → Each (λ n. n ≤ bound) sizes → added_all total sizes ≤ total + bound * length sizes
total_most total [] each = omega arith
total_most total (size ∷ sizes) each = omega (arith, added_most total size, total_most (added total size) sizes each.1, each.0)

test_sizes_small : (tests : List Test) → Each IsSmall tests → Each (λ n. n ≤ bound) (test_sizes tests)
test_sizes_small [] each = tt
test_sizes_small (test ∷ tests) each = (each.0.input, (each.0.answer, test_sizes_small tests each.1))

test_sizes_length : (tests : List Test) → length (test_sizes tests) ≡ 2 * length tests
test_sizes_length [] = omega arith
test_sizes_length (test ∷ tests) = omega (arith, test_sizes_length tests)

-- a problem of a few small tests
pub record IsLight (problem : Problem) : Type 0 where
  pub few : length problem.contents.tests ≤ 5
  pub small : Each IsSmall problem.contents.tests

problem_sizes_small : (problems : List Problem) → Each IsLight problems → Each (λ n. n ≤ bound) (problem_sizes problems)
problem_sizes_small [] each = tt
problem_sizes_small (p ∷ problems) each =
    each_both (λ n. n ≤ bound) (test_sizes p.contents.tests) (problem_sizes problems) (test_sizes_small p.contents.tests each.0.small) (problem_sizes_small problems each.1)

problem_sizes_length : (problems : List Problem) → Each IsLight problems → length (problem_sizes problems) ≤ 10 * length problems
problem_sizes_length [] each = omega arith
problem_sizes_length (p ∷ problems) each =
    omega (arith, problem_sizes_length problems each.1, each.0.few, test_sizes_length p.contents.tests, length-append (test_sizes p.contents.tests) (problem_sizes problems))

held_most : (bytes : List ℕ) → length (held_of bytes) ≤ length bytes
held_most bytes = by (nat_le (length bytes) file_limit)
  where
    by : (b : Bool) → length (cond b bytes []) ≤ length bytes
    by true = omega arith
    by false = omega arith

held_or_small : (held : Option (List ℕ)) → IsHeld bound held → length (held_or_none held) ≤ bound
held_or_small held is = subst (λ o. length (held_or_none o) ≤ bound) (sym is.is) (omega (arith, held_most is.bytes, is.small))

held_there : (held : Option (List ℕ)) → IsHeld bound held → is_none held ≡ false
held_there held is = ap is_none is.is

-- ---- the problems of a contest, and what submissions ask of them

named_by : (name : List ℕ) (p : Problem) (problems : List Problem) (b : Bool) → (b ≡ true) ⊎ (is_none (problem_named problems name) ≡ false)
    → is_none (cond b (Some p) (problem_named problems name)) ≡ false
named_by name p problems true h = refl
named_by name p problems false h = elim h [ inl e ↦ absurd (let f : false ≡ true = e in cc) | inr there ↦ there ]

named : (name : List ℕ) (problems : List Problem) → Contains (map (λ (p : Problem). p.name) problems) name → is_none (problem_named problems name) ≡ false
named name [] has = absurd (none_in name has)
named name (p ∷ problems) has =
    named_by name p problems (bytes_eq name p.name)
    (elim (first_or_later p.name name (map (λ (q : Problem). q.name) problems) has) [
      | inl e ↦ inl ((bytes_eq-Decides name p.name).1 (sym e))
      | inr later ↦ inr (named name problems later)
    ])

-- problems that were read, of these names
pub record HasProblems (shorts : List (List ℕ)) (read : Result (List Problem) ContestFault) : Type 0 where
  pub list : List Problem
  pub is : read ≡ Ok list
  pub names : map (λ (p : Problem). p.name) list ≡ shorts
  pub light : Each IsLight list

entries_length : (s : ℕ) (submissions : List MadeSubmission) → length (entries_for s submissions) ≡ length submissions
entries_length s [] = refl
entries_length s (submission ∷ submissions) = ap suc (entries_length (suc s) submissions)

-- the files of a problem

abbrev yaml_file : ℕ → TreeFile
yaml_file i = file_with (problem_path i (codes "problem.yaml")) (yaml_text i)

abbrev limit_file : ℕ → TreeFile
limit_file i = file_with (problem_path i (codes "domjudge-problem.ini")) limit_text

abbrev input_file : ℕ → ℕ → ℕ → TreeFile
input_file i k n = file_with (test_path i k (codes ".in")) (input_text n)

abbrev answer_file : ℕ → ℕ → ℕ → TreeFile
answer_file i k n = file_with (test_path i k (codes ".ans")) (input_text n)

yaml_among : (p : MadeProblem) (i : ℕ) → p.number ≡ i → Contains (problem_files p) (yaml_file i)
yaml_among p i e =
    subst (λ n. Contains (problem_files p) (yaml_file n)) e (first_in (yaml_file p.number) (limit_file p.number ∷ test_files p.number 1 p.inputs))

limit_among : (p : MadeProblem) (i : ℕ) → p.number ≡ i → Contains (problem_files p) (limit_file i)
limit_among p i e =
    subst (λ n. Contains (problem_files p) (limit_file n)) e
    (later_in (yaml_file p.number) (limit_file p.number) (limit_file p.number ∷ test_files p.number 1 p.inputs)
    (first_in (limit_file p.number) (test_files p.number 1 p.inputs)))

tests_among_files : (p : MadeProblem) (i : ℕ) (f : TreeFile) → p.number ≡ i → Contains (test_files i 1 p.inputs) f → Contains (problem_files p) f
tests_among_files p i f e h =
    subst (λ n. Contains (test_files n 1 p.inputs) f → Contains (problem_files p) f) e
    (λ g. later_in (yaml_file p.number) f (limit_file p.number ∷ test_files p.number 1 p.inputs) (later_in (limit_file p.number) f (test_files p.number 1 p.inputs) g)) h

input_among : (i k n : ℕ) (inputs : List ℕ) → Contains (test_files i k (n ∷ inputs)) (input_file i k n)
input_among i k n inputs = first_in (input_file i k n) (answer_file i k n ∷ test_files i (suc k) inputs)

answer_among : (i k n : ℕ) (inputs : List ℕ) → Contains (test_files i k (n ∷ inputs)) (answer_file i k n)
answer_among i k n inputs =
    later_in (input_file i k n) (answer_file i k n) (answer_file i k n ∷ test_files i (suc k) inputs) (first_in (answer_file i k n) (test_files i (suc k) inputs))

more_among : (i k n : ℕ) (inputs : List ℕ) (f : TreeFile) → Contains (test_files i (suc k) inputs) f → Contains (test_files i k (n ∷ inputs)) f
more_among i k n inputs f h =
    later_in (input_file i k n) f (answer_file i k n ∷ test_files i (suc k) inputs) (later_in (answer_file i k n) f (test_files i (suc k) inputs) h)

of_problem : (P : MadeProblem → Type 0) (before : List MadeProblem) (p : MadeProblem) (behind : List MadeProblem) → Each P (before ++ p ∷ behind) → P p
of_problem P [] p behind each = each.0
of_problem P (q ∷ before) p behind each = of_problem P before p behind each.1

module _ (count : ℕ) (made : List MadeProblem) (submissions : List MadeSubmission) (is : IsMadeContest count made submissions) where
  abbrev files : List TreeFile
  files = files_with made submissions

  short_list : length (list_text 1 submissions) ≤ bound
  short_list = let h = list_short count 1 submissions is.few (omega (arith, is.few_submissions)) is.are_submissions in omega (arith, h, is.few_submissions)

  all_small : Each (λ (f : TreeFile). length f.bytes ≤ bound) files
  all_small =
      each_file count (λ (f : TreeFile). length f.bytes ≤ bound) (record {
        yaml = λ i first last. small_yaml i (omega (arith, last, is.few));
        limit = λ i first last. omega arith;
        input = λ i k n first last kth lt. small_input n lt;
        answer = λ i k n first last kth lt. small_input n lt;
        image = λ s p le. small_image p;
      }) made submissions is.are_problems (omega (arith, is.few_submissions)) short_list

  -- ---- which files are there

  problem_file : (i : ℕ) → (has : HasProblem made i) → (f : TreeFile) → Contains (problem_files has.problem) f → Contains files f
  problem_file i has f h =
      in_front (flat_map problem_files made) (submission_files submissions) f
      (subst (λ (ps : List MadeProblem). Contains (flat_map problem_files ps) f) (sym has.is)
      (subst (λ (fs : List TreeFile). Contains fs f) (sym (flat_map-append problem_files has.before (has.problem ∷ has.behind)))
      (in_back (flat_map problem_files has.before) (problem_files has.problem ++ flat_map problem_files has.behind) f
      (in_front (problem_files has.problem) (flat_map problem_files has.behind) f h))))

  submission_file : (f : TreeFile) → Contains (submission_files submissions) f → Contains files f
  submission_file f h = in_back (flat_map problem_files made) (submission_files submissions) f h

  -- ---- settings

  no_settings : file_at files (codes "contest/farm.json") ≡ None
  no_settings =
      none_at (codes "contest/farm.json") files
      (each_file count (λ (f : TreeFile). bytes_eq (codes "contest/farm.json") f.path ≡ false) (record {
        yaml = λ i first last. refl;
        limit = λ i first last. refl;
        input = λ i k n first last kth lt. refl;
        answer = λ i k n first last kth lt. refl;
        image = λ s p le. refl;
      }) made submissions is.are_problems (omega (arith, is.few_submissions)) refl)

  settings_are : settings_in files contest_folder ≡ Ok standard_settings
  settings_are = ap (λ o. and_then settings_said (file_within (codes "farm.json") o)) no_settings

  -- ---- the packages

  yaml_is : (i : ℕ) → 1 ≤ i → i ≤ count → file_at files (problem_path i (codes "problem.yaml")) ≡ Some (yaml_text i)
  yaml_is i first last =
      let has = is.numbered i first last in
      let path = problem_path i (codes "problem.yaml") in
      let si : i ≤ 50 = omega (arith, last, is.few) in
      bytes_at path (yaml_text i) (file_with path (yaml_text i)) files
      (problem_file i has (yaml_file i) (yaml_among has.problem i has.numbered)) refl
      (each_file count (λ (f : TreeFile). path ≡ f.path → f.bytes ≡ yaml_text i) (record {
        yaml = λ j low high e. ap yaml_text (sym (same_problem i j _ _ si (omega (arith, high, is.few)) e).0);
        limit = λ j low high e. absurd (apart 0 _ _ (λ d. absurd (omega (arith, d))) (same_problem i j _ _ si (omega (arith, high, is.few)) e).1);
        input = λ j k n low high kth lt e. absurd (apart 0 _ _ (λ d. absurd (omega (arith, d))) (same_problem i j _ _ si (omega (arith, high, is.few)) e).1);
        answer = λ j k n low high kth lt e. absurd (apart 0 _ _ (λ d. absurd (omega (arith, d))) (same_problem i j _ _ si (omega (arith, high, is.few)) e).1);
        image = λ s p le e. absurd (apart 8 _ _ (λ d. absurd (omega (arith, d))) e);
      }) made submissions is.are_problems (omega (arith, is.few_submissions)) (λ e. absurd (apart 8 _ _ (λ d. absurd (omega (arith, d))) e)))

  limit_is_there : (i : ℕ) → 1 ≤ i → i ≤ count → file_at files (problem_path i (codes "domjudge-problem.ini")) ≡ Some limit_text
  limit_is_there i first last =
      let has = is.numbered i first last in
      let path = problem_path i (codes "domjudge-problem.ini") in
      let si : i ≤ 50 = omega (arith, last, is.few) in
      bytes_at path limit_text (file_with path limit_text) files
      (problem_file i has (limit_file i) (limit_among has.problem i has.numbered)) refl
      (each_file count (λ (f : TreeFile). path ≡ f.path → f.bytes ≡ limit_text) (record {
        yaml = λ j low high e. absurd (apart 0 _ _ (λ d. absurd (omega (arith, d))) (same_problem i j _ _ si (omega (arith, high, is.few)) e).1);
        limit = λ j low high e. refl;
        input = λ j k n low high kth lt e. absurd (apart 1 _ _ (λ d. absurd (omega (arith, d))) (same_problem i j _ _ si (omega (arith, high, is.few)) e).1);
        answer = λ j k n low high kth lt e. absurd (apart 1 _ _ (λ d. absurd (omega (arith, d))) (same_problem i j _ _ si (omega (arith, high, is.few)) e).1);
        image = λ s p le e. absurd (apart 8 _ _ (λ d. absurd (omega (arith, d))) e);
      }) made submissions is.are_problems (omega (arith, is.few_submissions)) (λ e. absurd (apart 8 _ _ (λ d. absurd (omega (arith, d))) e)))

  tests_there : (i k : ℕ) (inputs : List ℕ) → ((f : TreeFile) → Contains (test_files i k inputs) f → Contains files f) → Each (HasFiles files) (stems_from i k (length inputs))
  tests_there i k [] there = tt
  tests_there i k (n ∷ inputs) there = (
    record {
      input = held_at bound (input_path (test_path i k [])) (input_file i k n) files (there (input_file i k n) (input_among i k n inputs)) (input_is i k) all_small;
      answer = held_at bound (answer_path (test_path i k [])) (answer_file i k n) files (there (answer_file i k n) (answer_among i k n inputs)) (answer_is i k) all_small;
    },
    tests_there i (suc k) inputs (λ f h. there f (more_among i k n inputs f h)),
  )

  package_at : (i ips : ℕ) → 1 ≤ i → i ≤ count → IsSmallPackage (package_of files (package_path i) ips)
  package_at i ips first last =
      let has = is.numbered i first last in
      let si : i ≤ 50 = omega (arith, last, is.few) in
      let inputs = has.problem.inputs in
      let known = of_problem (IsProblem count) has.before has.problem has.behind (subst (Each (IsProblem count)) has.is is.are_problems) in
      package_is files (package_path i) (yaml_text i) ips (stems_from i 1 (length inputs)) (yaml_is i first last) (small_yaml i si) (yaml_is_plain i si) (limit_is_there i first last)
      (ap (stems_of (data_folder i)) (tests_are count i made submissions is.few si is.are_problems has) ∙ stems_at i (length inputs) si known.some known.few)
      (omega (arith, stems_length i 1 (length inputs), known.few))
      (tests_there i 1 inputs (λ f h. problem_file i has f (tests_among_files has.problem i f has.numbered h)))

  -- ---- the problems

  IsShort : List ℕ → Type 0
  IsShort name = (i : ℕ) × (1 ≤ i) × (i ≤ count) × (name ≡ problem_name i)

  listed_problem : (i : ℕ) (name : List ℕ) (entry : FolderEntry) → 1 ≤ i → i ≤ count → entry_at (problem_path i name) ≡ Some entry → IsShort entry.name
  unfolding IsShort
  listed_problem i name entry first last e =
      let same : entry_to (problem_name i ++ 47 ∷ name) ≡ entry = cc in
      (i, first, last, sym (ap (λ (x : FolderEntry). x.name) same) ∙ entry_name i name (omega (arith, last, is.few)))

  each_listed : Each (λ (f : TreeFile). (entry : FolderEntry) → entry_at f.path ≡ Some entry → IsShort entry.name) files
  each_listed =
      each_file count (λ (f : TreeFile). (entry : FolderEntry) → entry_at f.path ≡ Some entry → IsShort entry.name) (record {
        yaml = λ i first last entry e. listed_problem i _ entry first last e;
        limit = λ i first last entry e. listed_problem i _ entry first last e;
        input = λ i k n first last kth lt entry e. listed_problem i _ entry first last e;
        answer = λ i k n first last kth lt entry e. listed_problem i _ entry first last e;
        image = λ s p le entry e. absurd (let g : None ≡ Some entry = e in cc);
      }) made submissions is.are_problems (omega (arith, is.few_submissions)) (λ entry e. absurd (let g : None ≡ Some entry = e in cc))

  abbrev shorts : List (List ℕ)
  shorts = shorts_in files contest_folder

  abbrev listing : List FolderEntry
  listing = entries_below (problems_of contest_folder) files

  short_is : (name : List ℕ) → Contains shorts name → IsShort name
  short_is name has =
      let among = (ordered_same (folders_of listing) name).0 has in
      let named = from_map (λ (x : FolderEntry). x.name) name (filter (λ (x : FolderEntry). x.folder) listing) among in
      let passed = from_filter (λ (x : FolderEntry). x.folder) named.0 listing named.1 in
      let file = from_filter_map (λ (f : TreeFile). entry_at f.path) named.0 files passed.0 in
      subst IsShort named.2 (each_at (λ (f : TreeFile). (entry : FolderEntry) → entry_at f.path ≡ Some entry → IsShort entry.name) files file.0 each_listed file.1 named.0 file.2)

  has_short : (i : ℕ) → 1 ≤ i → i ≤ count → Contains shorts (problem_name i)
  has_short i first last =
      let has = is.numbered i first last in
      let rest = codes "problem.yaml" in
      let f = file_with (problem_path i rest) (yaml_text i) in
      let entry = entry_to (problem_name i ++ 47 ∷ rest) in
      let there : Contains files f = problem_file i has f (yaml_among has.problem i has.numbered) in
      let found = in_filter_map (λ (x : TreeFile). entry_at x.path) f entry files there refl in
      let kept = in_filter (λ (x : FolderEntry). x.folder) entry listing found (has_slash (problem_name i) rest) in
      let named = in_map (λ (x : FolderEntry). x.name) entry (filter (λ (x : FolderEntry). x.folder) listing) kept in
      (ordered_same (folders_of listing) (problem_name i)).1 (subst (Contains (folders_of listing)) (entry_name i rest (omega (arith, last, is.few))) named)

  few_shorts : length shorts ≤ 600
  few_shorts =
      let cut : listing ≡ filter_map (λ (f : TreeFile). entry_at f.path) (flat_map problem_files made) =
      filter_map-append (λ (f : TreeFile). entry_at f.path) (flat_map problem_files made) (submission_files submissions)
      ∙ ap (λ es. filter_map (λ (f : TreeFile). entry_at f.path) (flat_map problem_files made) ++ es)
      (filter_map-append (λ (f : TreeFile). entry_at f.path) (image_files 1 submissions) (file_with list_path (list_text 1 submissions) ∷ []) ∙ ap (λ es. es ++ []) (no_entries 1 submissions))
      ∙ append-nil _ in
      let a = ordered_length (folders_of listing) in
      let b = mapped_length (λ (x : FolderEntry). x.name) (filter (λ (x : FolderEntry). x.folder) listing) in
      let c = filtered_shorter (λ (x : FolderEntry). x.folder) listing in
      let d = ap length cut in
      let e = found_shorter (λ (f : TreeFile). entry_at f.path) (flat_map problem_files made) in
      let g = problems_length count made is.are_problems in
      omega (arith, a, b, c, d, e, g, is.few_made)

  good_name : (name : List ℕ) → IsShort name → is_bad_name name ≡ false
  unfolding IsShort
  good_name name h = ap is_bad_name h.3 ∙ ap not (problem_is_named h.0 (omega (arith, h.2, is.few)))

  good_names : Each (λ name. is_bad_name name ≡ false) shorts
  good_names = each_of (λ name. is_bad_name name ≡ false) shorts (λ name has. good_name name (short_is name has))

  checked_names : shorts_checked shorts ≡ Ok shorts
  checked_names =
      ap (λ o. shorts_named o shorts) (find_none is_bad_name shorts good_names)
      ∙ ap (λ t. cond t (Ok shorts) (Err (fault.TooManyProblems (length shorts)))) (fits (length shorts) problem_limit (omega (arith, few_shorts)))

  problems_ok : (ips : ℕ) (names : List (List ℕ)) → Each IsShort names → HasProblems names (packages_in files (problems_of contest_folder) ips names)
  unfolding IsShort
  problems_ok ips [] known = record { list = []; is = refl; names = refl; light = tt }
  problems_ok ips (name ∷ names) known =
      let one : IsSmallPackage (package_of files (in_folder (problems_of contest_folder) name) ips) =
      subst (λ (short : List ℕ). IsSmallPackage (package_of files (in_folder (problems_of contest_folder) short) ips)) (sym known.0.3) (package_at known.0.0 ips known.0.1 known.0.2) in
      let more = problems_ok ips names known.1 in
      let problem : Problem = record { name = name; contents = one.contents } in
      record {
        list = problem ∷ more.list;
        is =
            ap (λ r. and_then (λ (p : Problem). with_first p (packages_in files (problems_of contest_folder) ips names)) (package_or_fault name r)) one.is
            ∙ ap (with_first problem) more.is;
        names = ap (λ ns. name ∷ ns) more.names;
        light = (record { few = one.few; small = one.small }, more.light);
      }

  problems_are_read : (ips : ℕ) → HasProblems shorts (problems_in files contest_folder ips)
  problems_are_read ips =
      let read = problems_ok ips shorts (each_of IsShort shorts short_is) in
      record { list = read.list; is = ap (and_then (packages_in files (problems_of contest_folder) ips)) checked_names ∙ read.is; names = read.names; light = read.light }

  -- ---- the submissions

  list_there : file_at files list_path ≡ Some (list_text 1 submissions)
  list_there =
      let last = file_with list_path (list_text 1 submissions) in
      bytes_at list_path (list_text 1 submissions) last files
      (submission_file last (in_back (image_files 1 submissions) (last ∷ []) last (first_in last []))) refl
      (each_file count (λ (f : TreeFile). list_path ≡ f.path → f.bytes ≡ list_text 1 submissions) (record {
        yaml = λ j low high e. absurd (apart 8 _ _ (λ d. absurd (omega (arith, d))) e);
        limit = λ j low high e. absurd (apart 8 _ _ (λ d. absurd (omega (arith, d))) e);
        input = λ j k n low high kth lt e. absurd (apart 8 _ _ (λ d. absurd (omega (arith, d))) e);
        answer = λ j k n low high kth lt e. absurd (apart 8 _ _ (λ d. absurd (omega (arith, d))) e);
        image = λ s p le e. absurd (apart 19 _ _ (λ d. absurd (omega (arith, d))) e);
      }) made submissions is.are_problems (omega (arith, is.few_submissions)) (λ e. refl))

  list_read : file_in files contest_folder (codes "submissions.txt") ≡ Ok (Some (list_text 1 submissions))
  list_read =
      ap (file_within (codes "submissions.txt")) list_there
      ∙ ap (λ t. cond t (Ok (Some (list_text 1 submissions))) (Err (fault.TooLarge (codes "submissions.txt") (length (list_text 1 submissions)))))
      (fits (length (list_text 1 submissions)) file_limit (omega (arith, short_list)))

  placed : (problems : List Problem) (s : ℕ) (others : List MadeSubmission) → map (λ (p : Problem). p.name) problems ≡ shorts → Each (IsMade count) others
      → Each (λ (entry : Entry). lacks_problem problems entry ≡ false) (entries_for s others)
  placed problems s [] names known = tt
  placed problems s (submission ∷ others) names known = (
    named (problem_name submission.problem) problems (subst (λ ns. Contains ns (problem_name submission.problem)) (sym names) (has_short submission.problem known.0.first known.0.last)),
    placed problems (suc s) others names known.1,
  )

  entries_are : (problems : List Problem) → map (λ (p : Problem). p.name) problems ≡ shorts → entries_in problems (list_text 1 submissions) ≡ Ok (entries_for 1 submissions)
  entries_are problems names =
      ap (and_then (entries_checked problems)) (list_is count 1 submissions is.few (omega (arith, is.few_submissions)) is.are_submissions)
      ∙ ap (λ o. entries_placed o (entries_for 1 submissions)) (find_none (lacks_problem problems) (entries_for 1 submissions) (placed problems 1 submissions names is.are_submissions))

  -- the images of the submissions from this one on
  images_there : (s : ℕ) (others : List MadeSubmission) → ((f : TreeFile) → Contains (image_files s others) f → Contains files f)
      → Each (λ (entry : Entry). IsHeld bound (image_file files (images_of contest_folder) entry)) (entries_for s others)
  images_there s [] there = tt
  images_there s (submission ∷ others) there =
      let f = file_with (image_path s) (image_of submission.program) in (
        held_at bound (image_path s) f files (there f (first_in f (image_files (suc s) others))) refl all_small,
        images_there (suc s) others (λ g h. there g (later_in f g (image_files (suc s) others) h)),
      )

  held_images : Each (λ (entry : Entry). IsHeld bound (image_file files (images_of contest_folder) entry)) (entries_for 1 submissions)
  held_images = images_there 1 submissions (λ f h. submission_file f (in_front (image_files 1 submissions) _ f h))

  image_sizes_small : (entries : List Entry) → Each (λ (entry : Entry). IsHeld bound (image_file files (images_of contest_folder) entry)) entries
      → Each (λ n. n ≤ bound) (image_sizes (map (submission_of files (images_of contest_folder)) entries))
  image_sizes_small [] held = tt
  image_sizes_small (entry ∷ entries) held = (held_or_small (image_file files (images_of contest_folder) entry) held.0, image_sizes_small entries held.1)

  submissions_ok : (problems : List Problem) → map (λ (p : Problem). p.name) problems ≡ shorts → Each IsLight problems
      → (list : List Submission) × (submissions_in files (images_of contest_folder) problems (entries_for 1 submissions) ≡ Ok list)
  submissions_ok problems names light =
      let folder = images_of contest_folder in
      let entries = entries_for 1 submissions in
      let list = map (submission_of files folder) entries in
      let lacks = find_none (lacks_image files folder) entries (each_weaker _ _ entries (λ (entry : Entry) held. held_there (image_file files folder entry) held) held_images) in
      let sizes = each_both (λ n. n ≤ bound) (problem_sizes problems) (image_sizes list) (problem_sizes_small problems light) (image_sizes_small entries held_images) in
      let a = total_most 0 (problem_sizes problems ++ image_sizes list) sizes in
      let b = length-append (problem_sizes problems) (image_sizes list) in
      let c = problem_sizes_length problems light in
      let d = mapped_length (λ (p : Problem). p.name) problems in
      let e = ap length names in
      let g = mapped_length (λ (x : Submission). length x.image) list in
      let h = mapped_length (submission_of files folder) entries in
      let k = entries_length 1 submissions in
      let small : total_of problems list ≤ total_limit = omega (arith, a, b, c, d, e, g, h, k, few_shorts, is.few_submissions) in
      let few : length list ≤ submission_limit = omega (arith, h, k, is.few_submissions) in (
        list,
        ap (λ o. submissions_imaged o problems list) lacks
            ∙ ap (λ t. cond t (submissions_within problems list) (Err (fault.TooManySubmissions (length list)))) (fits (length list) submission_limit few)
            ∙ ap (λ t. cond t (Ok list) (Err (fault.TooMuch (total_of problems list)))) (fits (total_of problems list) total_limit small),
      )

  -- ---- the contest

  pub contest_is : (roster : RosterValue) × (contest_of files contest_folder ≡ Ok roster)
  unfolding contest_of
  contest_is =
      let settings = standard_settings in
      let problems = problems_are_read settings.ips in
      let entries = entries_for 1 submissions in
      let made_list = submissions_ok problems.list problems.names problems.light in (
        record { settings = settings; problems = problems.list; submissions = made_list.0 },
        ap (and_then (with_settings files contest_folder)) settings_are
            ∙ ap (and_then (with_problems files contest_folder settings)) problems.is
            ∙ ap (λ r. and_then (with_entries files contest_folder settings problems.list) (and_then (entries_said problems.list) r)) list_read
            ∙ ap (and_then (with_entries files contest_folder settings problems.list)) (entries_are problems.list problems.names)
            ∙ ap (and_then (roster_with settings problems.list)) made_list.1,
      )
