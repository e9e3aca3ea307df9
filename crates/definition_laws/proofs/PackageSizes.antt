-- The test files of a package are too large from the first file past the limit on.
use Rattle.std.proofs.Common.{ℕ, zero, suc, ◌≡◌, ◌+◌, ◌≤◌, ◌<◌, List, [], ◌∷◌, Option, Some, Result, Ok, Err, Bool, cond, refl, sym, ap, ◌∙◌, subst, arith, length, take, fold}
use Rattle.std.specs.List.{sum}
use Rattle.std.specs.Prelude.{unwrap_or}
use Rattle.std.proofs.lemmas.Bool.{le-leb, lt-leb}
use Rattle.farm_tree.specs.declared.reads.TreeFile.{TreeFile}
use Rattle.farm_tree.specs.Reading.{file_limit}
use Rattle.package_folder.specs.declared.package.PackageFault.{PackageFault}
use Rattle.package_folder.specs.declared.package.PackageFault.TheVariants.{TooMuch, TooLarge}
use Rattle.package_folder.specs.Names.{input_path, answer_path, name_below}
use Rattle.package_folder.specs.Reading.{and_then, data_of, held_at, total_limit, total_within, total_with_file, total_with_bytes, total_with_test, total_from, file_within}
use Rattle.package_folder.proofs.Members.{first_in, later_in}
use Rattle.definition_laws.specs.TestSizes.{IsReadable, AreReadable, sizes_of}

-- the sum onto a number
abbrev onto : ℕ → List ℕ → ℕ
onto n sizes = fold (λ a x. a + x) n sizes

onto_grows : (n : ℕ) (sizes : List ℕ) → n ≤ onto n sizes
onto_grows n [] = omega arith
onto_grows n (size ∷ sizes) = let rest = onto_grows (n + size) sizes in omega (arith, rest)

within_is : (n : ℕ) → n ≤ total_limit → total_within n ≡ Ok n
within_is n h = ap (λ (t : Bool). cond t (Ok n) (Err (TooMuch n))) (le-leb n total_limit h)

past_is : (n : ℕ) → total_limit < n → total_within n ≡ Err (TooMuch n)
past_is n h = ap (λ (t : Bool). cond t (Ok n) (Err (TooMuch n))) (lt-leb n total_limit h)

-- a file that is there is counted
counted : (files : List TreeFile) (path test : List ℕ) (n : ℕ) (file : List ℕ) → IsReadable files file → total_with_bytes files path test n file ≡ total_within (n + length (held_at files file))
counted files path test n file there =
    ap (λ (o : Option (List ℕ)). and_then (total_with_file test n) (file_within (name_below path file) o)) there.1
    ∙ (ap (λ (t : Bool). and_then (total_with_file test n) (cond t (Ok (Some there.0)) (Err (TooLarge (name_below path file) (length there.0))))) (le-leb (length there.0) file_limit there.2)
    ∙ ap (λ (o : Option (List ℕ)). total_within (n + length (unwrap_or o []))) (sym there.1))

-- both files of a test
test_counted : (files : List TreeFile) (path : List ℕ) (n : ℕ) (stem : List ℕ) → IsReadable files (input_path stem) → IsReadable files (answer_path stem)
    → total_with_test files path n stem ≡ and_then (λ one. total_within (one + length (held_at files (answer_path stem)))) (total_within (n + length (held_at files (input_path stem))))
test_counted files path n stem input answer =
    let test = name_below (data_of path) stem in
    ap (λ (r : Result ℕ PackageFault). and_then (λ one. total_with_bytes files path test one (answer_path stem)) r) (counted files path test n (input_path stem) input)
    ∙ by (total_within (n + length (held_at files (input_path stem))))
  where
    by : (r : Result ℕ PackageFault) → and_then (λ one. total_with_bytes files path (name_below (data_of path) stem) one (answer_path stem)) r ≡ and_then (λ one. total_within (one + length (held_at files (answer_path stem)))) r
    by (Ok one) = counted files path (name_below (data_of path) stem) one (answer_path stem) answer
    by (Err e) = refl

-- the tests one after the other
abbrev next_total : List TreeFile → List ℕ → List (List ℕ) → Result ℕ PackageFault → Result ℕ PackageFault
next_total files path stems r = and_then (λ both. total_from files path both stems) r

first_counted : (files : List TreeFile) (path : List ℕ) (n : ℕ) (stem : List ℕ) (stems : List (List ℕ)) → AreReadable files (stem ∷ stems)
    → total_from files path n (stem ∷ stems) ≡ next_total files path stems (and_then (λ one. total_within (one + length (held_at files (answer_path stem)))) (total_within (n + length (held_at files (input_path stem)))))
first_counted files path n stem stems h =
    ap (next_total files path stems) (test_counted files path n stem (h.input stem (first_in stem stems)) (h.answer stem (first_in stem stems)))

rest_readable : (files : List TreeFile) (stem : List ℕ) (stems : List (List ℕ)) → AreReadable files (stem ∷ stems) → AreReadable files stems
rest_readable files stem stems h = record {
  input = λ other k. h.input other (later_in stem other stems k);
  answer = λ other k. h.answer other (later_in stem other stems k);
}

abbrev after_input : List TreeFile → List ℕ → List ℕ → List (List ℕ) → Result ℕ PackageFault → Result ℕ PackageFault
after_input files path stem stems r = next_total files path stems (and_then (λ one. total_within (one + length (held_at files (answer_path stem)))) r)

within_from : (files : List TreeFile) (path : List ℕ) (n : ℕ) (stems : List (List ℕ)) → AreReadable files stems → onto n (sizes_of files stems) ≤ total_limit → total_from files path n stems ≡ Ok (onto n (sizes_of files stems))
within_from files path n [] h few = refl
within_from files path n (stem ∷ stems) h few =
    let a = length (held_at files (input_path stem)) in
    let b = length (held_at files (answer_path stem)) in
    let less = onto_grows (n + a + b) (sizes_of files stems) in
    first_counted files path n stem stems h
    ∙ (ap (after_input files path stem stems) (within_is (n + a) (omega (arith, less, few)))
    ∙ (ap (next_total files path stems) (within_is (n + a + b) (omega (arith, less, few)))
    ∙ within_from files path (n + a + b) stems (rest_readable files stem stems h) few))

past_from : (files : List TreeFile) (path : List ℕ) (n : ℕ) (stems : List (List ℕ)) (k : ℕ) → AreReadable files stems → onto n (take k (sizes_of files stems)) ≤ total_limit
    → total_limit < onto n (take (suc k) (sizes_of files stems)) → total_from files path n stems ≡ Err (TooMuch (onto n (take (suc k) (sizes_of files stems))))
past_from files path n [] k h few over = absurd (nothing k few over)
  where
    nothing : (j : ℕ) → onto n (take j []) ≤ total_limit → total_limit < onto n (take (suc j) []) → ⊥
    nothing zero f g = omega arith
    nothing (suc j) f g = omega arith
past_from files path n (stem ∷ stems) zero h few over =
    let a = length (held_at files (input_path stem)) in
    first_counted files path n stem stems h ∙ ap (after_input files path stem stems) (past_is (n + a) over)
past_from files path n (stem ∷ stems) (suc zero) h few over =
    let a = length (held_at files (input_path stem)) in
    let b = length (held_at files (answer_path stem)) in
    first_counted files path n stem stems h
    ∙ (ap (after_input files path stem stems) (within_is (n + a) few) ∙ ap (next_total files path stems) (past_is (n + a + b) over))
past_from files path n (stem ∷ stems) (suc (suc k)) h few over =
    let a = length (held_at files (input_path stem)) in
    let b = length (held_at files (answer_path stem)) in
    let less = onto_grows (n + a + b) (take k (sizes_of files stems)) in
    first_counted files path n stem stems h
    ∙ (ap (after_input files path stem stems) (within_is (n + a) (omega (arith, less, few)))
    ∙ (ap (next_total files path stems) (within_is (n + a + b) (omega (arith, less, few)))
    ∙ past_from files path (n + a + b) stems k (rest_readable files stem stems h) few over))

pub within : (files : List TreeFile) (path : List ℕ) (stems : List (List ℕ)) → AreReadable files stems → sum (sizes_of files stems) ≤ total_limit → total_from files path 0 stems ≡ Ok (sum (sizes_of files stems))
within files path stems h few = within_from files path 0 stems h few

pub first_past : (files : List TreeFile) (path : List ℕ) (stems : List (List ℕ)) (k : ℕ) → AreReadable files stems → sum (take k (sizes_of files stems)) ≤ total_limit
    → total_limit < sum (take (k + 1) (sizes_of files stems)) → total_from files path 0 stems ≡ Err (TooMuch (sum (take (k + 1) (sizes_of files stems))))
first_past files path stems k h few over =
    let e : k + 1 ≡ suc k = omega arith in
    subst (λ (n : ℕ). total_limit < sum (take n (sizes_of files stems)) → total_from files path 0 stems ≡ Err (TooMuch (sum (take n (sizes_of files stems))))) (sym e) (past_from files path 0 stems k h few) over
