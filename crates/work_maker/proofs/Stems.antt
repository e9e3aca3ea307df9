-- The tests of a made problem, by the paths of its files.
use Rattle.std.proofs.Common.{ℕ, zero, suc, ◌≡◌, ◌<◌, ◌≤◌, List, [], ◌∷◌, Bool, true, false, ◌&&◌, Result, Ok, Err, refl, ap, ◌∙◌, arith, codes}
use Rattle.std.specs.Fmt.{digits}
use Rattle.std.specs.Str.{bytes_eq}
use Rattle.std.proofs.lemmas.Slice.Eq.{bytes_eq-Decides}
use Rattle.package_folder.specs.declared.package.PackageFault.{PackageFault}
use Rattle.package_folder.specs.Names.{stems_of}
use Rattle.package_folder.specs.Order.{in_order}
use Rattle.work_maker.specs.Files.{test_path, problem_path}
use Rattle.work_maker.proofs.Each.{passes_below, passes_at, both}

-- the paths of the files of as many tests as the third number says, from `test` on; and those of the tests themselves
abbrev pub test_paths : ℕ → ℕ → ℕ → List (List ℕ)
test_paths problem test zero = []
test_paths problem test (suc more) =
    test_path problem test (codes ".in") ∷ test_path problem test (codes ".ans") ∷ test_paths problem (suc test) more

abbrev pub stems_from : ℕ → ℕ → ℕ → List (List ℕ)
stems_from problem test zero = []
stems_from problem test (suc more) = test_path problem test [] ∷ stems_from problem (suc test) more

-- the folder of a problem's tests
abbrev pub data_folder : ℕ → List ℕ
data_folder problem = problem_path problem (codes "data")

abbrev same_texts : List (List ℕ) → List (List ℕ) → Bool
same_texts [] [] = true
same_texts [] (y ∷ ys) = false
same_texts (x ∷ xs) [] = false
same_texts (x ∷ xs) (y ∷ ys) = bytes_eq x y && same_texts xs ys

texts_are : (xs ys : List (List ℕ)) → same_texts xs ys ≡ true → xs ≡ ys
texts_are [] [] e = refl
texts_are [] (y ∷ ys) e = cc
texts_are (x ∷ xs) [] e = cc
texts_are (x ∷ xs) (y ∷ ys) e =
    let h = both (bytes_eq x y) (same_texts xs ys) e in
    ap (λ t. t ∷ xs) ((bytes_eq-Decides x y).0 h.0) ∙ ap (λ ts. y ∷ ts) (texts_are xs ys h.1)

abbrev gives : Result (List (List ℕ)) PackageFault → List (List ℕ) → Bool
gives (Ok stems) texts = same_texts stems texts
gives (Err fault) texts = false

gives_is : (read : Result (List (List ℕ)) PackageFault) (texts : List (List ℕ)) → gives read texts ≡ true → read ≡ Ok texts
gives_is (Ok stems) texts e = ap Ok (texts_are stems texts e)
gives_is (Err fault) texts e = cc

-- the tests are found among the paths of their files, for from one to five of them
abbrev finds : ℕ → ℕ → Bool
finds problem more = gives (stems_of (data_folder problem) (in_order (test_paths problem 1 (suc more)))) (stems_from problem 1 (suc more))

stems_pass : passes_below (λ problem. passes_below (finds problem) 5) 51 ≡ true
unfolding digits
stems_pass = refl

pub stems_are : (problem more : ℕ) → problem ≤ 50 → more < 5
    → stems_of (data_folder problem) (in_order (test_paths problem 1 (suc more))) ≡ Ok (stems_from problem 1 (suc more))
stems_are problem more known few =
    gives_is _ (stems_from problem 1 (suc more))
    (passes_at (finds problem) 5 more (passes_at (λ p. passes_below (finds p) 5) 51 problem stems_pass (omega (arith, known))) few)
