-- Items of a list one after another.
use Rattle.std.proofs.Common.{ℕ, zero, suc, ◌≡◌, ◌<◌, ◌+◌, List, [], ◌∷◌, ◌++◌, length, get_or, map, take, drop, filter, find, Bool, true, false, cond, Some, None, refl, sym, ap, ◌∙◌, arith, add-one, append-nil, append_assoc}
use Rattle.std.proofs.lemmas.List.{map-append}
use Rattle.package_folder.specs.declared.package.Test.{Test}
use Rattle.contest_folder.specs.declared.roster.Problem.{Problem}
use Rattle.contest_folder.specs.declared.roster.Submission.{Submission}
use Rattle.farm_tree.specs.declared.entries.Entry.{Entry}
use Rattle.contest_folder.specs.Problems.{folders_of}
use Rattle.contest_folder.specs.Images.{added, added_all, test_sizes, problem_sizes, image_sizes}

pub drop_item : {X : Type 0} (xs : List X) (i : ℕ) (x : X) → i < length xs → x ≡ get_or xs i x → drop i xs ≡ x ∷ drop (suc i) xs
drop_item [] i x lt e = absurd (omega (arith, lt))
drop_item (y ∷ ys) zero x lt e = ap (λ z. z ∷ ys) (sym e)
drop_item (y ∷ ys) (suc i) x lt e = drop_item ys i x (omega (arith, lt)) e

pub take_item : {X : Type 0} (xs : List X) (i : ℕ) (x : X) → i < length xs → x ≡ get_or xs i x → take (suc i) xs ≡ take i xs ++ x ∷ []
take_item [] i x lt e = absurd (omega (arith, lt))
take_item (y ∷ ys) zero x lt e = ap (λ z. z ∷ []) (sym e)
take_item (y ∷ ys) (suc i) x lt e = ap (λ zs. y ∷ zs) (take_item ys i x (omega (arith, lt)) e)

-- a search among what is left
pub find_item : {X : Type 0} (p : X → Bool) (xs : List X) (i : ℕ) (x : X) (b : Bool) → i < length xs → x ≡ get_or xs i x → p x ≡ b
    → find p (drop i xs) ≡ cond b (Some x) (find p (drop (i + 1) xs))
find_item p xs i x b lt e is =
    rw add-one (ap (find p) (drop_item xs i x lt e) ∙ ap (λ t. cond t (Some x) (find p (drop (suc i) xs))) is)

map_next : {X Y : Type 0} (f : X → Y) (xs : List X) (i : ℕ) (x : X) → i < length xs → x ≡ get_or xs i x
    → map f (take (suc i) xs) ≡ map f (take i xs) ++ f x ∷ []
map_next f [] i x lt e = absurd (omega (arith, lt))
map_next f (y ∷ ys) zero x lt e = ap (λ z. f z ∷ []) (sym e)
map_next f (y ∷ ys) (suc i) x lt e = ap (λ zs. f y ∷ zs) (map_next f ys i x (omega (arith, lt)) e)

pub map_item : {X Y : Type 0} (f : X → Y) (xs : List X) (i : ℕ) (x : X) → i < length xs → x ≡ get_or xs i x
    → map f (take (i + 1) xs) ≡ map f (take i xs) ++ f x ∷ []
map_item f xs i x lt e = rw add-one (map_next f xs i x lt e)

-- what none is, no item is
not_first : {X : Type 0} (p : X → Bool) (y : X) (ys : List X) (b : Bool) → p y ≡ b → cond b (Some y) (find p ys) ≡ None → (p y ≡ false) × (find p ys ≡ None)
not_first p y ys true is none = absurd (let g : Some y ≡ None = none in cc)
not_first p y ys false is none = (is, none)

pub none_is : {X : Type 0} (p : X → Bool) (xs : List X) (i : ℕ) (x : X) → find p xs ≡ None → i < length xs → x ≡ get_or xs i x → p x ≡ false
none_is p [] i x none lt e = absurd (omega (arith, lt))
none_is p (y ∷ ys) zero x none lt e = ap p e ∙ (not_first p y ys (p y) refl none).0
none_is p (y ∷ ys) (suc i) x none lt e = none_is p ys i x (not_first p y ys (p y) refl none).1 (omega (arith, lt)) e

-- the names of folders, one entry after another
folder_onto : (x : Entry) (xs : List Entry) → folders_of (x ∷ xs) ≡ cond x.folder (x.name ∷ folders_of xs) (folders_of xs)
folder_onto x xs = by x.folder
  where
    by : (b : Bool) → map (λ (y : Entry). y.name) (cond b (x ∷ filter (λ (y : Entry). y.folder) xs) (filter (λ (y : Entry). y.folder) xs))
        ≡ cond b (x.name ∷ map (λ (y : Entry). y.name) (filter (λ (y : Entry). y.folder) xs)) (map (λ (y : Entry). y.name) (filter (λ (y : Entry). y.folder) xs))
    by true = refl
    by false = refl

folder_next : (entries : List Entry) (i : ℕ) (entry : Entry) → i < length entries → entry ≡ get_or entries i entry
    → folders_of (take (suc i) entries) ≡ folders_of (take i entries) ++ cond entry.folder (entry.name ∷ []) []
folder_next [] i entry lt e = absurd (omega (arith, lt))
folder_next (x ∷ xs) zero entry lt e =
    ap (λ (y : Entry). folders_of (y ∷ [])) (sym e) ∙ folder_onto entry []
folder_next (x ∷ xs) (suc i) entry lt e =
    folder_onto x (take (suc i) xs)
    ∙ ap (λ ns. cond x.folder (x.name ∷ ns) ns) (folder_next xs i entry (omega (arith, lt)) e)
    ∙ spread x.folder (folders_of (take i xs)) (cond entry.folder (entry.name ∷ []) [])
    ∙ ap (λ ns. ns ++ cond entry.folder (entry.name ∷ []) []) (sym (folder_onto x (take i xs)))
  where
    spread : (b : Bool) (ns ms : List (List ℕ)) → cond b (x.name ∷ (ns ++ ms)) (ns ++ ms) ≡ cond b (x.name ∷ ns) ns ++ ms
    spread true ns ms = refl
    spread false ns ms = refl

pub folder_item : (entries : List Entry) (i : ℕ) (entry : Entry) → i < length entries → entry ≡ get_or entries i entry
    → folders_of (take (i + 1) entries) ≡ folders_of (take i entries) ++ folders_of (entry ∷ [])
folder_item entries i entry lt e = rw add-one (folder_next entries i entry lt e ∙ ap (λ ns. folders_of (take i entries) ++ ns) (sym (folder_onto entry [])))

pub a_folder : (entry : Entry) (b : Bool) → entry.folder ≡ b → folders_of (entry ∷ []) ≡ cond b (entry.name ∷ []) []
a_folder entry b e = folder_onto entry [] ∙ ap (λ t. cond t (entry.name ∷ []) []) e

pub added_more : (total : ℕ) (xs ys : List ℕ) → added_all total (xs ++ ys) ≡ added_all (added_all total xs) ys
added_more total [] ys = refl
added_more total (x ∷ xs) ys = added_more (added total x) xs ys

-- the sizes of test files, one test after another
test_sizes_push : (tests : List Test) (test : Test) → test_sizes (tests ++ test ∷ []) ≡ test_sizes tests ++ length test.input ∷ length test.answer ∷ []
test_sizes_push [] test = refl
test_sizes_push (t ∷ tests) test = ap (λ ns. length t.input ∷ length t.answer ∷ ns) (test_sizes_push tests test)

problem_sizes_push : (problems : List Problem) (problem : Problem) → problem_sizes (problems ++ problem ∷ []) ≡ problem_sizes problems ++ test_sizes problem.contents.tests
problem_sizes_push [] problem = append-nil (test_sizes problem.contents.tests)
problem_sizes_push (p ∷ problems) problem =
    ap (λ ns. test_sizes p.contents.tests ++ ns) (problem_sizes_push problems problem)
    ∙ sym (append_assoc (test_sizes p.contents.tests) (problem_sizes problems) (test_sizes problem.contents.tests))

pub test_item : (total : ℕ) (tests : List Test) (i : ℕ) (test : Test) → i < length tests → test ≡ get_or tests i test
    → added_all total (test_sizes (take (i + 1) tests)) ≡ added (added (added_all total (test_sizes (take i tests))) (length test.input)) (length test.answer)
test_item total tests i test lt e =
    rw add-one (ap (λ ts. added_all total (test_sizes ts)) (take_item tests i test lt e)
    ∙ ap (added_all total) (test_sizes_push (take i tests) test)
    ∙ added_more total (test_sizes (take i tests)) (length test.input ∷ length test.answer ∷ []))

pub problem_item : (total : ℕ) (problems : List Problem) (i : ℕ) (problem : Problem) → i < length problems → problem ≡ get_or problems i problem
    → added_all total (problem_sizes (take (i + 1) problems)) ≡ added_all (added_all total (problem_sizes (take i problems))) (test_sizes problem.contents.tests)
problem_item total problems i problem lt e =
    rw add-one (ap (λ ps. added_all total (problem_sizes ps)) (take_item problems i problem lt e)
    ∙ ap (added_all total) (problem_sizes_push (take i problems) problem)
    ∙ added_more total (problem_sizes (take i problems)) (test_sizes problem.contents.tests))

-- the sizes of images, one submission after another
pub image_item : {X : Type 0} (f : X → Submission) (sizes : List ℕ) (xs : List X) (i : ℕ) (x : X) → i < length xs → x ≡ get_or xs i x
    → added_all 0 (sizes ++ image_sizes (map f (take (i + 1) xs))) ≡ added (added_all 0 (sizes ++ image_sizes (map f (take i xs)))) (length (f x).image)
image_item f sizes xs i x lt e =
    ap (λ ss. added_all 0 (sizes ++ image_sizes ss)) (map_item f xs i x lt e)
    ∙ ap (λ ns. added_all 0 (sizes ++ ns)) (map-append (λ (s : Submission). length s.image) (map f (take i xs)) (f x ∷ []))
    ∙ ap (added_all 0) (sym (append_assoc sizes (image_sizes (map f (take i xs))) (length (f x).image ∷ [])))
    ∙ added_more 0 (sizes ++ image_sizes (map f (take i xs))) (length (f x).image ∷ [])
