-- The tests of a package are its inputs.
use Rattle.std.proofs.Common.{ℕ, ◌≡◌, ◌-◌, inl, inr, List, [], ◌∷◌, ◌++◌, Option, Some, None, Result, Ok, Err, Bool, true, false, cond, not, ◌&&◌, refl, sym, ap, ◌∙◌, subst, arith, length, map, filter, filter_map, find, take, drop, eqb, Contains, append_assoc, Ordering, Less}
use Rattle.std.specs.Prelude.{◌↔◌, codes, nat_eq, is_some, unwrap_or, nat_le}
use Rattle.std.specs.List.{list_all, ends_with}
use Rattle.std.specs.Ordering.{nat_cmp, ordering_then}
use Rattle.std.proofs.lemmas.Cmp.{tied_itself, nat_cmp_total}
use Rattle.std.specs.Cmp.Lexicographic.{slice_cmp, pointwise}
use Rattle.std.proofs.lemmas.Bool.{or_cases, or_left, or_right, and_parts}
use Rattle.std.proofs.lemmas.List.{length-append}
use Rattle.std.proofs.lemmas.Map.Keys.{sorted_tail}
use Rattle.std.proofs.Math.Seq.{take-append_seam, drop-append_seam}
use Rattle.std.proofs.lemmas.List.{take-append-drop}
use Rattle.std.proofs.lemmas.Slice.Eq.{bytes_eq-Decides}
use Rattle.farm_tree.specs.declared.reads.TreeFile.{TreeFile}
use Rattle.farm_tree.specs.Reading.{file_at}
use Rattle.farm_tree.specs.Listing.{in_folder, below}
use Rattle.farm_tree.proofs.Components.{below_is, below_in}
use Rattle.problem_settings.specs.declared.yaml.Yaml.{Yaml as YamlValue}
use Rattle.default_validator.specs.declared.flags.Flags.{Flags as ValidatorFlags}
use Rattle.package_folder.specs.declared.package.Test.{Test}
use Rattle.package_folder.specs.declared.package.Package.{Package}
use Rattle.package_folder.specs.declared.package.PackageFault.{PackageFault}
use Rattle.package_folder.specs.declared.package.PackageFault.TheVariants.{TooManyTests}
use Rattle.package_folder.specs.Order.{compare_bytes, IsRising}
use Rattle.package_folder.specs.Names.{is_below, name_below, paths_below, is_groups, is_of_tests, without_in, stem_of, input_path, answer_path, stems_among, lacks_answer, test_limit, few_enough, answered, ungrouped, stems_of}
use Rattle.package_folder.specs.Reading.{and_then, yaml_in, limit_in, flags_by, data_of, tests_in, test_at, held_at, check_by, total_from, total_with_test, total_with_bytes, total_with_file, file_within}
use Rattle.package_folder.specs.Package.{package_of, with_yaml, with_flags, with_tests}
use Rattle.package_folder.specs.Walk.{HasFile}
use Rattle.package_folder.proofs.Members.{first_in, later_in, first_or_later, none_in, in_map, from_map, in_filter, from_filter, in_filter_map, from_filter_map}
use Rattle.package_folder.proofs.Ordered.{rising_none, rising_cons, head_below, ordered_rising, ordered_same}
use Rattle.definition_laws.specs.TestFiles.{in_data, IsTestName, HasInput, names_of}

-- ---- what a package that was read was made of

then_ok : {A B : Type 0} (next : A → Result B PackageFault) (r : Result A PackageFault) (b : B) → and_then next r ≡ Ok b → (a : A) × (r ≡ Ok a) × (next a ≡ Ok b)
then_ok next (Ok a) b e = (a, refl, e)
then_ok next (Err f) b e = let no' : ⊥ = cc in absurd no'

few_are : (stems read : List (List ℕ)) → few_enough stems ≡ Ok read → stems ≡ read
few_are [] read e = let no' : ⊥ = cc in absurd no'
few_are (stem ∷ stems) read e = by (nat_le (length (stem ∷ stems)) test_limit) e
  where
    by : (t : Bool) → cond t (Ok (stem ∷ stems)) (Err (TooManyTests (length (stem ∷ stems)))) ≡ Ok read → stem ∷ stems ≡ read
    by true f = let same : stem ∷ stems ≡ read = cc in same
    by false f = let no' : ⊥ = cc in absurd no'

answered_are : (folder : List ℕ) (o : Option (List ℕ)) (stems read : List (List ℕ)) → answered folder o stems ≡ Ok read → stems ≡ read
answered_are folder (Some stem) stems read e = let no' : ⊥ = cc in absurd no'
answered_are folder None stems read e = few_are stems read e

ungrouped_are : (folder : List ℕ) (o : Option (List ℕ)) (paths stems read : List (List ℕ)) → ungrouped folder o paths stems ≡ Ok read → stems ≡ read
ungrouped_are folder (Some path) paths stems read e = let no' : ⊥ = cc in absurd no'
ungrouped_are folder None paths stems read e = answered_are folder (find (lacks_answer paths) stems) stems read e

abbrev all_stems : List TreeFile → List ℕ → List (List ℕ)
all_stems files path = stems_among (data_of path) (paths_below (data_of path) files)

record Made (files : List TreeFile) (path : List ℕ) (read : Package) : Type 0 where
  pub total : ℕ
  pub within : total_from files path 0 (all_stems files path) ≡ Ok total
  pub tests : read.tests ≡ map (test_at files path) (all_stems files path)

abbrev tests_of : Result Package PackageFault → List Test
tests_of (Ok read) = read.tests
tests_of (Err e) = []

tests_with : (files : List TreeFile) (path : List ℕ) (ips : ℕ) (yaml : YamlValue) (ms : ℕ) (flags : Option ValidatorFlags) (tests : List Test) (read : Package)
    → with_tests files path ips yaml ms flags tests ≡ Ok read → tests ≡ read.tests
tests_with files path ips yaml ms flags tests read e =
    let check = then_ok _ (check_by files path yaml.flags flags tests) read e in
    ap tests_of check.2

made : (files : List TreeFile) (path : List ℕ) (ips : ℕ) (read : Package) → package_of files path ips ≡ Ok read → Made files path read
unfolding package_of
made files path ips read e =
    let yaml = then_ok (with_yaml files path ips) (yaml_in files path) read e in
    let ms = then_ok (λ ms. and_then (with_flags files path ips yaml.0 ms) (flags_by yaml.0.validation yaml.0.flags)) (limit_in files path) read yaml.2 in
    let flags = then_ok (with_flags files path ips yaml.0 ms.0) (flags_by yaml.0.validation yaml.0.flags) read ms.2 in
    let stems_read = stems_of (data_of path) (paths_below (data_of path) files) in
    let tests = then_ok (with_tests files path ips yaml.0 ms.0 flags.0) (and_then (tests_in files path) stems_read) read flags.2 in
    let stems = then_ok (tests_in files path) stems_read tests.0 tests.1 in
    let total = then_ok (λ (n : ℕ). Ok (map (test_at files path) stems.0)) (total_from files path 0 stems.0) tests.0 stems.2 in
    let are : all_stems files path ≡ stems.0 = ungrouped_are (data_of path) (find is_groups (paths_below (data_of path) files)) (paths_below (data_of path) files) (all_stems files path) stems.0 stems.1 in
    let same_tests : map (test_at files path) stems.0 ≡ tests.0 = let f = total.2 in cc in
    let package_tests : tests.0 ≡ read.tests = tests_with files path ips yaml.0 ms.0 flags.0 tests.0 read tests.2 in
    record {
      total = total.0;
      within = ap (λ (s : List (List ℕ)). total_from files path 0 s) are ∙ total.1;
      tests = sym package_tests ∙ (sym same_tests ∙ ap (λ (s : List (List ℕ)). map (test_at files path) s) (sym are));
    }

-- ---- a path that ends in `.in`

abbrev dot_in : List ℕ
dot_in = codes ".in"

lacks_slash : (x more ds : List ℕ) → list_all (λ b. not (eqb b 47)) ds ≡ true → x ++ 47 ∷ more ≡ ds → ⊥
lacks_slash x more [] h e = none_of x e
  where
    none_of : (y : List ℕ) → y ++ 47 ∷ more ≡ [] → ⊥
    none_of [] f = let no' : ⊥ = cc in no'
    none_of (b ∷ y) f = let no' : ⊥ = cc in no'
lacks_slash [] more (d ∷ ds) h e =
    let is : 47 ≡ d = cc in
    let bad : false ≡ true = subst (λ (b : ℕ). (not (eqb b 47) && list_all (λ c. not (eqb c 47)) ds) ≡ true) (sym is) h in
    let no' : ⊥ = cc in no'
lacks_slash (b ∷ x) more (d ∷ ds) h e =
    let rest : x ++ 47 ∷ more ≡ ds = cc in
    lacks_slash x more ds ((and_parts (not (eqb d 47)) (list_all (λ c. not (eqb c 47)) ds) h).1) rest

-- behind a folder's slash stands the whole ending
behind_folder : (x more stem : List ℕ) → x ++ 47 ∷ more ≡ stem ++ dot_in → (rest : List ℕ) × (more ≡ rest ++ dot_in) × (stem ≡ x ++ 47 ∷ rest)
behind_folder x more [] e = absurd (lacks_slash x more dot_in refl e)
behind_folder [] more (s ∷ stem) e =
    let head : 47 ≡ s = cc in
    let rest : more ≡ stem ++ dot_in = cc in
    (stem, rest, ap (λ (b : ℕ). b ∷ stem) (sym head))
behind_folder (b ∷ x) more (s ∷ stem) e =
    let head : b ≡ s = cc in
    let rest : x ++ 47 ∷ more ≡ stem ++ dot_in = cc in
    let found = behind_folder x more stem rest in
    (found.0, found.1, ap (λ (c : ℕ). c ∷ stem) (sym head) ∙ ap (λ (z : List ℕ). b ∷ z) found.2)

without_is : (p stem : List ℕ) → without_in p ≡ Some stem → p ≡ stem ++ dot_in
without_is p stem e = by (ends_with nat_eq p dot_in) refl e
  where
    by : (t : Bool) → ends_with nat_eq p dot_in ≡ t → cond t (Some (take (length p - 3) p)) None ≡ Some stem → p ≡ stem ++ dot_in
    by true f is =
        let same : take (length p - 3) p ≡ stem = cc in
        let end : dot_in ≡ drop (length p - 3) p = (bytes_eq-Decides dot_in (drop (length p - 3) p)).0 f in
        sym (take-append-drop (length p - 3) p) ∙ (ap (λ (z : List ℕ). take (length p - 3) p ++ z) (sym end) ∙ ap (λ (z : List ℕ). z ++ dot_in) same)
    by false f is = let no' : ⊥ = cc in absurd no'

is_without : (p stem : List ℕ) → p ≡ stem ++ dot_in → without_in p ≡ Some stem
is_without p stem e = ap without_in e ∙ here
  where
    n : length (stem ++ dot_in) - 3 ≡ length stem
    n = omega (arith, length-append stem dot_in)

    ends : ends_with nat_eq (stem ++ dot_in) dot_in ≡ true
    ends = ap (λ (m : ℕ). pointwise nat_eq dot_in (drop m (stem ++ dot_in))) n ∙ ap (λ (z : List ℕ). pointwise nat_eq dot_in z) (drop-append_seam stem dot_in)

    here : without_in (stem ++ dot_in) ≡ Some stem
    here = ap (λ (t : Bool). cond t (Some (take (length (stem ++ dot_in) - 3) (stem ++ dot_in))) None) ends
        ∙ ap (λ (z : List ℕ). Some z) (ap (λ (m : ℕ). take m (stem ++ dot_in)) n ∙ take-append_seam stem dot_in)

-- ---- the stems are the names of inputs

some_below : (folder p : List ℕ) → is_below folder p ≡ true → (rest : List ℕ) × (p ≡ in_folder folder rest)
some_below folder p e = by (below folder p) refl e
  where
    by : (o : Option (List ℕ)) → below folder p ≡ o → is_some o ≡ true → (rest : List ℕ) × (p ≡ in_folder folder rest)
    by None f is = let no' : ⊥ = cc in absurd no'
    by (Some rest) f is = (rest, below_is folder p rest f)

below_some : (folder p rest : List ℕ) → p ≡ in_folder folder rest → is_below folder p ≡ true
below_some folder p rest e = ap (λ (z : List ℕ). is_some (below folder z)) e ∙ ap (λ (o : Option (List ℕ)). is_some o) (below_in folder rest)

name_in : (folder rest p : List ℕ) → p ≡ in_folder folder rest → name_below folder p ≡ rest
name_in folder rest p e = ap (λ (z : List ℕ). unwrap_or (below folder z) []) e ∙ ap (λ (o : Option (List ℕ)). unwrap_or o []) (below_in folder rest)

-- a path below a folder of the folder is one below the folder
deeper : (folder name rest : List ℕ) → in_folder (in_folder folder name) rest ≡ in_folder folder (name ++ 47 ∷ rest)
deeper folder name rest = rw append_assoc refl

regroup : (folder name end : List ℕ) → in_folder folder name ++ end ≡ in_folder folder (name ++ end)
regroup folder name end = rw append_assoc refl

-- the name of a stem below one of the folders
pub record IsStem (files : List TreeFile) (path stem : List ℕ) : Type 0 where
  pub name : List ℕ
  pub stem_is : stem ≡ in_folder (data_of path) name
  pub is_test : IsTestName name
  pub there : HasFile files (stem ++ dot_in)

test_stem : (files : List TreeFile) (path folder p stem : List ℕ) → ((rest : List ℕ) → IsTestName (folder ++ 47 ∷ rest)) → is_below (in_folder (data_of path) folder) p ≡ true
    → p ≡ stem ++ dot_in → HasFile files p → IsStem files path stem
test_stem files path folder p stem test e is there =
    let inside = some_below (in_folder (data_of path) folder) p e in
    let whole : in_folder (data_of path) folder ++ 47 ∷ inside.0 ≡ stem ++ dot_in = sym inside.1 ∙ is in
    let cut = behind_folder (in_folder (data_of path) folder) inside.0 stem whole in
    record {
      name = folder ++ 47 ∷ cut.0;
      stem_is = cut.2 ∙ deeper (data_of path) folder cut.0;
      is_test = test cut.0;
      there = subst (λ (z : List ℕ). HasFile files z) is there;
    }

stem_said : (folder p stem : List ℕ) → stem_of folder p ≡ Some stem → (is_of_tests folder p ≡ true) × (without_in p ≡ Some stem)
stem_said folder p stem e = by (is_of_tests folder p) refl e
  where
    by : (t : Bool) → is_of_tests folder p ≡ t → cond t (without_in p) None ≡ Some stem → (is_of_tests folder p ≡ true) × (without_in p ≡ Some stem)
    by true f is = (f, is)
    by false f is = let no' : ⊥ = cc in absurd no'

from_stems : (files : List TreeFile) (path stem : List ℕ) → Contains (all_stems files path) stem → IsStem files path stem
from_stems files path stem h =
    let paths = paths_below (data_of path) files in
    let found = from_filter_map (stem_of (data_of path)) stem paths ((ordered_same (filter_map (stem_of (data_of path)) paths) stem).0 h) in
    let listed = from_filter (is_below (data_of path)) found.0 (map (λ file. file.path) files) ((ordered_same (filter (is_below (data_of path)) (map (λ file. file.path) files)) found.0).0 found.1) in
    let said = stem_said (data_of path) found.0 stem found.2 in
    let is = without_is found.0 stem said.1 in
    elim (or_cases (is_below (in_folder (data_of path) (codes "sample")) found.0) (is_below (in_folder (data_of path) (codes "secret")) found.0) said.0) [
      | inl sample ↦ test_stem files path (codes "sample") found.0 stem (λ rest. (rest, inl refl)) sample is listed.0
      | inr secret ↦ test_stem files path (codes "secret") found.0 stem (λ rest. (rest, inr refl)) secret is listed.0
    ]

of_tests : (path p name rest : List ℕ) → p ≡ in_folder (data_of path) (name ++ dot_in) → IsTestName name → is_of_tests (data_of path) p ≡ true
of_tests path p name rest is (more, inl sample) =
    or_left _ _ (below_some (in_folder (data_of path) (codes "sample")) p (more ++ dot_in)
    (is ∙ (ap (λ (z : List ℕ). in_folder (data_of path) (z ++ dot_in)) sample ∙ sym (deeper (data_of path) (codes "sample") (more ++ dot_in)))))
of_tests path p name rest is (more, inr secret) =
    or_right _ _ (below_some (in_folder (data_of path) (codes "secret")) p (more ++ dot_in)
    (is ∙ (ap (λ (z : List ℕ). in_folder (data_of path) (z ++ dot_in)) secret ∙ sym (deeper (data_of path) (codes "secret") (more ++ dot_in)))))

in_stems : (files : List TreeFile) (path name : List ℕ) → HasInput files path name → Contains (all_stems files path) (in_folder (data_of path) name)
in_stems files path name h =
    let p = in_data path (name ++ dot_in) in
    let paths = paths_below (data_of path) files in
    let listed = (ordered_same (filter (is_below (data_of path)) (map (λ file. file.path) files)) p).1 (in_filter (is_below (data_of path)) p (map (λ file. file.path) files) h.1 (below_some (data_of path) p (name ++ dot_in) refl)) in
    let whole : p ≡ in_folder (data_of path) name ++ dot_in = sym (regroup (data_of path) name dot_in) in
    let said : stem_of (data_of path) p ≡ Some (in_folder (data_of path) name)
    = ap (λ (t : Bool). cond t (without_in p) None) (of_tests path p name [] refl h.0) ∙ is_without p (in_folder (data_of path) name) whole in
    (ordered_same (filter_map (stem_of (data_of path)) paths) (in_folder (data_of path) name)).1 (in_filter_map (stem_of (data_of path)) p (in_folder (data_of path) name) paths listed said)

-- ---- the names of the tests

names_are : (files : List TreeFile) (path : List ℕ) (stems : List (List ℕ)) → names_of (map (test_at files path) stems) ≡ map (name_below (data_of path)) stems
names_are files path [] = refl
names_are files path (stem ∷ stems) = ap (λ (z : List (List ℕ)). name_below (data_of path) stem ∷ z) (names_are files path stems)

package_names : (files : List TreeFile) (path : List ℕ) (read : Package) → Made files path read → names_of read.tests ≡ map (name_below (data_of path)) (all_stems files path)
package_names files path read m = ap names_of m.tests ∙ names_are files path (all_stems files path)

pub inputs : (files : List TreeFile) (path : List ℕ) (ips : ℕ) (read : Package) → package_of files path ips ≡ Ok read → (name : List ℕ) → Contains (names_of read.tests) name ↔ HasInput files path name
inputs files path ips read e name = (
  (λ h.
      let m = made files path ips read e in
      let found = from_map (name_below (data_of path)) name (all_stems files path) (subst (λ (z : List (List ℕ)). Contains z name) (package_names files path read m) h) in
      let s = from_stems files path found.0 found.1 in
      let same : s.name ≡ name = sym (name_in (data_of path) s.name found.0 s.stem_is) ∙ found.2 in
      let file : found.0 ++ dot_in ≡ in_data path (s.name ++ dot_in) = ap (λ (z : List ℕ). z ++ dot_in) s.stem_is ∙ regroup (data_of path) s.name dot_in in
      subst (λ (n : List ℕ). HasInput files path n) same (s.is_test, subst (λ (z : List ℕ). HasFile files z) file s.there)),
  (λ h.
      let m = made files path ips read e in
      let there = in_map (name_below (data_of path)) (in_folder (data_of path) name) (all_stems files path) (in_stems files path name h) in
      let named = subst (λ (n : List ℕ). Contains (map (name_below (data_of path)) (all_stems files path)) n) (name_in (data_of path) name (in_folder (data_of path) name) refl) there in
      subst (λ (z : List (List ℕ)). Contains z name) (sym (package_names files path read m)) named),
)

-- ---- in order

same_prefix : (prefix x y : List ℕ) → compare_bytes (prefix ++ x) (prefix ++ y) ≡ compare_bytes x y
same_prefix [] x y = refl
same_prefix (b ∷ prefix) x y = ap (λ (o : Ordering). ordering_then o (slice_cmp nat_cmp (prefix ++ x) (prefix ++ y))) (tied_itself nat_cmp_total b) ∙ same_prefix prefix x y

rising_names : (folder : List ℕ) (stems : List (List ℕ)) → ((stem : List ℕ) → Contains stems stem → (name : List ℕ) × (stem ≡ in_folder folder name)) → IsRising stems → IsRising (map (name_below folder) stems)
rising_names folder [] inside rising = rising_none
rising_names folder (stem ∷ stems) inside rising =
    rising_cons (name_below folder stem) (map (name_below folder) stems)
    (λ y h.
    let found = from_map (name_below folder) y stems h in
    let first' = inside stem (first_in stem stems) in
    let other = inside found.0 (later_in stem found.0 stems found.1) in
    let less : compare_bytes stem found.0 ≡ Less = head_below stem found.0 stems rising found.1 in
    let stem_name = name_in folder first'.0 stem first'.1 in
    let other_name = sym (name_in folder other.0 found.0 other.1) ∙ found.2 in
    ap (λ (z : List ℕ). compare_bytes z y) stem_name
    ∙ (ap (λ (z : List ℕ). compare_bytes first'.0 z) (sym other_name)
    ∙ (sym (same_prefix folder (47 ∷ first'.0) (47 ∷ other.0))
    ∙ (ap (λ (z : List ℕ). compare_bytes z (in_folder folder other.0)) (sym first'.1)
    ∙ (ap (λ (z : List ℕ). compare_bytes stem z) (sym other.1) ∙ less)))))
    (rising_names folder stems (λ s h. inside s (later_in stem s stems h)) (sorted_tail compare_bytes stem stems rising))

pub in_order_of_names : (files : List TreeFile) (path : List ℕ) (ips : ℕ) (read : Package) → package_of files path ips ≡ Ok read → IsRising (names_of read.tests)
in_order_of_names files path ips read e =
    let m = made files path ips read e in
    subst (λ (z : List (List ℕ)). IsRising z) (sym (package_names files path read m)) (rising_names (data_of path) (all_stems files path) (λ stem h. let s = from_stems files path stem h in (s.name, s.stem_is)) (ordered_rising (filter_map (stem_of (data_of path)) (paths_below (data_of path) files))))

-- ---- the bytes

file_is_there : (files : List TreeFile) (path test : List ℕ) (total after : ℕ) (file : List ℕ) → total_with_bytes files path test total file ≡ Ok after → file_at files file ≡ Some (held_at files file)
file_is_there files path test total after file e =
    let one = then_ok (total_with_file test total) (file_within (name_below path file) (file_at files file)) after e in
    by (file_at files file) one.0 one.1 one.2
  where
    by : (o : Option (List ℕ)) (w : Option (List ℕ)) → file_within (name_below path file) o ≡ Ok w → total_with_file test total w ≡ Ok after → o ≡ Some (unwrap_or o [])
    by None None f g = let no' : ⊥ = cc in absurd no'
    by None (Some bytes) f g = let no' : ⊥ = cc in absurd no'
    by (Some bytes) w f g = refl

record FilesThere (files : List TreeFile) (stem : List ℕ) : Type 0 where
  pub input : file_at files (input_path stem) ≡ Some (held_at files (input_path stem))
  pub answer : file_at files (answer_path stem) ≡ Some (held_at files (answer_path stem))

files_there : (files : List TreeFile) (path : List ℕ) (total after : ℕ) (stems : List (List ℕ)) → total_from files path total stems ≡ Ok after → (stem : List ℕ) → Contains stems stem → FilesThere files stem
files_there files path total after [] e stem h = absurd (none_in stem h)
files_there files path total after (first' ∷ stems) e stem h =
    let test = name_below (data_of path) first' in
    let both = then_ok (λ both. total_from files path both stems) (total_with_test files path total first') after e in
    let one = then_ok (λ one. total_with_bytes files path test one (answer_path first')) (total_with_bytes files path test total (input_path first')) both.0 both.1 in
    elim (first_or_later first' stem stems h) [
      | inl same ↦ subst (λ (s : List ℕ). FilesThere files s) same (record {
        input = file_is_there files path test total one.0 (input_path first') one.1;
        answer = file_is_there files path test one.0 both.0 (answer_path first') one.2;
      })
      | inr later ↦ files_there files path both.0 after stems both.2 stem later
    ]

-- a test of the package, by its stem
test_of : (files : List TreeFile) (path : List ℕ) (ips : ℕ) (read : Package) → package_of files path ips ≡ Ok read → (test : Test) → Contains read.tests test
    → (stem : List ℕ) × (test_at files path stem ≡ test) × (stem ≡ in_folder (data_of path) test.name) × FilesThere files stem
test_of files path ips read e test h =
    let m = made files path ips read e in
    let found = from_map (test_at files path) test (all_stems files path) (subst (λ (z : List Test). Contains z test) m.tests h) in
    let s = from_stems files path found.0 found.1 in
    let name : s.name ≡ test.name = sym (name_in (data_of path) s.name found.0 s.stem_is) ∙ ap (λ (t : Test). t.name) found.2 in
    (found.0, found.2, s.stem_is ∙ ap (λ (n : List ℕ). in_folder (data_of path) n) name, files_there files path 0 m.total (all_stems files path) m.within found.0 found.1)

pub input_bytes : (files : List TreeFile) (path : List ℕ) (ips : ℕ) (read : Package) → package_of files path ips ≡ Ok read → (test : Test) → Contains read.tests test
    → file_at files (in_data path (test.name ++ codes ".in")) ≡ Some test.input
input_bytes files path ips read e test h =
    let t = test_of files path ips read e test h in
    let file : in_data path (test.name ++ codes ".in") ≡ input_path t.0 = sym (regroup (data_of path) test.name (codes ".in")) ∙ ap input_path (sym t.2) in
    ap (λ (z : List ℕ). file_at files z) file ∙ (t.3.input ∙ ap (λ (x : Test). Some x.input) t.1)

pub answer_bytes : (files : List TreeFile) (path : List ℕ) (ips : ℕ) (read : Package) → package_of files path ips ≡ Ok read → (test : Test) → Contains read.tests test
    → file_at files (in_data path (test.name ++ codes ".ans")) ≡ Some test.answer
answer_bytes files path ips read e test h =
    let t = test_of files path ips read e test h in
    let file : in_data path (test.name ++ codes ".ans") ≡ answer_path t.0 = sym (regroup (data_of path) test.name (codes ".ans")) ∙ ap answer_path (sym t.2) in
    ap (λ (z : List ℕ). file_at files z) file ∙ (t.3.answer ∙ ap (λ (x : Test). Some x.answer) t.1)
