-- Where the file of a path is, and what setting it does.
use Rattle.std.proofs.Common.{ℕ, zero, suc, ◌≡◌, ◌+◌, ◌<◌, ◌≤◌, List, [], ◌∷◌, ◌++◌, Some, None, true, false, not, cond, ltb, length, get_or, set, refl, sym, ap, ◌∙◌, arith}
use Rattle.std.specs.Prelude.{option_map}
use Rattle.std.specs.List.{find, position, position_or_len}
use Rattle.std.specs.Str.{bytes_eq}
use Rattle.std.proofs.lemmas.Bool.Decides.{nat_tests}
use Rattle.std.proofs.lemmas.List.Quantifiers.{position-Some}
use Rattle.std.proofs.lemmas.Slice.Eq.{bytes_eq-Decides}
use Rattle.farm_tree.specs.declared.reads.TreeFile.{TreeFile}
use Rattle.farm_tree.specs.Reading.{file_at}
use Rattle.farm_tree.specs.MemoryValue.{with_file, SetsFile}

abbrev file_of : List ℕ → List ℕ → TreeFile
file_of path bytes = record { path = path; bytes = bytes }

-- the first file that has the path is the one that gets the bytes
set_first : (path bytes : List ℕ) (files : List TreeFile) (i : ℕ) (d : TreeFile) → i < length files
    → bytes_eq path (get_or files i d).path ≡ true → ((k : ℕ) → k < i → bytes_eq path (get_or files k d).path ≡ false)
    → set files i (file_of path bytes) ≡ with_file path bytes files
set_first path bytes [] i d lt here before = absurd (omega arith)
set_first path bytes (file ∷ files) zero d lt here before =
    ap (λ t. cond t (file_of path bytes ∷ files) (file ∷ with_file path bytes files)) (sym here)
set_first path bytes (file ∷ files) (suc i) d lt here before =
    ap (λ xs. file ∷ xs) (set_first path bytes files i d (omega arith) here (λ k h. before (suc k) (omega arith)))
    ∙ ap (λ t. cond t (file_of path bytes ∷ files) (file ∷ with_file path bytes files)) (sym (before zero (omega arith)))

pub set_there : (path : List ℕ) (file : TreeFile) (files : List TreeFile) (i : ℕ) → file.path ≡ path
    → Some i ≡ position (λ (other : TreeFile). bytes_eq path other.path) files → set files i file ≡ with_file path file.bytes files
set_there path file files i same e =
    let h = position-Some (λ (other : TreeFile). bytes_eq path other.path) files i file (sym e) in
    ap (λ p. set files i (file_of p file.bytes)) same ∙ set_first path file.bytes files i file h.0 h.1 h.2

set_last : (path bytes : List ℕ) (files : List TreeFile)
    → length files ≤ position_or_len (λ file. bytes_eq path file.path) files → files ++ file_of path bytes ∷ [] ≡ with_file path bytes files
set_last path bytes [] le = refl
set_last path bytes (file ∷ files) le =
    elim (bytes_eq path file.path) as (λ t. suc (length files) ≤ cond (not t) (1 + position_or_len (λ (other : TreeFile). bytes_eq path other.path) files) 0
    → file ∷ (files ++ file_of path bytes ∷ []) ≡ cond t (file_of path bytes ∷ files) (file ∷ with_file path bytes files)) [
      | true ↦ λ h. absurd (omega (arith, h))
      | false ↦ λ h. ap (λ xs. file ∷ xs) (set_last path bytes files (omega (arith, h)))
    ] le

beyond : (n m : ℕ) → cond (ltb n m) (Some n) None ≡ None → m ≤ n
beyond n m e = grind (arith, nat_tests)

pub set_new : (path : List ℕ) (file : TreeFile) (files : List TreeFile) → file.path ≡ path
    → None ≡ position (λ (other : TreeFile). bytes_eq path other.path) files → files ++ file ∷ [] ≡ with_file path file.bytes files
set_new path file files same e =
    ap (λ p. files ++ file_of p file.bytes ∷ []) same ∙ set_last path file.bytes files (beyond _ _ (sym e))

-- the file at the first place that has the path
found_first : (path : List ℕ) (files : List TreeFile) (i : ℕ) (d : TreeFile) → i < length files
    → bytes_eq path (get_or files i d).path ≡ true → ((k : ℕ) → k < i → bytes_eq path (get_or files k d).path ≡ false)
    → file_at files path ≡ Some (get_or files i d).bytes
found_first path [] i d lt here before = absurd (omega arith)
found_first path (file ∷ files) zero d lt here before =
    ap (λ t. option_map (λ (f : TreeFile). f.bytes) (cond t (Some file) (find (λ (f : TreeFile). bytes_eq path f.path) files))) here
found_first path (file ∷ files) (suc i) d lt here before =
    ap (λ t. option_map (λ (f : TreeFile). f.bytes) (cond t (Some file) (find (λ (f : TreeFile). bytes_eq path f.path) files))) (before zero (omega arith))
    ∙ found_first path files i d (omega arith) here (λ k h. before (suc k) (omega arith))

pub found_there : (path : List ℕ) (files : List TreeFile) (i : ℕ) (d : TreeFile)
    → Some i ≡ position (λ (file : TreeFile). bytes_eq path file.path) files → file_at files path ≡ Some (get_or files i d).bytes
found_there path files i d e =
    let h = position-Some (λ (file : TreeFile). bytes_eq path file.path) files i d (sym e) in
    found_first path files i d h.0 h.1 h.2

found_nowhere : (path : List ℕ) (files : List TreeFile)
    → length files ≤ position_or_len (λ file. bytes_eq path file.path) files → file_at files path ≡ None
found_nowhere path [] le = refl
found_nowhere path (file ∷ files) le =
    elim (bytes_eq path file.path) as (λ t. suc (length files) ≤ cond (not t) (1 + position_or_len (λ (other : TreeFile). bytes_eq path other.path) files) 0
    → option_map (λ (f : TreeFile). f.bytes) (cond t (Some file) (find (λ (f : TreeFile). bytes_eq path f.path) files)) ≡ None) [
      | true ↦ λ h. absurd (omega (arith, h))
      | false ↦ λ h. found_nowhere path files (omega (arith, h))
    ] le

pub not_found : (path : List ℕ) (files : List TreeFile)
    → None ≡ position (λ (file : TreeFile). bytes_eq path file.path) files → file_at files path ≡ None
not_found path files e = found_nowhere path files (beyond _ _ (sym e))

-- ---- what is found once a file is set

set_here : (path bytes : List ℕ) (files : List TreeFile) → file_at (with_file path bytes files) path ≡ Some bytes
set_here path bytes [] =
    ap (λ t. option_map (λ (f : TreeFile). f.bytes) (cond t (Some (file_of path bytes)) None)) ((bytes_eq-Decides path path).1 refl)
set_here path bytes (file ∷ files) =
    elim (bytes_eq path file.path) as (λ t. bytes_eq path file.path ≡ t
    → file_at (cond t (file_of path bytes ∷ files) (file ∷ with_file path bytes files)) path ≡ Some bytes) [
      | true ↦ λ h. ap (λ t. option_map (λ (f : TreeFile). f.bytes) (cond t (Some (file_of path bytes)) (find (λ (f : TreeFile). bytes_eq path f.path) files)))
          ((bytes_eq-Decides path path).1 refl)
      | false ↦ λ h. ap (λ t. option_map (λ (f : TreeFile). f.bytes) (cond t (Some file) (find (λ (f : TreeFile). bytes_eq path f.path) (with_file path bytes files)))) h
          ∙ set_here path bytes files
    ] refl

set_elsewhere : (path bytes other : List ℕ) (files : List TreeFile) → bytes_eq other path ≡ false
    → file_at (with_file path bytes files) other ≡ file_at files other
set_elsewhere path bytes other [] ne = ap (λ t. option_map (λ (f : TreeFile). f.bytes) (cond t (Some (file_of path bytes)) None)) ne
set_elsewhere path bytes other (file ∷ files) ne =
    elim (bytes_eq path file.path) as (λ t. bytes_eq path file.path ≡ t
    → file_at (cond t (file_of path bytes ∷ files) (file ∷ with_file path bytes files)) other
    ≡ option_map (λ (f : TreeFile). f.bytes) (cond (bytes_eq other file.path) (Some file) (find (λ (f : TreeFile). bytes_eq other f.path) files))) [
      | true ↦ λ h.
          let same : path ≡ file.path = (bytes_eq-Decides path file.path).0 h in
          let no : bytes_eq other file.path ≡ false = ap (λ p. bytes_eq other p) (sym same) ∙ ne in
          ap (λ t. option_map (λ (f : TreeFile). f.bytes) (cond t (Some (file_of path bytes)) (find (λ (f : TreeFile). bytes_eq other f.path) files))) ne
          ∙ sym (ap (λ t. option_map (λ (f : TreeFile). f.bytes) (cond t (Some file) (find (λ (f : TreeFile). bytes_eq other f.path) files))) no)
      | false ↦ λ h.
          elim (bytes_eq other file.path) as (λ t. option_map (λ (f : TreeFile). f.bytes) (cond t (Some file) (find (λ (f : TreeFile). bytes_eq other f.path) (with_file path bytes files)))
          ≡ option_map (λ (f : TreeFile). f.bytes) (cond t (Some file) (find (λ (f : TreeFile). bytes_eq other f.path) files))) [
            | true ↦ refl
            | false ↦ set_elsewhere path bytes other files ne
          ]
    ] refl

pub sets_file : (path bytes : List ℕ) (files : List TreeFile) → SetsFile files (with_file path bytes files) path bytes
sets_file path bytes files = record {
  here = set_here path bytes files;
  elsewhere = λ other ne. set_elsewhere path bytes other files ne;
}
