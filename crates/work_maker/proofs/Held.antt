-- What a tree of files holds at a path.
use Rattle.std.proofs.Common.{ℕ, ◌≡◌, ◌≤◌, List, [], ◌∷◌, Bool, true, false, cond, length, find, Option, Some, None, option_map, Contains, refl, sym, ap, ◌∙◌, inl, inr}
use Rattle.std.specs.Str.{bytes_eq}
use Rattle.std.proofs.lemmas.Slice.Eq.{bytes_eq-Decides}
use Rattle.farm_tree.specs.declared.reads.TreeFile.{TreeFile}
use Rattle.farm_tree.specs.Reading.{file_at}
use Rattle.package_folder.proofs.Members.{first_or_later, none_in}
use Rattle.work_maker.proofs.Each.{Each}

-- the file at the path, by whether the first one is it
first_by : List ℕ → TreeFile → List TreeFile → Bool → Option (List ℕ)
first_by path file files b = option_map (λ (f : TreeFile). f.bytes) (cond b (Some file) (find (λ (f : TreeFile). bytes_eq path f.path) files))

same : (path : List ℕ) → bytes_eq path path ≡ true
same path = (bytes_eq-Decides path path).1 refl

-- no file has the path
pub none_at : (path : List ℕ) (files : List TreeFile) → Each (λ (f : TreeFile). bytes_eq path f.path ≡ false) files → file_at files path ≡ None
unfolding first_by
none_at path [] h = refl
none_at path (file ∷ files) h = ap (first_by path file files) h.0 ∙ none_at path files h.1

-- a file has the path, and each that has it has these bytes
pub bytes_at : (path bytes : List ℕ) (file : TreeFile) (files : List TreeFile) → Contains files file → path ≡ file.path
    → Each (λ (f : TreeFile). path ≡ f.path → f.bytes ≡ bytes) files → file_at files path ≡ Some bytes
unfolding first_by
bytes_at path bytes file [] has is each = absurd (none_in file has)
bytes_at path bytes file (f ∷ files) has is each =
    elim (bytes_eq path f.path) as (λ b. bytes_eq path f.path ≡ b → first_by path f files b ≡ Some bytes) [
      | true ↦ λ e. ap Some (each.0 ((bytes_eq-Decides path f.path).0 e))
      | false ↦ λ e. elim (first_or_later f file files has) [
        | inl it ↦ absurd (let g : true ≡ false = sym ((bytes_eq-Decides path f.path).1 (is ∙ ap (λ (x : TreeFile). x.path) (sym it))) ∙ e in cc)
        | inr later ↦ bytes_at path bytes file files later is each.1
      ]
    ] refl

-- a file has the path, and no file is large
pub record IsHeld (bound : ℕ) (held : Option (List ℕ)) : Type 0 where
  pub bytes : List ℕ
  pub is : held ≡ Some bytes
  pub small : length bytes ≤ bound

pub held_at : (bound : ℕ) (path : List ℕ) (file : TreeFile) (files : List TreeFile) → Contains files file → path ≡ file.path
    → Each (λ (f : TreeFile). length f.bytes ≤ bound) files → IsHeld bound (file_at files path)
unfolding first_by
held_at bound path file [] has is each = absurd (none_in file has)
held_at bound path file (f ∷ files) has is each =
    elim (bytes_eq path f.path) as (λ b. bytes_eq path f.path ≡ b → IsHeld bound (first_by path f files b)) [
      | true ↦ λ e. record { bytes = f.bytes; is = refl; small = each.0 }
      | false ↦ λ e. elim (first_or_later f file files has) [
        | inl it ↦ absurd (let g : true ≡ false = sym ((bytes_eq-Decides path f.path).1 (is ∙ ap (λ (x : TreeFile). x.path) (sym it))) ∙ e in cc)
        | inr later ↦ held_at bound path file files later is each.1
      ]
    ] refl
