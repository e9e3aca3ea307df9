-- Paths that are looked at one after another.
use Rattle.std.proofs.Common.{ℕ, ◌≡◌, ◌+◌, ◌<◌, List, [], ◌∷◌, ◌++◌, length, get_or, take, drop, filter_map, Option, string_bytes, ap, ◌∙◌, add-one}
use Rattle.std.specs.Prelude.{String}
use Rattle.std.specs.Global.{Global}
use Rattle.std.specs.List.{cons_option}
use Rattle.std.proofs.lemmas.List.Elements.{filter_map-append}
use Rattle.package_folder.specs.Paths.{texts}
use Rattle.package_folder.proofs.Strings.{drop_text, take_text}
use Rattle.package_notes.specs.declared.notes.Note.{Note}
use Rattle.package_notes.specs.Files.{other_folder, other_folders_from, with_name}

pub note_step : (f : List ℕ → Option Note) (items : List (String Global)) (i : ℕ) (item : String Global) (o : Option Note) → i < length items
    → item ≡ get_or items i item → f (string_bytes item) ≡ o
    → filter_map f (take (i + 1) (texts items)) ≡ filter_map f (take i (texts items)) ++ cons_option o []
note_step f items i item o lt e is =
    rw add-one
    (ap (filter_map f) (take_text items i item lt e)
    ∙ filter_map-append f (take i (texts items)) (string_bytes item ∷ [])
    ∙ ap (λ (q : Option Note). filter_map f (take i (texts items)) ++ cons_option q []) is)

pub folder_step : (root : List ℕ) (names : List (List ℕ)) (items : List (String Global)) (i : ℕ) (item : String Global) → i < length items
    → item ≡ get_or items i item
    → other_folders_from root names (drop i (texts items))
    ≡ other_folders_from root (with_name names (other_folder root (string_bytes item))) (drop (i + 1) (texts items))
folder_step root names items i item lt e = rw add-one (ap (other_folders_from root names) (drop_text items i item lt e))
