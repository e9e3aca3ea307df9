-- The names of a contest as JSON have no number with a fraction.
use Rattle.std.proofs.Common.{◌≡◌, ℕ, ◌+◌, List, [], ◌∷◌, false, ◌||◌, ap₂, refl, map}
use Rattle.serde_json.specs.Data.{string}
use Rattle.serde_json.specs.View.{items_of}
use Rattle.serde_json.specs.Written.{has_float, items_have_float}
use Rattle.contest_page.specs.declared.view.SubmissionRow.{SubmissionRow}
use Rattle.contest_page.specs.Views.{entry_rows, json_of_view}

names_are_whole : (names : List (List ℕ)) → items_have_float (items_of (map string names)) ≡ false
names_are_whole [] = refl
names_are_whole (name ∷ names) = names_are_whole names

entries_are_whole : (n : ℕ) (entries : List SubmissionRow) → items_have_float (items_of (entry_rows n entries)) ≡ false
entries_are_whole n [] = refl
entries_are_whole n (entry ∷ entries) = entries_are_whole (n + 1) entries

pub view_is_whole : (problems : List (List ℕ)) (entries : List SubmissionRow) → has_float (json_of_view problems entries) ≡ false
view_is_whole problems entries = ap₂ (λ a b. a || (b || false)) (names_are_whole problems) (entries_are_whole 1 entries)
