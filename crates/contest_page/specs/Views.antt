-- The names of a contest as JSON.
use Rattle.std.specs.Prelude.{ℕ, ◌+◌, List, [], ◌∷◌, codes, map}
use Rattle.serde_json.specs.Data.{Data, string, array}
use Rattle.serde_json.specs.View.{items_of}
use Rattle.serde_json.specs.Written.{compact_text}
use Rattle.wire_json.specs.Objects.{object_with, whole, reply_field}
use Rattle.contest_page.specs.declared.view.SubmissionRow.{SubmissionRow}
use Rattle.contest_page.specs.ViewValue.{ViewValue}

-- a submission: its number, whose it is, and to which problem
abbrev pub entry_row : ℕ → SubmissionRow → Data
entry_row n entry =
    object_with ((codes "problem", string entry.problem) ∷ (codes "submission", whole n)
    ∷ (codes "team", string entry.team) ∷ [])

-- a row for each, from this number on
abbrev pub entry_rows : ℕ → List SubmissionRow → List Data
entry_rows n [] = []
entry_rows n (entry ∷ entries) = entry_row n entry ∷ entry_rows (n + 1) entries

abbrev pub json_of_view : List (List ℕ) → List SubmissionRow → Data
json_of_view problems entries =
    object_with ((codes "problems", array (items_of (map string problems))) ∷ reply_field (codes "contest")
    ∷ (codes "submissions", array (items_of (entry_rows 1 entries))) ∷ [])

-- the JSON of these problems and submissions as text
unfoldable pub view_text : List (List ℕ) → List SubmissionRow → List ℕ
view_text problems entries = compact_text (json_of_view problems entries)

abbrev pub contest_text : ViewValue → List ℕ
contest_text view = view_text view.problems view.entries
