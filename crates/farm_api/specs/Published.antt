-- What the public sees, as JSON.
use Rattle.std.specs.Prelude.{ℕ, ◌+◌, List, [], ◌∷◌, ◌++◌, Bool, true, false, codes, nat_lt}
use Rattle.std.specs.Fmt.{decimal}
use Rattle.serde_json.specs.Data.{Data, array}
use Rattle.serde_json.specs.View.{items_of}
use Rattle.farm_kinds.specs.declared.outcomes.Answer.{Answer}
use Rattle.farm_model.specs.Texts.{answer_text}
use Rattle.wire_json.specs.Objects.{object_with, reply_field}
use Rattle.wire_json.specs.Replies.{board_rows}

-- the rows of a board, under a word of their own
abbrev pub json_of_rows : List Answer → Data
json_of_rows rows = object_with (reply_field (codes "public") ∷ (codes "rows", array (items_of (board_rows 1 rows))) ∷ [])

-- The same, byte by byte

-- what stands in a row before the number of the submission: a comma where another row is before it
abbrev pub before_number : Bool → List ℕ
before_number true = codes ",{\"submission\":"
before_number false = codes "{\"submission\":"

-- the row of the submission of this number, as it stands among the others
abbrev pub row_text : ℕ → Answer → List ℕ
row_text n answer =
    before_number (nat_lt 1 n) ++ (decimal n ++ (codes ",\"verdict\":\"" ++ (answer_text answer ++ codes "\"}")))

-- a row for each answer, from this number on
abbrev pub rows_text : ℕ → List Answer → List ℕ
rows_text n [] = []
rows_text n (answer ∷ answers) = row_text n answer ++ rows_text (n + 1) answers
