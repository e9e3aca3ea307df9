-- Rows of boards and of matrices, one after another.
use Rattle.std.proofs.Common.{◌≡◌, ℕ, ◌+◌, ◌<◌, List, [], ◌∷◌, ◌++◌, length, take, get_or, map, ap, ◌∙◌, arith}
use Rattle.std.proofs.lemmas.List.{take_more, length-take, map-append}
use Rattle.serde_json.specs.View.{view}
use Rattle.serde_json.specs.declared.value.Value.{Value}
use Rattle.farm_kinds.specs.declared.outcomes.Answer.{Answer}
use Rattle.farm_kinds.specs.declared.outcomes.MatrixRow.{MatrixRow}
use Rattle.wire_json.specs.Objects.{whole}
use Rattle.wire_json.specs.Replies.{board_row, board_rows, matrix_row}

board-push : (n : ℕ) (answers : List Answer) (next : Answer) → board_rows n (answers ++ next ∷ []) ≡ board_rows n answers ++ board_row (n + length answers) next ∷ []
board-push n [] next =
    let none : n ≡ n + 0 = omega arith in
    ap (λ m. board_row m next ∷ []) none
board-push n (a ∷ answers) next =
    let step : n + 1 + length answers ≡ n + length (a ∷ answers) = omega arith in
    ap (λ t. board_row n a ∷ t) (board-push (n + 1) answers next ∙ ap (λ m. board_rows (n + 1) answers ++ board_row m next ∷ []) step)

-- one row more of a board
pub board_more : (rows : List Value) (row : Value) (answers : List Answer) (i : ℕ) (d : Answer) → i < length answers → map view rows ≡ board_rows 1 (take i answers)
    → view row ≡ board_row (i + 1) (get_or answers i d) → map view (rows ++ row ∷ []) ≡ board_rows 1 (take (i + 1) answers)
board_more rows row answers i d h before this =
    let number : 1 + length (take i answers) ≡ i + 1 = omega (arith, length-take i answers) in
    let more : board_rows 1 (take (i + 1) answers) ≡ board_rows 1 (take i answers) ++ board_row (i + 1) (get_or answers i d) ∷ [] =
    ap (board_rows 1) (take_more answers i d h) ∙ board-push 1 (take i answers) (get_or answers i d)
    ∙ ap (λ n. board_rows 1 (take i answers) ++ board_row n (get_or answers i d) ∷ []) number in
    rw (map-append view rows (row ∷ []), before, more) (ap (λ v. board_rows 1 (take i answers) ++ v ∷ []) this)

-- one row more of a matrix
pub matrix_more : (rows : List Value) (row : Value) (matrix : List MatrixRow) (i : ℕ) (d : MatrixRow) → i < length matrix → map view rows ≡ map matrix_row (take i matrix)
    → view row ≡ matrix_row (get_or matrix i d) → map view (rows ++ row ∷ []) ≡ map matrix_row (take (i + 1) matrix)
matrix_more rows row matrix i d h before this =
    rw (map-append view rows (row ∷ []), before, take_more matrix i d h, map-append matrix_row (take i matrix) (get_or matrix i d ∷ []))
    (ap (λ v. map matrix_row (take i matrix) ++ v ∷ []) this)

-- one rank more
pub ranks_more : (values : List Value) (value : Value) (ranks : List ℕ) (i : ℕ) → i < length ranks → map view values ≡ map whole (take i ranks)
    → view value ≡ whole (get_or ranks i 0) → map view (values ++ value ∷ []) ≡ map whole (take (i + 1) ranks)
ranks_more values value ranks i h before this =
    rw (map-append view values (value ∷ []), before, take_more ranks i 0 h, map-append whole (take i ranks) (get_or ranks i 0 ∷ []))
    (ap (λ v. map whole (take i ranks) ++ v ∷ []) this)
