-- Rows of boards and of matrices, one after another.
use Rattle.std.proofs.Common.{ℕ, ◌≡◌, ◌+◌, ◌<◌, List, [], ◌∷◌, ◌++◌, sym, ap, ◌∙◌, append_assoc, length, take, get_or, arith}
use Rattle.std.specs.Fmt.{decimal}
use Rattle.std.specs.List.{flat_map}
use Rattle.std.proofs.lemmas.List.{take_more, append-nil, length-take}
use Rattle.farm_kinds.specs.declared.outcomes.Answer.{Answer}
use Rattle.farm_kinds.specs.declared.outcomes.MatrixRow.{MatrixRow}
use Rattle.farm_kinds.specs.declared.outcomes.TableRow.{TableRow}
use Rattle.farm_model.specs.Texts.{line_of, answer_text, board_lines, matrix_line, table_line}

board-push : (n : ℕ) (answers : List Answer) (next : Answer) → board_lines n (answers ++ next ∷ []) ≡ board_lines n answers ++ line_of (decimal (n + length answers) ∷ answer_text next ∷ [])
board-push n [] next =
    let none : n ≡ n + 0 = omega arith in
    append-nil (line_of (decimal n ∷ answer_text next ∷ [])) ∙ ap (λ m. line_of (decimal m ∷ answer_text next ∷ [])) none
board-push n (a ∷ answers) next =
    let line : List ℕ = line_of (decimal n ∷ answer_text a ∷ []) in
    let step : n + 1 + length answers ≡ n + length (a ∷ answers) = omega arith in
    ap (λ t. line ++ t) (board-push (n + 1) answers next)
    ∙ sym (append_assoc line (board_lines (n + 1) answers) (line_of (decimal (n + 1 + length answers) ∷ answer_text next ∷ [])))
    ∙ ap (λ m. board_lines n (a ∷ answers) ++ line_of (decimal m ∷ answer_text next ∷ [])) step

-- one row more of a board
board_more : (answers : List Answer) (i : ℕ) (d : Answer) → i < length answers → board_lines 1 (take (i + 1) answers) ≡ board_lines 1 (take i answers) ++ line_of (decimal (i + 1) ∷ answer_text (get_or answers i d) ∷ [])
board_more answers i d h =
    let number : 1 + length (take i answers) ≡ i + 1 = omega (arith, length-take i answers) in
    ap (board_lines 1) (take_more answers i d h) ∙ board-push 1 (take i answers) (get_or answers i d)
    ∙ ap (λ n. board_lines 1 (take i answers) ++ line_of (decimal n ∷ answer_text (get_or answers i d) ∷ [])) number

-- a row behind those before it
pub board_pushed : (old new : List ℕ) (answers : List Answer) (i : ℕ) (d : Answer) → i < length answers → new ≡ old ++ board_lines 1 (take i answers)
    → new ++ line_of (decimal (i + 1) ∷ answer_text (get_or answers i d) ∷ []) ≡ old ++ board_lines 1 (take (i + 1) answers)
board_pushed old new answers i d h e =
    let row : List ℕ = line_of (decimal (i + 1) ∷ answer_text (get_or answers i d) ∷ []) in
    ap (λ t. t ++ row) e ∙ append_assoc old (board_lines 1 (take i answers)) row ∙ ap (λ t. old ++ t) (sym (board_more answers i d h))

rows-push : {X : Type 0} (line : X → List ℕ) (rows : List X) (next : X) → flat_map line (rows ++ next ∷ []) ≡ flat_map line rows ++ line next
rows-push line [] next = append-nil (line next)
rows-push line (row ∷ rows) next = ap (λ t. line row ++ t) (rows-push line rows next) ∙ sym (append_assoc (line row) (flat_map line rows) (line next))

-- one row more
rows_more : {X : Type 0} (line : X → List ℕ) (rows : List X) (i : ℕ) (d : X) → i < length rows → flat_map line (take (i + 1) rows) ≡ flat_map line (take i rows) ++ line (get_or rows i d)
rows_more line rows i d h = ap (flat_map line) (take_more rows i d h) ∙ rows-push line (take i rows) (get_or rows i d)

-- one row more of a matrix
pub matrix_more : (rows : List MatrixRow) (i : ℕ) (d : MatrixRow) → i < length rows → flat_map matrix_line (take (i + 1) rows) ≡ flat_map matrix_line (take i rows) ++ matrix_line (get_or rows i d)
matrix_more rows i d h = rows_more matrix_line rows i d h

-- one row more of a table
pub table_more : (rows : List TableRow) (i : ℕ) (d : TableRow) → i < length rows → flat_map table_line (take (i + 1) rows) ≡ flat_map table_line (take i rows) ++ table_line (get_or rows i d)
table_more rows i d h = rows_more table_line rows i d h
