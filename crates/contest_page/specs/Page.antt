-- The page that people are shown.
use Rattle.std.specs.Prelude.{ℕ, ◌+◌, List, [], ◌∷◌, ◌++◌, ◌==◌, if◌then◌else◌, codes, flat_map, Option, Some, None}
use Rattle.std.specs.Fmt.{decimal}
use Rattle.std.specs.List.{slice_get}
use Rattle.farm_kinds.specs.declared.outcomes.Answer.{Answer}
use Rattle.farm_model.specs.Texts.{answer_text}
use Rattle.contest_page.specs.declared.view.SubmissionRow.{SubmissionRow}
use Rattle.contest_page.specs.declared.page.TheConstants.{BEFORE, BEHIND}
use Rattle.contest_page.specs.ViewValue.{ViewValue}

-- a byte of a text as it stands in a page: what would begin or end a mark or a value is spelled (HTML, section 13.3)
abbrev pub escaped_byte : ℕ → List ℕ
escaped_byte b =
    if b == 38 then codes "&amp;" else if b == 60 then codes "&lt;" else if b == 62 then codes "&gt;"
    else if b == 34 then codes "&quot;" else if b == 39 then codes "&#39;" else b ∷ []

abbrev pub escaped : List ℕ → List ℕ
escaped text = flat_map escaped_byte text

-- a row of the table: a number, a team, a problem, and the word of a verdict, by which it gets its look
abbrev pub row_with : ℕ → List ℕ → List ℕ → List ℕ → List ℕ
row_with n team problem word =
    codes "<tr><th scope=\"row\">" ++ (decimal n ++ (codes "</th><td>" ++ (team ++ (codes "</td><td>"
    ++ (problem ++ (codes "</td><td class=\"" ++ (word ++ (codes "\">" ++ (word ++ codes "</td></tr>\n")))))))))

-- the row of the submission of this number
abbrev pub row_of : ℕ → SubmissionRow → Answer → List ℕ
row_of n entry answer = row_with n (escaped entry.team) (escaped entry.problem) (answer_text answer)

-- the row of the submission of this number; there is none where it is not known whose it is
abbrev pub row_at : ℕ → Option SubmissionRow → Answer → List ℕ
row_at n None answer = []
row_at n (Some entry) answer = row_of n entry answer

-- a row for each answer, of which the first is behind `before` others
abbrev pub rows_from : ℕ → List SubmissionRow → List Answer → List ℕ
rows_from before entries [] = []
rows_from before entries (answer ∷ answers) =
    row_at (before + 1) (slice_get entries before) answer ++ rows_from (before + 1) entries answers

-- what stands before the rows, the rows, and what stands behind them
unfoldable pub page_text : ViewValue → List Answer → List ℕ
page_text view answers = BEFORE.now ++ (rows_from 0 view.entries answers ++ BEHIND.now)
