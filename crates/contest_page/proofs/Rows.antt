-- Names and submissions, one after another.
use Rattle.std.proofs.Common.{◌≡◌, ℕ, ◌+◌, ◌<◌, List, [], ◌∷◌, ◌++◌, Option, length, take, get_or, map, sym, ap, ◌∙◌, arith, append_assoc, append-nil}
use Rattle.std.specs.List.{slice_get}
use Rattle.std.proofs.lemmas.List.{take_more, length-take, map-append}
use Rattle.serde_json.specs.Data.{string}
use Rattle.serde_json.specs.View.{view}
use Rattle.serde_json.specs.declared.value.Value.{Value}
use Rattle.farm_kinds.specs.declared.outcomes.Answer.{Answer}
use Rattle.contest_page.specs.declared.view.SubmissionRow.{SubmissionRow}
use Rattle.contest_page.specs.Page.{row_at, rows_from}
use Rattle.contest_page.specs.Views.{entry_row, entry_rows}

-- one name more
pub names_more : (values : List Value) (value : Value) (names : List (List ℕ)) (i : ℕ) (d : List ℕ) → i < length names → map view values ≡ map string (take i names)
    → view value ≡ string (get_or names i d) → map view (values ++ value ∷ []) ≡ map string (take (i + 1) names)
names_more values value names i d h before this =
    rw (map-append view values (value ∷ []), before, take_more names i d h, map-append string (take i names) (get_or names i d ∷ []))
    (ap (λ v. map string (take i names) ++ v ∷ []) this)

entries-push : (n : ℕ) (entries : List SubmissionRow) (next : SubmissionRow) → entry_rows n (entries ++ next ∷ []) ≡ entry_rows n entries ++ entry_row (n + length entries) next ∷ []
entries-push n [] next =
    let none : n ≡ n + 0 = omega arith in
    ap (λ m. entry_row m next ∷ []) none
entries-push n (e ∷ entries) next =
    let step : n + 1 + length entries ≡ n + length (e ∷ entries) = omega arith in
    ap (λ t. entry_row n e ∷ t) (entries-push (n + 1) entries next ∙ ap (λ m. entry_rows (n + 1) entries ++ entry_row m next ∷ []) step)

-- one submission more
pub entries_more : (rows : List Value) (row : Value) (entries : List SubmissionRow) (i : ℕ) (d : SubmissionRow) → i < length entries → map view rows ≡ entry_rows 1 (take i entries)
    → view row ≡ entry_row (i + 1) (get_or entries i d) → map view (rows ++ row ∷ []) ≡ entry_rows 1 (take (i + 1) entries)
entries_more rows row entries i d h before this =
    let number : 1 + length (take i entries) ≡ i + 1 = omega (arith, length-take i entries) in
    let more : entry_rows 1 (take (i + 1) entries) ≡ entry_rows 1 (take i entries) ++ entry_row (i + 1) (get_or entries i d) ∷ [] =
    ap (entry_rows 1) (take_more entries i d h) ∙ entries-push 1 (take i entries) (get_or entries i d)
    ∙ ap (λ n. entry_rows 1 (take i entries) ++ entry_row n (get_or entries i d) ∷ []) number in
    rw (map-append view rows (row ∷ []), before, more) (ap (λ v. entry_rows 1 (take i entries) ++ v ∷ []) this)

-- the row of the answer behind n others
abbrev row_behind : ℕ → List SubmissionRow → Answer → List ℕ
row_behind n entries answer = row_at (n + 1) (slice_get entries n) answer

rows-push : (n : ℕ) (entries : List SubmissionRow) (answers : List Answer) (next : Answer) → rows_from n entries (answers ++ next ∷ []) ≡ rows_from n entries answers ++ row_behind (n + length answers) entries next
rows-push n entries [] next =
    let none : n ≡ n + 0 = omega arith in
    append-nil (row_behind n entries next) ∙ ap (λ m. row_behind m entries next) none
rows-push n entries (a ∷ answers) next =
    let step : n + 1 + length answers ≡ n + length (a ∷ answers) = omega arith in
    ap (λ t. row_behind n entries a ++ t) (rows-push (n + 1) entries answers next ∙ ap (λ m. rows_from (n + 1) entries answers ++ row_behind m entries next) step)
    ∙ sym (append_assoc (row_behind n entries a) (rows_from (n + 1) entries answers) (row_behind (n + length (a ∷ answers)) entries next))

-- one row more of the page
pub rows_more : (start page page' : List ℕ) (entries : List SubmissionRow) (answers : List Answer) (i : ℕ) (d : Answer) (entry : Option SubmissionRow) → i < length answers
    → page ≡ start ++ rows_from 0 entries (take i answers) → entry ≡ slice_get entries i → page' ≡ page ++ row_at (i + 1) entry (get_or answers i d)
    → page' ≡ start ++ rows_from 0 entries (take (i + 1) answers)
rows_more start page page' entries answers i d entry h before it this =
    let number : 0 + length (take i answers) ≡ i = omega (arith, length-take i answers) in
    let next : Answer = get_or answers i d in
    let more : rows_from 0 entries (take (i + 1) answers) ≡ rows_from 0 entries (take i answers) ++ row_behind i entries next =
    ap (rows_from 0 entries) (take_more answers i d h) ∙ rows-push 0 entries (take i answers) next
    ∙ ap (λ n. rows_from 0 entries (take i answers) ++ row_behind n entries next) number in
    this ∙ ap (λ (z : List ℕ). z ++ row_at (i + 1) entry next) before ∙ append_assoc start (rows_from 0 entries (take i answers)) (row_at (i + 1) entry next)
    ∙ ap (λ (e : Option SubmissionRow). start ++ (rows_from 0 entries (take i answers) ++ row_at (i + 1) e next)) it ∙ ap (λ (z : List ℕ). start ++ z) (sym more)
