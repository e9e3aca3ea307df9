-- The rows of what the public sees, written one after another, are its JSON.
use Rattle.std.proofs.Common.{◌≡◌, ◌≤◌, ◌<◌, ◌++◌, ◌+◌, ℕ, Bool, true, false, List, [], ◌∷◌, length, take, get_or, nat_lt, codes, refl, sym, ap, ◌∙◌, arith, append_assoc, append-nil}
use Rattle.std.proofs.lemmas.List.{take_more, length-take}
use Rattle.std.specs.Fmt.{decimal}
use Rattle.serde_json.specs.Data.{string}
use Rattle.serde_json.specs.View.{items_of}
use Rattle.serde_json.specs.Written.{compact_text, comma_if, items_text}
use Rattle.serde_json.proofs.OnLiterals.{serde_json_on_literals}
use Rattle.farm_kinds.specs.declared.kinds.Kind.TheVariants.{Correct, WrongAnswer, RunError, TimeLimit, NoOutput, OutputLimit, MemoryLimit, JudgingError}
use Rattle.farm_kinds.specs.declared.outcomes.Verdict.TheVariants.{Tests, CompilerError}
use Rattle.farm_kinds.specs.declared.outcomes.Answer.{Answer}
use Rattle.farm_kinds.specs.declared.outcomes.Answer.TheVariants.{Final, Pending}
use Rattle.farm_model.specs.Texts.{answer_text}
use Rattle.wire_json.specs.Replies.{board_row, board_rows}
use Rattle.farm_api.specs.Published.{json_of_rows, before_number, row_text, rows_text}

-- no word of an answer has a byte that has to be escaped
answer_quoted : (answer : Answer) → compact_text (string (answer_text answer)) ≡ codes "\"" ++ (answer_text answer ++ codes "\"")
unfolding serde_json_on_literals
answer_quoted (Final (Tests Correct)) = refl
answer_quoted (Final (Tests WrongAnswer)) = refl
answer_quoted (Final (Tests RunError)) = refl
answer_quoted (Final (Tests TimeLimit)) = refl
answer_quoted (Final (Tests NoOutput)) = refl
answer_quoted (Final (Tests OutputLimit)) = refl
answer_quoted (Final (Tests MemoryLimit)) = refl
answer_quoted (Final (Tests JudgingError)) = refl
answer_quoted (Final CompilerError) = refl
answer_quoted Pending = refl

-- a row with this text for its word
abbrev row_quoted : Bool → ℕ → List ℕ → List ℕ
row_quoted later n word = before_number later ++ (decimal n ++ (codes ",\"verdict\":" ++ (word ++ codes "}")))

row_json : (later : Bool) (n : ℕ) (answer : Answer) → comma_if later ++ compact_text (board_row n answer) ≡ row_quoted later n (compact_text (string (answer_text answer)))
unfolding serde_json_on_literals
row_json true n answer = refl
row_json false n answer = refl

row_spelled : (later : Bool) (n : ℕ) (word : List ℕ) → row_quoted later n (codes "\"" ++ (word ++ codes "\""))
    ≡ before_number later ++ (decimal n ++ (codes ",\"verdict\":\"" ++ (word ++ codes "\"}")))
row_spelled later n word =
    ap (λ (z : List ℕ). before_number later ++ (decimal n ++ (codes ",\"verdict\":\"" ++ z))) (append_assoc word (codes "\"") (codes "}"))

row_is : (later : Bool) (n : ℕ) (answer : Answer) → comma_if later ++ compact_text (board_row n answer)
    ≡ before_number later ++ (decimal n ++ (codes ",\"verdict\":\"" ++ (answer_text answer ++ codes "\"}")))
row_is later n answer =
    row_json later n answer ∙ ap (row_quoted later n) (answer_quoted answer) ∙ row_spelled later n (answer_text answer)

rows_are : (n : ℕ) (answers : List Answer) → 1 ≤ n → items_text (nat_lt 1 n) (items_of (board_rows n answers)) ≡ rows_text n answers ++ codes "]"
rows_are n [] some = refl
rows_are n (answer ∷ answers) some =
    let later : nat_lt 1 (n + 1) ≡ true = search (arith, some) in
    sym (append_assoc (comma_if (nat_lt 1 n)) (compact_text (board_row n answer)) (items_text true (items_of (board_rows (n + 1) answers))))
    ∙ ap (λ (z : List ℕ). z ++ items_text true (items_of (board_rows (n + 1) answers))) (row_is (nat_lt 1 n) n answer)
    ∙ ap (λ (b : Bool). row_text n answer ++ items_text b (items_of (board_rows (n + 1) answers))) (sym later)
    ∙ ap (λ (z : List ℕ). row_text n answer ++ z) (rows_are (n + 1) answers (omega (arith, some)))
    ∙ sym (append_assoc (row_text n answer) (rows_text (n + 1) answers) (codes "]"))

json_spelled : (answers : List Answer) → compact_text (json_of_rows answers) ≡ codes "{\"reply\":\"public\",\"rows\":[" ++ (items_text false (items_of (board_rows 1 answers)) ++ codes "}")
unfolding serde_json_on_literals
json_spelled answers = refl

rows_spelled : (answers : List Answer) → codes "{\"reply\":\"public\",\"rows\":[" ++ (rows_text 1 answers ++ codes "]}") ≡ compact_text (json_of_rows answers)
rows_spelled answers =
    ap (λ (z : List ℕ). codes "{\"reply\":\"public\",\"rows\":[" ++ z)
    (sym (append_assoc (rows_text 1 answers) (codes "]") (codes "}")) ∙ ap (λ (z : List ℕ). z ++ codes "}") (sym (rows_are 1 answers (omega arith))))
    ∙ sym (json_spelled answers)

-- One row more

rows_push : (n : ℕ) (answers : List Answer) (next : Answer) → rows_text n (answers ++ next ∷ []) ≡ rows_text n answers ++ row_text (n + length answers) next
rows_push n [] next =
    let none : n ≡ n + 0 = omega arith in
    append-nil (row_text n next) ∙ ap (λ (m : ℕ). row_text m next) none
rows_push n (a ∷ answers) next =
    let step : n + 1 + length answers ≡ n + length (a ∷ answers) = omega arith in
    ap (λ (t : List ℕ). row_text n a ++ t) (rows_push (n + 1) answers next ∙ ap (λ (m : ℕ). rows_text (n + 1) answers ++ row_text m next) step)
    ∙ sym (append_assoc (row_text n a) (rows_text (n + 1) answers) (row_text (n + length (a ∷ answers)) next))

pub rows_more : (start text text' : List ℕ) (answers : List Answer) (i : ℕ) (d : Answer) → i < length answers
    → text ≡ start ++ rows_text 1 (take i answers) → text' ≡ text ++ row_text (i + 1) (get_or answers i d) → text' ≡ start ++ rows_text 1 (take (i + 1) answers)
rows_more start text text' answers i d h before this =
    let number : 1 + length (take i answers) ≡ i + 1 = omega (arith, length-take i answers) in
    let next : Answer = get_or answers i d in
    let more : rows_text 1 (take (i + 1) answers) ≡ rows_text 1 (take i answers) ++ row_text (i + 1) next =
    ap (rows_text 1) (take_more answers i d h) ∙ rows_push 1 (take i answers) next ∙ ap (λ (n : ℕ). rows_text 1 (take i answers) ++ row_text n next) number in
    this ∙ ap (λ (z : List ℕ). z ++ row_text (i + 1) next) before ∙ append_assoc start (rows_text 1 (take i answers)) (row_text (i + 1) next)
    ∙ ap (λ (z : List ℕ). start ++ z) (sym more)

-- what stands before the rows, the rows, and what stands behind them
pub rows_done : (answers : List Answer) (prefix text whole : List ℕ) → prefix ≡ codes "{\"reply\":\"public\",\"rows\":["
    → text ≡ prefix ++ rows_text 1 answers → whole ≡ text ++ codes "]}" → whole ≡ compact_text (json_of_rows answers)
rows_done answers prefix text whole is between behind =
    behind ∙ ap (λ (z : List ℕ). z ++ codes "]}") between ∙ append_assoc prefix (rows_text 1 answers) (codes "]}")
    ∙ ap (λ (z : List ℕ). z ++ (rows_text 1 answers ++ codes "]}")) is ∙ rows_spelled answers
