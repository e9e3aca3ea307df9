-- The list of the submissions of a made contest, line by line.
use Rattle.std.proofs.Common.{ℕ, suc, ◌≡◌, ◌+◌, ◌*◌, ◌<◌, ◌≤◌, ◌^◌, List, [], ◌∷◌, ◌++◌, Bool, true, false, cond, not, ◌&&◌, ◌||◌, nat_eq, eq-eqb, nat_le, length, length-append, Option, Some, None, Result, Ok, refl, sym, ap, ◌∙◌, arith, append_assoc, codes}
use Rattle.std.specs.Fmt.{decimal}
use Rattle.std.specs.List.{list_all}
use Rattle.std.proofs.lemmas.Bool.Decides.{nat_tests}
use Rattle.std.proofs.lemmas.Slice.Eq.{bytes_eq-Decides}
use Rattle.std.proofs.lemmas.Fmt.{decimal_nonempty, length-decimal-le}
use Rattle.problem_settings.specs.Lines.{parts, onto_first}
use Rattle.contest_folder.specs.declared.faults.ContestFault.{ContestFault}
use Rattle.contest_folder.specs.Telling.{and_then, with_first}
use Rattle.contest_folder.specs.SubmissionLines.{is_blank, is_comment, is_file_byte, is_hidden, is_file_name, is_entry, entry_of_words, entry_of, entry_or_fault, entries_from}
use Rattle.work_maker.specs.Made.{MadeSubmission}
use Rattle.work_maker.specs.Files.{problem_name, team_name, image_name, submission_line, list_text}
use Rattle.work_maker.proofs.Digits.{AreDigits, Lacks, digits_of, number_lacks, lacks_both, unlike}
use Rattle.work_maker.proofs.Each.{Each}
use Rattle.work_maker.proofs.Computed.{problem_is_named, team_is_named}

-- what a line says, as a value of this type
abbrev item_of : {A : Type 0} → (ℕ → ℕ → List ℕ → Option A) → Type 0
item_of {A} said = A

abbrev pub Entry : Type 0
Entry = item_of entry_of

-- ---- the parts of a text

part_last : (sep : ℕ) (part : List ℕ) → Lacks sep part → parts sep part ≡ part ∷ []
part_last sep [] h = refl
part_last sep (b ∷ bs) h = ap (λ t. cond t ([] ∷ parts sep bs) (onto_first b (parts sep bs))) (unlike b sep h.0) ∙ ap (onto_first b) (part_last sep bs h.1)

part_then : (sep : ℕ) (part rest : List ℕ) → Lacks sep part → parts sep (part ++ sep ∷ rest) ≡ part ∷ parts sep rest
part_then sep [] rest h = ap (λ t. cond t ([] ∷ parts sep rest) (onto_first sep (parts sep rest))) (eq-eqb sep sep refl)
part_then sep (b ∷ bs) rest h =
    ap (λ t. cond t ([] ∷ parts sep (bs ++ sep ∷ rest)) (onto_first b (parts sep (bs ++ sep ∷ rest)))) (unlike b sep h.0) ∙ ap (onto_first b) (part_then sep bs rest h.1)

-- ---- a line

-- a submission of a contest with `problems` problems
pub record IsMade (problems : ℕ) (submission : MadeSubmission) : Type 0 where
  pub first : 1 ≤ submission.problem
  pub last : submission.problem ≤ problems
  pub team : submission.team < 10

-- the line without its line feed
body : ℕ → MadeSubmission → List ℕ
body number submission =
    decimal number ++ 32 ∷ (team_name submission.team ++ 32 ∷ (problem_name submission.problem ++ 32 ∷ image_name number))

passed : (a b c rest : List ℕ) → b ++ rest ≡ c → (a ++ 32 ∷ b) ++ rest ≡ a ++ 32 ∷ c
passed a b c rest e = append_assoc a (32 ∷ b) rest ∙ ap (λ t. a ++ 32 ∷ t) e

-- a line and what follows it
line_is : (number : ℕ) (submission : MadeSubmission) (rest : List ℕ) → submission_line number submission ++ rest ≡ body number submission ++ 10 ∷ rest
unfolding body
line_is number submission rest =
    let n = decimal number in
    let t = team_name submission.team in
    let p = problem_name submission.problem in
    let f = image_name number in
    let a : f ++ 10 ∷ [] ++ rest ≡ f ++ 10 ∷ rest = append_assoc f (10 ∷ []) rest in
    let b : (n ++ 32 ∷ (t ++ 32 ∷ (p ++ 32 ∷ (f ++ 10 ∷ [])))) ++ rest ≡ n ++ 32 ∷ (t ++ 32 ∷ (p ++ 32 ∷ (f ++ 10 ∷ rest))) =
    passed n _ _ rest (passed t _ _ rest (passed p _ _ rest a)) in
    let c : (n ++ 32 ∷ (t ++ 32 ∷ (p ++ 32 ∷ f))) ++ 10 ∷ rest ≡ n ++ 32 ∷ (t ++ 32 ∷ (p ++ 32 ∷ (f ++ 10 ∷ rest))) =
    passed n _ _ (10 ∷ rest) (passed t _ _ (10 ∷ rest) (passed p f (f ++ 10 ∷ rest) (10 ∷ rest) refl)) in
    b ∙ sym c

module _ (number : ℕ) (small : number ≤ 2000) where
  number_small : number < 2 ^ 64
  number_small = omega (arith, small)

  image_lacks : (sep : ℕ) → sep < 46 → Lacks sep (image_name number)
  image_lacks sep low =
      lacks_both sep (decimal number) (codes ".rv32") (number_lacks sep number (omega (arith, low)) number_small)
      ((λ e. absurd (omega (arith, e, low))), ((λ e. absurd (omega (arith, e, low))), ((λ e. absurd (omega (arith, e, low))), ((λ e. absurd (omega (arith, e, low))), ((λ e. absurd (omega (arith, e, low))), tt)))))

  body_lacks : (submission : MadeSubmission) (sep : ℕ) → sep < 32 → submission.problem ≤ 50 → submission.team < 10 → Lacks sep (body number submission)
  unfolding body
  body_lacks submission sep low few team =
      lacks_both sep (decimal number) _ (number_lacks sep number (omega (arith, low)) number_small) (
        (λ e. absurd (omega (arith, e, low))),
        lacks_both sep (team_name submission.team) _ ((λ e. absurd (omega (arith, e, low))), number_lacks sep submission.team (omega (arith, low)) (omega (arith, team))) (
          (λ e. absurd (omega (arith, e, low))),
          lacks_both sep (problem_name submission.problem) _ ((λ e. absurd (omega (arith, e, low))), number_lacks sep submission.problem (omega (arith, low)) (omega (arith, few)))
              ((λ e. absurd (omega (arith, e, low))), image_lacks sep (omega (arith, low))),
        ),
      )

  -- the words of the line
  words_are : (submission : MadeSubmission) → submission.problem ≤ 50 → submission.team < 10
      → parts 32 (body number submission) ≡ decimal number ∷ team_name submission.team ∷ problem_name submission.problem ∷ image_name number ∷ []
  unfolding body
  words_are submission few team =
      part_then 32 (decimal number) _ (number_lacks 32 number (omega arith) number_small)
      ∙ ap (λ ws. decimal number ∷ ws) (part_then 32 (team_name submission.team) _ ((λ e. absurd (omega (arith, e))), number_lacks 32 submission.team (omega arith) (omega (arith, team))))
      ∙ ap (λ ws. decimal number ∷ team_name submission.team ∷ ws) (part_then 32 (problem_name submission.problem) _ ((λ e. absurd (omega (arith, e))), number_lacks 32 submission.problem (omega arith) (omega (arith, few))))
      ∙ ap (λ ws. decimal number ∷ team_name submission.team ∷ problem_name submission.problem ∷ ws) (part_last 32 (image_name number) (image_lacks 32 (omega arith)))

-- a digit may stand in a file's name, and is no space, no `#` and no point
digit_passes : (b : ℕ) → 48 ≤ b → b ≤ 57 → is_file_byte b ≡ true
digit_passes b low high = grind (arith, nat_tests)

digits_pass : (ds rest : List ℕ) → AreDigits ds → list_all is_file_byte rest ≡ true → list_all is_file_byte (ds ++ rest) ≡ true
digits_pass [] rest h all = all
digits_pass (d ∷ ds) rest h all = ap (λ t. t && list_all is_file_byte (ds ++ rest)) (digit_passes d h.0.0 h.0.1) ∙ digits_pass ds rest h.1 all

not_hidden : (ds rest : List ℕ) → AreDigits ds → 0 < length ds → not (is_hidden (ds ++ rest)) ≡ true
not_hidden [] rest h some = absurd (omega (arith, some))
not_hidden (d ∷ ds) rest h some = ap not (unlike d 46 (λ e. absurd (omega (arith, e, h.0.0))))

not_skipped : (ds rest : List ℕ) → AreDigits ds → 0 < length ds → (is_blank (ds ++ rest) || is_comment (ds ++ rest)) ≡ false
not_skipped [] rest h some = absurd (omega (arith, some))
not_skipped (d ∷ ds) rest h some =
    ap (λ t. (t && is_blank (ds ++ rest)) || nat_eq d 35) (unlike d 32 (λ e. absurd (omega (arith, e, h.0.0)))) ∙ unlike d 35 (λ e. absurd (omega (arith, e, h.0.0)))

within : (low high n : ℕ) → low ≤ n → n ≤ high → (nat_le low n ≡ true) × (nat_le n high ≡ true)
within low high n above below = ((grind (arith, nat_tests)), (grind (arith, nat_tests)))

all_four : (a b c d : Bool) → a ≡ true → b ≡ true → c ≡ true → d ≡ true → (a && b && c && d) ≡ true
all_four a b c d ea eb ec ed = rw (ea, eb, ec) ed

file_is_named : (number : ℕ) → number ≤ 2000 → is_file_name (image_name number) ≡ true
file_is_named number small =
    let digits = digits_of number (omega (arith, small)) in
    let some = decimal_nonempty number (omega (arith, small)) in
    let few = length-decimal-le 4 number (omega arith) (omega (arith, small)) (omega (arith, small)) in
    let size = length-append (decimal number) (codes ".rv32") in
    let bounds = within 1 64 (length (image_name number)) (omega (arith, size, some)) (omega (arith, size, few)) in
    all_four _ _ _ _ bounds.0 bounds.1 (not_hidden (decimal number) (codes ".rv32") digits some) (digits_pass (decimal number) (codes ".rv32") digits refl)

-- what a line says
abbrev pub entry_for : ℕ → MadeSubmission → Entry
entry_for number submission = record { line = number; team = team_name submission.team; problem = problem_name submission.problem; file = image_name number }

said : (number : ℕ) (submission : MadeSubmission) → number ≤ 2000 → submission.problem ≤ 50 → submission.team < 10
    → entry_of number number (body number submission) ≡ Some (entry_for number submission)
said number submission small few team =
    let fits : is_entry number (decimal number) (team_name submission.team) (problem_name submission.problem) (image_name number) ≡ true =
    all_four _ _ _ _ ((bytes_eq-Decides (decimal number) (decimal number)).1 refl) (team_is_named submission.team team) (problem_is_named submission.problem few) (file_is_named number small) in
    ap (entry_of_words number number) (words_are number small submission few team)
    ∙ ap (λ t. cond t (Some (entry_for number submission)) None) fits

-- ---- the list

abbrev pub entries_for : ℕ → List MadeSubmission → List Entry
entries_for number [] = []
entries_for number (submission ∷ submissions) = entry_for number submission ∷ entries_for (suc number) submissions

starts : (number : ℕ) (submission : MadeSubmission) → AreDigits (decimal number) → 0 < length (decimal number)
    → (is_blank (body number submission) || is_comment (body number submission)) ≡ false
unfolding body
starts number submission digits some = not_skipped (decimal number) _ digits some

read_one : (number : ℕ) (submission : MadeSubmission) (rest : List (List ℕ)) → number ≤ 2000 → submission.problem ≤ 50 → submission.team < 10
    → entries_from number number (body number submission ∷ rest) ≡ with_first (entry_for number submission) (entries_from (number + 1) (number + 1) rest)
read_one number submission rest small few team =
    let digits = digits_of number (omega (arith, small)) in
    let some = decimal_nonempty number (omega (arith, small)) in
    let next : Option Entry → Result (List Entry) ContestFault = λ o. and_then (λ (entry : Entry). with_first entry (entries_from (number + 1) (number + 1) rest)) (entry_or_fault number o) in
    ap (λ t. cond t (entries_from (number + 1) number rest) (next (entry_of number number (body number submission)))) (starts number submission digits some)
    ∙ ap next (said number submission small few team)

pub list_is : (problems number : ℕ) (submissions : List MadeSubmission) → problems ≤ 50 → number + length submissions ≤ 2001 → Each (IsMade problems) submissions
    → entries_from number number (parts 10 (list_text number submissions)) ≡ Ok (entries_for number submissions)
list_is problems number [] few short made = refl
list_is problems number (submission ∷ submissions) few short made =
    let small : number ≤ 2000 = omega (arith, short) in
    let problem : submission.problem ≤ 50 = omega (arith, few, made.0.last) in
    let one : number + 1 ≡ suc number = omega arith in
    let more = list_is problems (suc number) submissions few (omega (arith, short)) made.1 in
    ap (λ t. entries_from number number (parts 10 t)) (line_is number submission (list_text (suc number) submissions))
    ∙ ap (entries_from number number) (part_then 10 (body number submission) (list_text (suc number) submissions) (body_lacks number small submission 10 (omega arith) problem made.0.team))
    ∙ read_one number submission (parts 10 (list_text (suc number) submissions)) small problem made.0.team
    ∙ ap (λ n. with_first (entry_for number submission) (entries_from n n (parts 10 (list_text (suc number) submissions)))) one
    ∙ ap (with_first (entry_for number submission)) more

-- ---- how long the list is

line_short : (number : ℕ) (submission : MadeSubmission) → number ≤ 2000 → submission.problem ≤ 50 → submission.team < 10 → length (submission_line number submission) ≤ 30
line_short number submission small few team =
    let n = length-decimal-le 4 number (omega arith) (omega (arith, small)) (omega (arith, small)) in
    let t = length-decimal-le 1 submission.team (omega arith) (omega (arith, team)) (omega (arith, team)) in
    let p = length-decimal-le 2 submission.problem (omega arith) (omega (arith, few)) (omega (arith, few)) in
    let a = length-append (decimal number) (32 ∷ (team_name submission.team ++ 32 ∷ (problem_name submission.problem ++ 32 ∷ (image_name number ++ 10 ∷ [])))) in
    let b = length-append (decimal submission.team) (32 ∷ (problem_name submission.problem ++ 32 ∷ (image_name number ++ 10 ∷ []))) in
    let c = length-append (decimal submission.problem) (32 ∷ (image_name number ++ 10 ∷ [])) in
    let d = length-append (image_name number) (10 ∷ []) in
    let e = length-append (decimal number) (codes ".rv32") in
    omega (arith, n, t, p, a, b, c, d, e)

pub list_short : (problems number : ℕ) (submissions : List MadeSubmission) → problems ≤ 50 → number + length submissions ≤ 2001 → Each (IsMade problems) submissions
    → length (list_text number submissions) ≤ 30 * length submissions
list_short problems number [] few short made = omega arith
list_short problems number (submission ∷ submissions) few short made =
    let one = line_short number submission (omega (arith, short)) (omega (arith, few, made.0.last)) made.0.team in
    let more = list_short problems (suc number) submissions few (omega (arith, short)) made.1 in
    omega (arith, one, more, length-append (submission_line number submission) (list_text (suc number) submissions))
