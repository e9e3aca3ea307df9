-- The lines of submissions, one after another.
use Rattle.std.proofs.Common.{ℕ, ◌≡◌, ◌+◌, ◌==◌, List, [], ◌∷◌, Bool, true, false, cond, Option, Some, None, is_some, is_none, option_map, Bor, refl, sym, ap, ◌∙◌, ◌||◌}
use Rattle.problem_settings.specs.Lines.{parts, parts_behind, onto_first}
use Rattle.contest_folder.specs.declared.roster.Problem.{Problem}
use Rattle.contest_folder.specs.declared.lines.Entry.{Entry}
use Rattle.contest_folder.specs.Telling.{and_then, with_first}
use Rattle.contest_folder.specs.SubmissionLines.{is_blank, is_comment, entry_of, entry_of_words, entry_or_fault, entries_from}

-- a text has a part
some_part : (sep : ℕ) (text : List ℕ) → (first : List ℕ) × (rest : List (List ℕ)) × (parts sep text ≡ first ∷ rest)
some_part sep [] = ([], [], refl)
some_part sep (b ∷ bs) = elim (b == sep) as (λ t. (first : List ℕ) × (rest : List (List ℕ)) × (cond t ([] ∷ parts sep bs) (onto_first b (parts sep bs)) ≡ first ∷ rest)) [
  | true ↦ ([], parts sep bs, refl)
  | false ↦ elim (parts sep bs) as (λ ps. (first : List ℕ) × (rest : List (List ℕ)) × (onto_first b ps ≡ first ∷ rest)) [
    | [] ↦ (b ∷ [], [], refl)
    | p ∷ ps ↦ (b ∷ p, ps, refl)
  ]
]

-- more than four words are no entry
pub too_many : (line number : ℕ) (a b p f : List ℕ) (rest : Option (Bor (List ℕ))) → is_some rest ≡ true
    → entry_of_words line number (a ∷ b ∷ p ∷ f ∷ parts_behind 32 rest) ≡ None
too_many line number a b p f None e = cc
too_many line number a b p f (Some text) e =
    let more = some_part 32 text.now in ap (λ ws. entry_of_words line number (a ∷ b ∷ p ∷ f ∷ ws)) more.2

-- a line that is skipped
pub skipped_line : (line number : ℕ) (text first : List ℕ) (rest : List (List ℕ)) → parts 10 text ≡ first ∷ rest → (is_blank first || is_comment first) ≡ true
    → entries_from line number (parts 10 text) ≡ entries_from (line + 1) number rest
skipped_line line number text first rest cut skipped =
    ap (entries_from line number) cut
    ∙ ap (λ b. cond b (entries_from (line + 1) number rest) (and_then (λ (e : Entry). with_first e (entries_from (line + 1) (number + 1) rest)) (entry_or_fault line (entry_of line number first)))) skipped

-- and one that is read
pub read_line : (line number : ℕ) (text first : List ℕ) (rest : List (List ℕ)) → parts 10 text ≡ first ∷ rest → (is_blank first || is_comment first) ≡ false
    → entries_from line number (parts 10 text)
    ≡ and_then (λ (e : Entry). with_first e (entries_from (line + 1) (number + 1) rest)) (entry_or_fault line (entry_of line number first))
read_line line number text first rest cut kept =
    ap (entries_from line number) cut
    ∙ ap (λ b. cond b (entries_from (line + 1) number rest) (and_then (λ (e : Entry). with_first e (entries_from (line + 1) (number + 1) rest)) (entry_or_fault line (entry_of line number first)))) kept

pub none_behind : (r : Option (Bor Problem)) (found : Option Problem) (b : Bool) → option_map (λ (p : Bor Problem). p.now) r ≡ found → b ≡ is_none r → is_none found ≡ b
none_behind None found b e is = ap is_none (sym e) ∙ sym is
none_behind (Some p) found b e is = ap is_none (sym e) ∙ sym is
