-- The words of a line.
use Rattle.std.proofs.Common.{ℕ, ◌≡◌, ◌==◌, List, [], ◌∷◌, true, false, cond, Option, Some, None, is_some, Bor, refl, ap}
use Rattle.problem_settings.specs.Lines.{parts, parts_behind, onto_first}
use Rattle.contest_notes.specs.Mistakes.{mistake_of_words}
use Rattle.contest_notes.specs.Notes.{said_by}
use Rattle.contest_notes.specs.declared.mistakes.Mistake.TheVariants as mistake

-- a text has a part
some_part : (sep : ℕ) (text : List ℕ) → (first : List ℕ) × (rest : List (List ℕ)) × (parts sep text ≡ first ∷ rest)
some_part sep [] = ([], [], refl)
some_part sep (b ∷ bs) = elim (b == sep) as (λ t. (first : List ℕ) × (rest : List (List ℕ)) × (cond t ([] ∷ parts sep bs) (onto_first b (parts sep bs)) ≡ first ∷ rest)) [
  | true ↦ ([], parts sep bs, refl)
  | false ↦ elim (parts sep bs) as (λ ps. (first : List ℕ) × (rest : List (List ℕ)) × (onto_first b ps ≡ first ∷ rest)) [
    | [] ↦ (b ∷ [], [], refl)
    | p ∷ ps ↦ (b ∷ p, ps, refl)
  ]
]

-- more than four words are another number of words
pub too_many : (number : ℕ) (a b p f : List ℕ) (rest : Option (Bor (List ℕ))) → is_some rest ≡ true
    → mistake_of_words number (a ∷ b ∷ p ∷ f ∷ parts_behind 32 rest) ≡ mistake.Words
too_many number a b p f None e = cc
too_many number a b p f (Some text) e =
    let more = some_part 32 text.now in ap (λ ws. mistake_of_words number (a ∷ b ∷ p ∷ f ∷ ws)) more.2

-- and say no file
pub too_many_said : (a b p f : List ℕ) (rest : Option (Bor (List ℕ))) → is_some rest ≡ true → said_by (a ∷ b ∷ p ∷ f ∷ parts_behind 32 rest) ≡ None
too_many_said a b p f None e = cc
too_many_said a b p f (Some text) e =
    let more = some_part 32 text.now in ap (λ ws. said_by (a ∷ b ∷ p ∷ f ∷ ws)) more.2
