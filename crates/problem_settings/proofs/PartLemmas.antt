-- The parts of a text, from its front.
use Rattle.std.proofs.Common.{ℕ, ◌≡◌, ◌≢◌, ◌+◌, ◌-◌, ◌<◌, ◌≤◌, List, [], ◌∷◌, ◌++◌, false, eqb, true, refl, sym, ap, ◌∙◌, subst, arith, length, take, drop, get_or}
use Rattle.std.specs.Prelude.{⊤}
use Rattle.std.proofs.lemmas.List.{take_more, drop_more, take-append-drop, take_all, length-drop}
use Rattle.std.proofs.lemmas.Bool.Decides.{nat_tests}
use Rattle.problem_settings.specs.Lines.{parts, onto_first}

-- a run of bytes other than the separator
abbrev pub IsPart : ℕ → List ℕ → Type 0
IsPart sep [] = ⊤
IsPart sep (b ∷ bs) = (b ≢ sep) × IsPart sep bs

not_sep : (b sep : ℕ) → b ≢ sep → eqb b sep ≡ false
not_sep b sep h = grind (arith, nat_tests)

IsPart-push : (sep : ℕ) (part : List ℕ) (b : ℕ) → IsPart sep part → b ≢ sep → IsPart sep (part ++ b ∷ [])
IsPart-push sep [] b h n = (n, tt)
IsPart-push sep (x ∷ xs) b h n = (h.0, IsPart-push sep xs b h.1 n)

pub part_more : (sep : ℕ) (text : List ℕ) (i : ℕ) → i < length text → IsPart sep (take i text) → get_or text i 0 ≢ sep → IsPart sep (take (i + 1) text)
part_more sep text i lt h n = subst (IsPart sep) (sym (take_more text i 0 lt)) (IsPart-push sep (take i text) (get_or text i 0) h n)

parts_step : (sep b : ℕ) (bs : List ℕ) → b ≢ sep → parts sep (b ∷ bs) ≡ onto_first b (parts sep bs)
parts_step sep b bs h = rw (not_sep b sep h) refl

-- a part that is all
part_last : (sep : ℕ) (part : List ℕ) → IsPart sep part → parts sep part ≡ part ∷ []
part_last sep [] h = refl
part_last sep (b ∷ bs) h = parts_step sep b bs h.0 ∙ ap (onto_first b) (part_last sep bs h.1)

same : (b : ℕ) → eqb b b ≡ true
same b = grind (arith, nat_tests)

-- a part and a separator
part_then : (sep : ℕ) (part rest : List ℕ) → IsPart sep part → parts sep (part ++ sep ∷ rest) ≡ part ∷ parts sep rest
part_then sep [] rest h = rw (same sep) refl
part_then sep (b ∷ bs) rest h = parts_step sep b (bs ++ sep ∷ rest) h.0 ∙ ap (onto_first b) (part_then sep bs rest h.1)

first_part : (sep : ℕ) (text : List ℕ) (i : ℕ) → i < length text → IsPart sep (take i text) → get_or text i 0 ≡ sep
    → parts sep text ≡ take i text ∷ parts sep (drop (i + 1) text)
first_part sep text i lt h met =
    let behind : drop i text ≡ sep ∷ drop (i + 1) text = drop_more text i 0 lt ∙ ap (λ b. b ∷ drop (i + 1) text) met in
    ap (parts sep) (sym (take-append-drop i text) ∙ ap (λ t. take i text ++ t) behind) ∙ part_then sep (take i text) (drop (i + 1) text) h

-- what stands behind a separator, as a slice of the text
pub cut_at : (sep : ℕ) (text : List ℕ) (i : ℕ) → i < length text → IsPart sep (take i text) → get_or text i 0 ≡ sep
    → parts sep text ≡ take i text ∷ parts sep (take (length text - (i + 1)) (drop (i + 1) text))
cut_at sep text i lt h met =
    let whole : length (drop (i + 1) text) ≤ length text - (i + 1) = omega (arith, length-drop (i + 1) text) in
    first_part sep text i lt h met ∙ ap (λ t. take i text ∷ parts sep t) (sym (take_all (length text - (i + 1)) (drop (i + 1) text) whole))

-- a text without a separator
pub uncut : (sep : ℕ) (text : List ℕ) (i : ℕ) → IsPart sep (take i text) → length text ≤ i → parts sep text ≡ text ∷ []
uncut sep text i h over = part_last sep text (subst (IsPart sep) (take_all i text over) h)
