-- The first line of a text.
use Rattle.std.proofs.Common.{ℕ, zero, suc, ◌≡◌, ◌+◌, ◌/◌, ◌%◌, List, [], ◌∷◌, ◌++◌, Some, None, true, false, cond, eqb, refl, ap, ◌∙◌, arith, length, drop}
use Rattle.std.specs.Prelude.{nat_lt}
use Rattle.std.proofs.lemmas.Bool.{ne_eqb, eqb-true}
use Rattle.std.specs.Option.{option_map}
use Rattle.std.specs.Fmt.{decimal, digits, digits_onto, digit_glyph}
use Rattle.farm_laws.specs.Output.{first_line}
use Rattle.farm_laws.proofs.Each.{Each}

-- what stands before a line feed is no line feed
abbrev pub Feedless : List ℕ → Type 0
Feedless bytes = Each (λ b. eqb b 10 ≡ false) bytes

-- whatever follows a whole line
pub first_line_prefix : (xs ys line : List ℕ) → first_line xs ≡ Some line → first_line (xs ++ ys) ≡ Some line
first_line_prefix [] ys line h = cc
first_line_prefix (b ∷ xs) ys line h =
    let onto : List ℕ → List ℕ = λ rest. b ∷ rest in
    elim (eqb b 10) as (λ c. cond c (Some []) (option_map onto (first_line xs)) ≡ Some line → cond c (Some []) (option_map onto (first_line (xs ++ ys))) ≡ Some line) [
      | true ↦ λ e. e
      | false ↦ λ e.
          elim (first_line xs) as (λ o. first_line xs ≡ o → option_map onto o ≡ Some line → option_map onto (first_line (xs ++ ys)) ≡ Some line) [
            | None ↦ λ k f. cc
            | Some rest ↦ λ k f. ap (option_map onto) (first_line_prefix xs ys rest k) ∙ f
          ] refl e
    ] h

-- what ends in a line feed has a first line
pub first_line_ended : (xs : List ℕ) → (line : List ℕ) × (first_line (xs ++ 10 ∷ []) ≡ Some line)
first_line_ended [] = ([], refl)
first_line_ended (b ∷ xs) =
    let others = first_line_ended xs in
    let onto : List ℕ → List ℕ = λ rest. b ∷ rest in
    elim (eqb b 10) as (λ c. (line : List ℕ) × (cond c (Some []) (option_map onto (first_line (xs ++ 10 ∷ []))) ≡ Some line)) [
      | true ↦ ([], refl)
      | false ↦ (b ∷ others.0, ap (option_map onto) others.1)
    ]

-- the line before a line feed
pub first_line_whole : (line more : List ℕ) → Feedless line → first_line (line ++ 10 ∷ more) ≡ Some line
first_line_whole [] more h = refl
first_line_whole (b ∷ line) more h =
    ap (λ c. cond c (Some []) (option_map (λ rest. b ∷ rest) (first_line (line ++ 10 ∷ more)))) h.0 ∙ ap (option_map (λ rest. b ∷ rest)) (first_line_whole line more h.1)

-- the text begins with its first line
pub first_line_begins : (text line : List ℕ) → first_line text ≡ Some line → (more : List ℕ) × (text ≡ line ++ 10 ∷ more)
first_line_begins [] line h = cc
first_line_begins (b ∷ text) line h =
    let onto : List ℕ → List ℕ = λ rest. b ∷ rest in
    elim (eqb b 10) as (λ c. eqb b 10 ≡ c → cond c (Some []) (option_map onto (first_line text)) ≡ Some line → (more : List ℕ) × (b ∷ text ≡ line ++ 10 ∷ more)) [
      | true ↦ λ e f.
          let none : [] ≡ line = cc in
          (text, ap (λ (x : ℕ). x ∷ text) (eqb-true b 10 e) ∙ ap (λ (xs : List ℕ). xs ++ 10 ∷ text) none)
      | false ↦ λ e f.
          elim (first_line text) as (λ o. first_line text ≡ o → option_map onto o ≡ Some line → (more : List ℕ) × (b ∷ text ≡ line ++ 10 ∷ more)) [
            | None ↦ λ k g. cc
            | Some rest ↦ λ k g.
                let same : b ∷ rest ≡ line = cc in
                let others = first_line_begins text rest k in
                (others.0, ap onto others.1 ∙ ap (λ (xs : List ℕ). xs ++ 10 ∷ others.0) same)
          ] refl f
    ] refl h

-- what stands behind a prefix of a text that was written in part
pub written_behind : (prefix text more rest line : List ℕ) → text ++ more ≡ prefix ++ rest → first_line (drop (length prefix) text) ≡ Some line → drop (length prefix) text ++ more ≡ rest
written_behind [] text more rest line e h = e
written_behind (a ∷ prefix) [] more rest line e h = cc
written_behind (a ∷ prefix) (b ∷ text) more rest line e h = written_behind prefix text more rest line (let tails : text ++ more ≡ prefix ++ rest = cc in tails) h

-- Digits

glyph_feedless : (d : ℕ) → eqb (digit_glyph false d) 10 ≡ false
glyph_feedless d = elim (nat_lt d 10) as (λ b. eqb (cond b (48 + d) (87 + d)) 10 ≡ false) [ true ↦ ne_eqb (48 + d) 10 (λ e. omega arith) | false ↦ ne_eqb (87 + d) 10 (λ e. omega arith) ]

onto_feedless : (k n : ℕ) (acc : List ℕ) → Feedless acc → Feedless (digits_onto k 10 false n acc)
onto_feedless zero n acc h = h
onto_feedless (suc k) n acc h =
    let more : Feedless (digit_glyph false (n % 10) ∷ acc) = (glyph_feedless (n % 10), h) in
    elim (eqb (n / 10) 0) as (λ b. Feedless (cond b (digit_glyph false (n % 10) ∷ acc) (digits_onto k 10 false (n / 10) (digit_glyph false (n % 10) ∷ acc)))) [
      | true ↦ more
      | false ↦ onto_feedless k (n / 10) (digit_glyph false (n % 10) ∷ acc) more
    ]

pub decimal_feedless : (n : ℕ) → Feedless (decimal n)
unfolding digits
decimal_feedless n = onto_feedless 64 n [] tt
