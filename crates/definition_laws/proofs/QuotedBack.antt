-- A quoted text is read back.
use Rattle.std.proofs.Common.{ℕ, ◌≡◌, List, [], ◌∷◌, ◌++◌, Result, Ok, Err, Bool, true, false, cond, refl, sym, ap, ◌∙◌, eqb}
use Rattle.std.proofs.lemmas.Bool.{eqb-true}
use Rattle.problem_settings.specs.declared.yaml.YamlWhy.{YamlWhy}
use Rattle.problem_settings.specs.declared.yaml.YamlWhy.TheVariants.{Open, BadEscape}
use Rattle.problem_settings.specs.Scalars.{single_text, single_after, double_text, double_after, is_escape, escaped, quoted, scalar_of}
use Rattle.definition_laws.specs.QuotedTexts.{doubled, single_quoted, escape_of, escaped_text, double_quoted}

-- ---- single quotes

text_step : (b : ℕ) (rest : List ℕ) → eqb b 39 ≡ false → single_text (b ∷ rest) ≡ b ∷ single_text rest
text_step b [] e = ap (λ (t : Bool). cond t [] (b ∷ [])) e
text_step b (c ∷ rest) e = ap (λ (t : Bool). cond t (cond (eqb c 39) (39 ∷ single_text rest) []) (b ∷ single_text (c ∷ rest))) e

after_step : (b : ℕ) (rest : List ℕ) → eqb b 39 ≡ false → single_after (b ∷ rest) ≡ single_after rest
after_step b [] e = ap (λ (t : Bool). cond t (Ok []) (Err Open)) e
after_step b (c ∷ rest) e = ap (λ (t : Bool). cond t (cond (eqb c 39) (single_after rest) (Ok (c ∷ rest))) (single_after (c ∷ rest))) e

single_holds : (text : List ℕ) → single_text (doubled text ++ 39 ∷ []) ≡ text
single_holds [] = refl
single_holds (b ∷ text) = by (eqb b 39) refl (single_holds text)
  where
    by : (t : Bool) → eqb b 39 ≡ t → single_text (doubled text ++ 39 ∷ []) ≡ text → single_text ((cond t (39 ∷ 39 ∷ []) (b ∷ []) ++ doubled text) ++ 39 ∷ []) ≡ b ∷ text
    by true e rest = ap (λ (z : List ℕ). 39 ∷ z) rest ∙ ap (λ (c : ℕ). c ∷ text) (sym (eqb-true b 39 e))
    by false e rest = text_step b (doubled text ++ 39 ∷ []) e ∙ ap (λ (z : List ℕ). b ∷ z) rest

single_ends : (text : List ℕ) → single_after (doubled text ++ 39 ∷ []) ≡ Ok []
single_ends [] = refl
single_ends (b ∷ text) = by (eqb b 39) refl (single_ends text)
  where
    by : (t : Bool) → eqb b 39 ≡ t → single_after (doubled text ++ 39 ∷ []) ≡ Ok [] → single_after ((cond t (39 ∷ 39 ∷ []) (b ∷ []) ++ doubled text) ++ 39 ∷ []) ≡ Ok []
    by true e rest = rest
    by false e rest = after_step b (doubled text ++ 39 ∷ []) e ∙ rest

pub single_back : (text : List ℕ) → scalar_of (single_quoted text) ≡ Ok text
single_back text =
    ap (λ (r : Result (List ℕ) YamlWhy). quoted (single_text (doubled text ++ 39 ∷ [])) r) (single_ends text)
    ∙ ap (λ (z : List ℕ). Ok z) (single_holds text)

-- ---- double quotes

double_step : (b : ℕ) (rest : List ℕ) → eqb b 34 ≡ false → eqb b 92 ≡ false → double_text (b ∷ rest) ≡ b ∷ double_text rest
double_step b [] e f = ap (λ (t : Bool). cond t [] (b ∷ [])) e
double_step b (c ∷ rest) e f =
    ap (λ (t : Bool). cond t [] (cond (eqb b 92) (escaped c ∷ double_text rest) (b ∷ double_text (c ∷ rest)))) e
    ∙ ap (λ (t : Bool). cond t (escaped c ∷ double_text rest) (b ∷ double_text (c ∷ rest))) f

double_after_step : (b : ℕ) (rest : List ℕ) → eqb b 34 ≡ false → eqb b 92 ≡ false → double_after (b ∷ rest) ≡ double_after rest
double_after_step b [] e f = ap (λ (t : Bool). cond t (Ok []) (Err Open)) e
double_after_step b (c ∷ rest) e f =
    ap (λ (t : Bool). cond t (Ok (c ∷ rest)) (cond (eqb b 92) (cond (is_escape c) (double_after rest) (Err BadEscape)) (double_after (c ∷ rest)))) e
    ∙ ap (λ (t : Bool). cond t (cond (is_escape c) (double_after rest) (Err BadEscape)) (double_after (c ∷ rest))) f

-- what one byte adds
record IsWritten (b : ℕ) (prefix : List ℕ) : Type 0 where
  pub text : (rest : List ℕ) → double_text (prefix ++ rest) ≡ b ∷ double_text rest
  pub after : (rest : List ℕ) → double_after (prefix ++ rest) ≡ double_after rest

by_backslash : (b c : ℕ) → escaped c ≡ b → is_escape c ≡ true → IsWritten b (92 ∷ c ∷ [])
by_backslash b c is can = record {
  text = λ rest. ap (λ (x : ℕ). x ∷ double_text rest) is;
  after = λ rest. ap (λ (t : Bool). cond t (double_after rest) (Err BadEscape)) can;
}

written : (b : ℕ) → IsWritten b (escape_of b)
written b = quote (eqb b 34) refl
  where
    tab : (t : Bool) → eqb b 34 ≡ false → eqb b 92 ≡ false → eqb b 9 ≡ t → IsWritten b (cond t (92 ∷ 116 ∷ []) (b ∷ []))
    tab true e f g = by_backslash b 116 (sym (eqb-true b 9 g)) refl
    tab false e f g = record { text = λ rest. double_step b rest e f; after = λ rest. double_after_step b rest e f }

    feed : (t : Bool) → eqb b 34 ≡ false → eqb b 92 ≡ false → eqb b 10 ≡ t → IsWritten b (cond t (92 ∷ 110 ∷ []) (cond (eqb b 9) (92 ∷ 116 ∷ []) (b ∷ [])))
    feed true e f g = by_backslash b 110 (sym (eqb-true b 10 g)) refl
    feed false e f g = tab (eqb b 9) e f refl

    slash : (t : Bool) → eqb b 34 ≡ false → eqb b 92 ≡ t → IsWritten b (cond t (92 ∷ 92 ∷ []) (cond (eqb b 10) (92 ∷ 110 ∷ []) (cond (eqb b 9) (92 ∷ 116 ∷ []) (b ∷ []))))
    slash true e f = by_backslash b 92 (sym (eqb-true b 92 f)) refl
    slash false e f = feed (eqb b 10) e f refl

    quote : (t : Bool) → eqb b 34 ≡ t → IsWritten b (cond t (92 ∷ 34 ∷ []) (cond (eqb b 92) (92 ∷ 92 ∷ []) (cond (eqb b 10) (92 ∷ 110 ∷ []) (cond (eqb b 9) (92 ∷ 116 ∷ []) (b ∷ [])))))
    quote true e = by_backslash b 34 (sym (eqb-true b 34 e)) refl
    quote false e = slash (eqb b 92) e refl

regroup : (prefix text : List ℕ) → (prefix ++ text) ++ 34 ∷ [] ≡ prefix ++ (text ++ 34 ∷ [])
regroup [] text = refl
regroup (b ∷ prefix) text = ap (λ (z : List ℕ). b ∷ z) (regroup prefix text)

double_holds : (text : List ℕ) → double_text (escaped_text text ++ 34 ∷ []) ≡ text
double_holds [] = refl
double_holds (b ∷ text) =
    ap double_text (regroup (escape_of b) (escaped_text text))
    ∙ ((written b).text (escaped_text text ++ 34 ∷ []) ∙ ap (λ (z : List ℕ). b ∷ z) (double_holds text))

double_ends : (text : List ℕ) → double_after (escaped_text text ++ 34 ∷ []) ≡ Ok []
double_ends [] = refl
double_ends (b ∷ text) =
    ap double_after (regroup (escape_of b) (escaped_text text))
    ∙ ((written b).after (escaped_text text ++ 34 ∷ []) ∙ double_ends text)

pub double_back : (text : List ℕ) → scalar_of (double_quoted text) ≡ Ok text
double_back text =
    ap (λ (r : Result (List ℕ) YamlWhy). quoted (double_text (escaped_text text ++ 34 ∷ [])) r) (double_ends text)
    ∙ ap (λ (z : List ℕ). Ok z) (double_holds text)
