-- Scalars, from their front.
use Rattle.std.proofs.Common.{ℕ, ◌≡◌, ◌≢◌, ◌-◌, ◌≤◌, ◌<◌, List, [], ◌∷◌, length, get_or, take, drop, Ok, Err, true, false, eqb, refl, sym, ap, ◌∙◌, arith}
use Rattle.std.proofs.lemmas.Bool.Decides.{nat_tests}
use Rattle.std.proofs.lemmas.List.{take_all}
use Rattle.problem_settings.specs.declared.yaml.YamlWhy.TheVariants.{Open, BadEscape}
use Rattle.problem_settings.specs.Scalars.{single_text, single_after, double_text, double_after, is_escape}

other : (a b : ℕ) → a ≢ b → eqb a b ≡ false
other a b h = grind (arith, nat_tests)

-- ---- single-quoted

single_skips : (b : ℕ) (bs : List ℕ) → b ≢ 39 → single_after (b ∷ bs) ≡ single_after bs
single_skips b [] h = rw (other b 39 h) refl
single_skips b (c ∷ bs) h = rw (other b 39 h) refl

single_ends : (c : ℕ) (bs : List ℕ) → c ≢ 39 → single_after (39 ∷ c ∷ bs) ≡ Ok (c ∷ bs)
single_ends c bs h = rw (other c 39 h) refl

pub single_text_more : (b : ℕ) (bs : List ℕ) → b ≢ 39 → single_text (b ∷ bs) ≡ b ∷ single_text bs
single_text_more b [] h = rw (other b 39 h) refl
single_text_more b (c ∷ bs) h = rw (other b 39 h) refl

pub single_text_end : (c : ℕ) (bs : List ℕ) → c ≢ 39 → single_text (39 ∷ c ∷ bs) ≡ []
single_text_end c bs h = rw (other c 39 h) refl

-- ---- double-quoted

double_skips : (b : ℕ) (bs : List ℕ) → b ≢ 34 → b ≢ 92 → double_after (b ∷ bs) ≡ double_after bs
double_skips b [] h k = rw (other b 34 h) refl
double_skips b (c ∷ bs) h k = rw (other b 34 h, other b 92 k) refl

double_ends : (bs : List ℕ) → double_after (34 ∷ bs) ≡ Ok bs
double_ends [] = refl
double_ends (c ∷ bs) = refl

double_stops : (c : ℕ) (bs : List ℕ) → is_escape c ≡ false → double_after (92 ∷ c ∷ bs) ≡ Err BadEscape
double_stops c bs h = rw h refl

double_goes : (c : ℕ) (bs : List ℕ) → is_escape c ≡ true → double_after (92 ∷ c ∷ bs) ≡ double_after bs
double_goes c bs h = rw h refl

pub double_text_more : (b : ℕ) (bs : List ℕ) → b ≢ 34 → b ≢ 92 → double_text (b ∷ bs) ≡ b ∷ double_text bs
double_text_more b [] h k = rw (other b 34 h) refl
double_text_more b (c ∷ bs) h k = rw (other b 34 h, other b 92 k) refl

pub double_text_end : (bs : List ℕ) → double_text (34 ∷ bs) ≡ []
double_text_end [] = refl
double_text_end (c ∷ bs) = refl

-- ---- a slice that is taken apart from its front

abbrev pub rest : List ℕ → List ℕ
rest left = take (length left - 1) (drop 1 left)

pub front : (left : List ℕ) → 1 ≤ length left → left ≡ get_or left 0 0 ∷ rest left
front [] h = absurd (omega arith)
front (b ∷ bs) h = ap (λ t. b ∷ t) (sym (take_all (length (b ∷ bs) - 1) bs (omega arith)))

pub single_skips_front : (left text : List ℕ) → 1 ≤ length left → get_or left 0 0 ≢ 39 → single_after left ≡ single_after text
    → single_after (rest left) ≡ single_after text
single_skips_front left text h a e = sym (single_skips (get_or left 0 0) (rest left) a) ∙ ap single_after (sym (front left h)) ∙ e

pub double_skips_front : (left text : List ℕ) → 1 ≤ length left → get_or left 0 0 ≢ 34 → get_or left 0 0 ≢ 92 → double_after left ≡ double_after text
    → double_after (rest left) ≡ double_after text
double_skips_front left text h a b e = sym (double_skips (get_or left 0 0) (rest left) a b) ∙ ap double_after (sym (front left h)) ∙ e

pub double_goes_front : (left text : List ℕ) → 1 ≤ length left → get_or left 0 0 ≡ 92 → 1 ≤ length (rest left) → true ≡ is_escape (get_or (rest left) 0 0)
    → double_after left ≡ double_after text → double_after (rest (rest left)) ≡ double_after text
double_goes_front left text h a k b e =
    sym (double_goes (get_or (rest left) 0 0) (rest (rest left)) (sym b)) ∙ ap (λ r. double_after (92 ∷ r)) (sym (front (rest left) k))
    ∙ ap (λ n. double_after (n ∷ rest left)) (sym a) ∙ ap double_after (sym (front left h)) ∙ e

none : (left : List ℕ) → length left < 1 → left ≡ []
none [] h = refl
none (b ∷ bs) h = absurd (omega arith)

-- what the text is where its first byte is known
single_front : (left text : List ℕ) (b : ℕ) → 1 ≤ length left → get_or left 0 0 ≡ b → single_after left ≡ single_after text
    → single_after text ≡ single_after (b ∷ rest left)
single_front left text b h a e = sym e ∙ ap single_after (front left h) ∙ ap (λ n. single_after (n ∷ rest left)) a

double_front : (left text : List ℕ) (b : ℕ) → 1 ≤ length left → get_or left 0 0 ≡ b → double_after left ≡ double_after text
    → double_after text ≡ double_after (b ∷ rest left)
double_front left text b h a e = sym e ∙ ap double_after (front left h) ∙ ap (λ n. double_after (n ∷ rest left)) a

pub single_open : (left text : List ℕ) → length left < 1 → single_after left ≡ single_after text → single_after text ≡ Err Open
single_open left text h e = sym e ∙ ap single_after (none left h)

pub single_closed : (left text : List ℕ) → 1 ≤ length left → get_or left 0 0 ≡ 39 → length (rest left) < 1 → single_after left ≡ single_after text
    → single_after text ≡ Ok (rest left)
single_closed left text h a k e = single_front left text 39 h a e ∙ rw (none (rest left) k) refl

pub single_followed : (left text : List ℕ) → 1 ≤ length left → get_or left 0 0 ≡ 39 → 1 ≤ length (rest left) → get_or (rest left) 0 0 ≢ 39
    → single_after left ≡ single_after text → single_after text ≡ Ok (rest left)
single_followed left text h a k b e =
    let f : rest left ≡ get_or (rest left) 0 0 ∷ rest (rest left) = front (rest left) k in
    single_front left text 39 h a e ∙ ap (λ r. single_after (39 ∷ r)) f ∙ single_ends (get_or (rest left) 0 0) (rest (rest left)) b ∙ ap (λ r. Ok r) (sym f)

pub single_goes_front : (left text : List ℕ) → 1 ≤ length left → get_or left 0 0 ≡ 39 → 1 ≤ length (rest left) → get_or (rest left) 0 0 ≡ 39
    → single_after left ≡ single_after text → single_after (rest (rest left)) ≡ single_after text
single_goes_front left text h a k b e =
    sym (single_front left text 39 h a e ∙ ap (λ r. single_after (39 ∷ r)) (front (rest left) k) ∙ ap (λ n. single_after (39 ∷ n ∷ rest (rest left))) b)

pub double_open : (left text : List ℕ) → length left < 1 → double_after left ≡ double_after text → double_after text ≡ Err Open
double_open left text h e = sym e ∙ ap double_after (none left h)

pub double_closed : (left text : List ℕ) → 1 ≤ length left → get_or left 0 0 ≡ 34 → double_after left ≡ double_after text → double_after text ≡ Ok (rest left)
double_closed left text h a e = double_front left text 34 h a e ∙ double_ends (rest left)

pub double_cut : (left text : List ℕ) → 1 ≤ length left → get_or left 0 0 ≡ 92 → length (rest left) < 1 → double_after left ≡ double_after text
    → double_after text ≡ Err Open
double_cut left text h a k e = double_front left text 92 h a e ∙ ap (λ r. double_after (92 ∷ r)) (none (rest left) k)

pub double_bad : (left text : List ℕ) → 1 ≤ length left → get_or left 0 0 ≡ 92 → 1 ≤ length (rest left) → false ≡ is_escape (get_or (rest left) 0 0)
    → double_after left ≡ double_after text → double_after text ≡ Err BadEscape
double_bad left text h a k b e =
    double_front left text 92 h a e ∙ ap (λ r. double_after (92 ∷ r)) (front (rest left) k) ∙ double_stops (get_or (rest left) 0 0) (rest (rest left)) (sym b)
