-- The front of a text: white space, and a token.
use Rattle.std.proofs.Common.{ℕ, zero, suc, ◌≡◌, ◌+◌, ◌-◌, ◌<◌, ◌≤◌, List, [], ◌∷◌, ◌++◌, Bool, true, false, cond, ◌&&◌, ◌||◌, eqb, not, refl, sym, ap, ◌∙◌, arith, length, take, drop, get_or}
use Rattle.std.specs.List.{list_all, prefix_len, take_while}
use Rattle.std.proofs.lemmas.List.{take-append-drop, get_or-drop, length-drop, take_rest}
use Rattle.std.proofs.lemmas.Bool.Decides.{nat_tests}
use Rattle.std.proofs.lemmas.List.Folds.{length-prefix_len}
use Rattle.std.proofs.lemmas.List.Sums.{take_while-cons, prefix_len_stops, prefix_len-le-length, prefix_len_is, prefix_len-drop_yes}
use Rattle.default_validator.specs.Pieces.{is_space, begins_token, onto_first, token_before, tokens, gap_before, gaps}
use Rattle.default_validator.specs.Cuts.{is_token_byte, IsInToken, IsCommon, ends_token}

and_first : (a b : Bool) → (a && b) ≡ true → a ≡ true
and_first true b h = refl
and_first false b h = h

and_second : (a b : Bool) → (a && b) ≡ true → b ≡ true
and_second true b h = h
and_second false b h = cc

-- the longest front that passes passes
passes_if : (p : ℕ → Bool) (t : Bool) (b : ℕ) (bs : List ℕ) → p b ≡ t → list_all p bs ≡ true → list_all p (cond t (b ∷ bs) []) ≡ true
passes_if p false b bs e h = refl
passes_if p true b bs e h = rw e h

pub front_passes : (p : ℕ → Bool) (text : List ℕ) → list_all p (take_while p text) ≡ true
front_passes p [] = refl
front_passes p (b ∷ bs) = rw (take_while-cons p b bs) (passes_if p (p b) b (take_while p bs) refl (front_passes p bs))

not_true : (b : Bool) → not b ≡ true → b ≡ false
not_true true h = cc
not_true false h = refl

not_false : (b : Bool) → not b ≡ false → b ≡ true
not_false true h = refl
not_false false h = cc

-- ---- white space in front

pub gap_tokens : (gap rest : List ℕ) → list_all is_space gap ≡ true → tokens (gap ++ rest) ≡ tokens rest
gap_tokens [] rest h = refl
gap_tokens (b ∷ bs) rest h =
    let space : is_space b ≡ true = and_first (is_space b) (list_all is_space bs) h in
    rw space (gap_tokens bs rest (and_second (is_space b) (list_all is_space bs) h))

pub gap_gaps : (gap rest : List ℕ) (others : List (List ℕ)) → list_all is_space gap ≡ true → gaps rest ≡ [] ∷ others → gaps (gap ++ rest) ≡ gap ∷ others
gap_gaps [] rest others h is = is
gap_gaps (b ∷ bs) rest others h is =
    let space : is_space b ≡ true = and_first (is_space b) (list_all is_space bs) h in
    rw (space, gap_gaps bs rest others (and_second (is_space b) (list_all is_space bs) h) is) refl

-- ---- a token in front

begins : (b : ℕ) (bs : List ℕ) → is_space b ≡ false → begins_token (b ∷ bs) ≡ true
begins b bs h = rw h refl

pub token_tokens : (token rest : List ℕ) → list_all is_token_byte token ≡ true → 0 < length token → begins_token rest ≡ false → tokens (token ++ rest) ≡ token ∷ tokens rest
token_tokens [] rest h some ends = absurd (omega arith)
token_tokens (b ∷ []) rest h some ends =
    let byte : is_space b ≡ false = not_true (is_space b) (and_first (is_token_byte b) true h) in
    rw (byte, ends) refl
token_tokens (b ∷ c ∷ bs) rest h some ends =
    let byte : is_space b ≡ false = not_true (is_space b) (and_first (is_token_byte b) (list_all is_token_byte (c ∷ bs)) h) in
    let others : list_all is_token_byte (c ∷ bs) ≡ true = and_second (is_token_byte b) (list_all is_token_byte (c ∷ bs)) h in
    let next : is_space c ≡ false = not_true (is_space c) (and_first (is_token_byte c) (list_all is_token_byte bs) others) in
    let inner : tokens (c ∷ bs ++ rest) ≡ (c ∷ bs) ∷ tokens rest = token_tokens (c ∷ bs) rest others (omega arith) ends in
    ap (λ t. cond t (tokens (c ∷ bs ++ rest)) (token_before b (c ∷ bs ++ rest) (tokens (c ∷ bs ++ rest)))) byte
    ∙ ap (λ t. cond t (onto_first b (tokens (c ∷ bs ++ rest))) ((b ∷ []) ∷ tokens (c ∷ bs ++ rest))) (begins c (bs ++ rest) next)
    ∙ ap (onto_first b) inner

pub token_gaps : (token rest : List ℕ) → list_all is_token_byte token ≡ true → 0 < length token → begins_token rest ≡ false → gaps (token ++ rest) ≡ [] ∷ gaps rest
token_gaps [] rest h some ends = absurd (omega arith)
token_gaps (b ∷ []) rest h some ends =
    let byte : is_space b ≡ false = not_true (is_space b) (and_first (is_token_byte b) true h) in
    rw (byte, ends) refl
token_gaps (b ∷ c ∷ bs) rest h some ends =
    let byte : is_space b ≡ false = not_true (is_space b) (and_first (is_token_byte b) (list_all is_token_byte (c ∷ bs)) h) in
    let others : list_all is_token_byte (c ∷ bs) ≡ true = and_second (is_token_byte b) (list_all is_token_byte (c ∷ bs)) h in
    let next : is_space c ≡ false = not_true (is_space c) (and_first (is_token_byte c) (list_all is_token_byte bs) others) in
    let inner : gaps (c ∷ bs ++ rest) ≡ [] ∷ gaps rest = token_gaps (c ∷ bs) rest others (omega arith) ends in
    ap (λ t. cond t (onto_first b (gaps (c ∷ bs ++ rest))) (gap_before (c ∷ bs ++ rest) (gaps (c ∷ bs ++ rest)))) byte
    ∙ ap (λ t. cond t (gaps (c ∷ bs ++ rest)) ([] ∷ gaps (c ∷ bs ++ rest))) (begins c (bs ++ rest) next)
    ∙ inner

-- ---- the front of a text

pub front_within : (p : ℕ → Bool) (text : List ℕ) → prefix_len p text ≤ length text
front_within p text = prefix_len-le-length p text

-- what follows the white space in front
abbrev pub after_gap : List ℕ → List ℕ
after_gap text = drop (prefix_len is_space text) text

-- the token in front, and what follows it
abbrev pub front_token : List ℕ → List ℕ
front_token text = take (prefix_len is_token_byte text) text

abbrev pub after_token : List ℕ → List ℕ
after_token text = drop (prefix_len is_token_byte text) text

first_byte : (text : List ℕ) (n : ℕ) → get_or (drop n text) 0 0 ≡ get_or text n 0
first_byte text n = get_or-drop n text 0 0 ∙ ap (λ k. get_or text k 0) (omega arith)

-- what follows white space begins with no white space
after_gap_first : (text : List ℕ) → 0 < length (after_gap text) → is_space (get_or (after_gap text) 0 0) ≡ false
after_gap_first text some =
    ap is_space (first_byte text (prefix_len is_space text))
    ∙ prefix_len_stops is_space text 0 (omega (arith, length-drop (prefix_len is_space text) text))

-- what follows a token begins no token
no_token : (text : List ℕ) → (0 < length text → is_space (get_or text 0 0) ≡ true) → begins_token text ≡ false
no_token [] h = refl
no_token (b ∷ bs) h = let space : is_space b ≡ true = h (omega arith) in rw space refl

after_token_ends : (text : List ℕ) → begins_token (after_token text) ≡ false
after_token_ends text =
    no_token (after_token text) (λ some.
    ap is_space (first_byte text (prefix_len is_token_byte text))
    ∙ not_false (is_space (get_or text (prefix_len is_token_byte text) 0))
    (prefix_len_stops is_token_byte text 0 (omega (arith, length-drop (prefix_len is_token_byte text) text))))

-- a text that begins with no white space has a token in front
token_begins : (text : List ℕ) → 0 < length text → is_space (get_or text 0 0) ≡ false → 0 < prefix_len is_token_byte text
token_begins [] some h = absurd (omega arith)
token_begins (b ∷ bs) some h = let byte : is_space b ≡ false = h in rw byte (omega arith)

-- the first token of a text, and the white space before it
pub record IsFront (text gap token rest : List ℕ) : Type 0 where
  pub text_tokens : tokens text ≡ token ∷ tokens rest
  pub text_gaps : gaps text ≡ gap ∷ gaps rest

pub front_is : (text : List ℕ) → 0 < length (after_gap text) → IsFront text (take_while is_space text) (front_token (after_gap text)) (after_token (after_gap text))
front_is text some =
    let gap : List ℕ = take_while is_space text in
    let body : List ℕ = after_gap text in
    let gap_is : list_all is_space (take_while is_space text) ≡ true = front_passes is_space text in
    let token_is : list_all is_token_byte (front_token (after_gap text)) ≡ true = front_passes is_token_byte (after_gap text) in
    let token_some : 0 < length (front_token (after_gap text)) =
    omega (arith, length-prefix_len is_token_byte (after_gap text), token_begins (after_gap text) some (after_gap_first text some)) in
    let whole : take_while is_space text ++ after_gap text ≡ text = take-append-drop (prefix_len is_space text) text in
    let parts : front_token (after_gap text) ++ after_token (after_gap text) ≡ after_gap text = take-append-drop (prefix_len is_token_byte (after_gap text)) (after_gap text) in
    let ends : begins_token (after_token (after_gap text)) ≡ false = after_token_ends (after_gap text) in
    record {
      text_tokens =
          ap tokens (sym whole) ∙ gap_tokens (take_while is_space text) (after_gap text) gap_is
          ∙ ap tokens (sym parts) ∙ token_tokens (front_token (after_gap text)) (after_token (after_gap text)) token_is token_some ends;
      text_gaps =
          ap gaps (sym whole)
          ∙ gap_gaps (take_while is_space text) (after_gap text) (gaps (after_token (after_gap text))) gap_is
          (ap gaps (sym parts) ∙ token_gaps (front_token (after_gap text)) (after_token (after_gap text)) token_is token_some ends);
    }

-- a text of white space alone
pub record IsBlank (text gap : List ℕ) : Type 0 where
  pub no_tokens : tokens text ≡ []
  pub one_gap : gaps text ≡ gap ∷ []

empty : (text : List ℕ) → length text ≡ 0 → text ≡ []
empty [] h = refl
empty (b ∷ bs) h = absurd (omega arith)

pub blank_is : (text : List ℕ) → length (after_gap text) ≡ 0 → IsBlank text (take_while is_space text)
blank_is text none =
    let gap_is : list_all is_space (take_while is_space text) ≡ true = front_passes is_space text in
    let whole : take_while is_space text ++ after_gap text ≡ text = take-append-drop (prefix_len is_space text) text in
    let nothing : after_gap text ≡ [] = empty (after_gap text) none in
    record {
      no_tokens = ap tokens (sym whole) ∙ gap_tokens (take_while is_space text) (after_gap text) gap_is ∙ ap tokens nothing;
      one_gap = ap gaps (sym whole) ∙ gap_gaps (take_while is_space text) (after_gap text) [] gap_is (ap gaps nothing);
    }

-- what is left is shorter
pub after_token_shorter : (text : List ℕ) → 0 < length (after_gap text) → length (after_token (after_gap text)) < length text
after_token_shorter text some =
    omega (
      arith,
      length-drop (prefix_len is_space text) text,
      length-drop (prefix_len is_token_byte (after_gap text)) (after_gap text),
      token_begins (after_gap text) some (after_gap_first text some),
    )

-- ---- the token in front of two texts

-- as long as bytes pass and the token ends there
pub token_len_is : (text : List ℕ) (len : ℕ) → len ≤ length text → ((k : ℕ) → k < len → is_token_byte (get_or text k 0) ≡ true) → (len < length text → is_space (get_or text len 0) ≡ true) → prefix_len is_token_byte text ≡ len
token_len_is text len within passes ends =
    prefix_len_is is_token_byte text len 0 within passes (λ lt. ap not (ends lt))

-- the first `len` bytes of both texts are the whole token in front of each, and are equal
pub record IsSameToken (answer output : List ℕ) (len : ℕ) : Type 0 where
  pub answer_len : prefix_len is_token_byte answer ≡ len
  pub output_len : prefix_len is_token_byte output ≡ len
  pub same : take len answer ≡ take len output

ends_here : (text : List ℕ) (len : ℕ) → ends_token text len ≡ true → len < length text → is_space (get_or text len 0) ≡ true
ends_here text len ends lt = past (eqb len (length text)) (is_space (get_or text len 0)) refl ends
  where
    past : (e s : Bool) → eqb len (length text) ≡ e → (e || s) ≡ true → s ≡ true
    past true s at h = absurd (grind (arith, nat_tests))
    past false s at h = h

pub same_token_is : (answer output : List ℕ) (len : ℕ) → IsCommon answer output len
    → ends_token answer len ≡ true → ends_token output len ≡ true → IsSameToken answer output len
same_token_is answer output len common answer_ends output_ends =
    record {
      answer_len = token_len_is answer len common.in_answer.within common.in_answer.passes (ends_here answer len answer_ends);
      output_len = token_len_is output len common.in_output.within common.in_output.passes (ends_here output len output_ends);
      same = common.same;
    }

-- a token whose front is known is that front, and what stands before the next white space
known_at : (text : List ℕ) (len : ℕ) → len ≤ length text → ((k : ℕ) → k < len → is_token_byte (get_or text k 0) ≡ true) → prefix_len is_token_byte text ≡ len + prefix_len is_token_byte (drop len text)
known_at text zero within passes = omega arith
known_at text (suc n) within passes =
    let before : prefix_len is_token_byte text ≡ n + prefix_len is_token_byte (drop n text) = known_at text n (omega arith) (λ k lt. passes k (omega arith)) in
    let here : prefix_len is_token_byte (drop n text) ≡ 1 + prefix_len is_token_byte (drop (n + 1) text) = prefix_len-drop_yes is_token_byte text n 0 (omega arith) (passes n (omega arith)) in
    let more : n + 1 ≡ suc n = omega arith in
    let next : prefix_len is_token_byte (drop (n + 1) text) ≡ prefix_len is_token_byte (drop (suc n) text) = ap (λ k. prefix_len is_token_byte (drop k text)) more in
    omega arith

pub known_front : (text : List ℕ) (len : ℕ) → IsInToken text len → len + prefix_len is_token_byte (take (length text - len) (drop len text)) ≡ prefix_len is_token_byte text
known_front text len known = rw (take_rest text len) (sym (known_at text len known.within known.passes))
