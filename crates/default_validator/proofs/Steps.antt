-- One turn of the walk over both texts.
use Rattle.std.proofs.Common.{ℕ, ◌≡◌, ◌<◌, List, [], ◌∷◌, Bool, true, false, ◌&&◌, ◌||◌, not, eqb, inl, inr, refl, sym, ap, ◌∙◌, subst, arith, length, take, drop}
use Rattle.std.specs.Str.{bytes_eq}
use Rattle.std.specs.Cmp.Lexicographic.{pointwise}
use Rattle.std.specs.List.{take_while}
use Rattle.std.proofs.lemmas.Bool.{cases_lt}
use Rattle.std.proofs.lemmas.Bool.Decides.{nat_tests}
use Rattle.default_validator.specs.Pieces.{is_space, tokens, gaps}
use Rattle.default_validator.specs.Accepts.{folded, same_byte, same_word, agrees, decimals_agree, tokens_agree, accepts_of}
use Rattle.default_validator.specs.declared.flags.Flags.{Flags}
use Rattle.default_validator.proofs.Fronts.{IsSameToken, IsFront, IsBlank, front_is, blank_is, after_gap, front_token, after_token, after_token_shorter}

-- ---- a token takes itself

eq_self : (n : ℕ) → eqb n n ≡ true
eq_self n = grind (arith, nat_tests)

same_byte_self : (case : Bool) (b : ℕ) → same_byte case b b ≡ true
same_byte_self true b = eq_self b
same_byte_self false b = eq_self (folded b)

same_word_self : (case : Bool) (word : List ℕ) → same_word case word word ≡ true
same_word_self case [] = refl
same_word_self case (b ∷ bs) = rw (same_byte_self case b) (same_word_self case bs)

pub agrees_same : (flags : Flags) (answer output : List ℕ) → answer ≡ output → agrees flags answer output ≡ true
agrees_same flags answer output same =
    subst (λ (w : List ℕ). agrees flags answer w ≡ true) same
    (ap (λ t. t || decimals_agree flags.tolerance answer answer) (same_word_self flags.case answer))

zero_is : (n : ℕ) → n ≡ 0 → eqb n 0 ≡ true
zero_is n h = grind (arith, nat_tests)

some_is : (n : ℕ) → 0 < n → eqb n 0 ≡ false
some_is n h = grind (arith, nat_tests)

pub is_zero : (n : ℕ) → eqb n 0 ≡ true → n ≡ 0
is_zero n h = grind (arith, nat_tests)

pub is_some : (n : ℕ) → eqb n 0 ≡ false → 0 < n
is_some n h = grind (arith, nat_tests)

-- ---- the turn

agree_more : (space t g h : Bool) → (not space || g) ≡ true → (t && (not space || (g && h))) ≡ (t && (not space || h))
agree_more true t true h is = refl
agree_more true t false h is = cc
agree_more false t g h is = refl

-- the fronts agree, and so the rest decides
pub goes_on : (flags : Flags) (answer output answer_gap output_gap answer_token output_token answer_rest output_rest : List ℕ)
    → IsFront answer answer_gap answer_token answer_rest → IsFront output output_gap output_token output_rest
    → (not flags.space || bytes_eq answer_gap output_gap) ≡ true → agrees flags answer_token output_token ≡ true
    → accepts_of flags answer output ≡ accepts_of flags answer_rest output_rest
unfolding accepts_of
goes_on flags answer output answer_gap output_gap answer_token output_token answer_rest output_rest a o gap token =
    rw (a.text_tokens, o.text_tokens, a.text_gaps, o.text_gaps, token)
    (agree_more flags.space (tokens_agree flags (tokens answer_rest) (tokens output_rest)) (bytes_eq answer_gap output_gap) (pointwise bytes_eq (gaps answer_rest) (gaps output_rest)) gap)

-- the tokens in front do not agree
pub stops_at_token : (flags : Flags) (answer output answer_gap output_gap answer_token output_token answer_rest output_rest : List ℕ)
    → IsFront answer answer_gap answer_token answer_rest → IsFront output output_gap output_token output_rest
    → agrees flags answer_token output_token ≡ false
    → accepts_of flags answer output ≡ false
unfolding accepts_of
stops_at_token flags answer output answer_gap output_gap answer_token output_token answer_rest output_rest a o token =
    rw (a.text_tokens, o.text_tokens, token) refl

-- white space counts and differs
first_gap_differs : (space t : Bool) (g h : Bool) → space ≡ true → g ≡ false → (t && (not space || (g && h))) ≡ false
first_gap_differs true true g h s is = rw is refl
first_gap_differs true false g h s is = refl
first_gap_differs false t g h s is = cc

-- a text has a first run of white space
pub record HasGap (text gap : List ℕ) : Type 0 where
  pub others : List (List ℕ)
  pub text_gaps : gaps text ≡ gap ∷ others

pub has_gap : (text : List ℕ) → HasGap text (take_while is_space text)
has_gap text = elim (cases_lt 0 (length (after_gap text))) [
  | inl some ↦ record { others = gaps (after_token (after_gap text)); text_gaps = (front_is text some).text_gaps }
  | inr none ↦ record { others = []; text_gaps = (blank_is text (omega arith)).one_gap }
]

pub stops_at_gap : (flags : Flags) (answer output : List ℕ) → flags.space ≡ true → bytes_eq (take_while is_space answer) (take_while is_space output) ≡ false
    → accepts_of flags answer output ≡ false
unfolding accepts_of
stops_at_gap flags answer output space differ =
    rw ((has_gap answer).text_gaps, (has_gap output).text_gaps)
    (first_gap_differs flags.space (tokens_agree flags (tokens answer) (tokens output)) (bytes_eq (take_while is_space answer) (take_while is_space output))
    (pointwise bytes_eq (has_gap answer).others (has_gap output).others) space differ)

-- one text has a further token, and the other has none
pub stops_short : (flags : Flags) (answer output token : List ℕ) (others : List (List ℕ)) → tokens answer ≡ [] → tokens output ≡ token ∷ others → accepts_of flags answer output ≡ false
unfolding accepts_of
stops_short flags answer output token others a o = rw (a, o) refl

pub stops_long : (flags : Flags) (answer output token : List ℕ) (others : List (List ℕ)) → tokens answer ≡ token ∷ others → tokens output ≡ [] → accepts_of flags answer output ≡ false
unfolding accepts_of
stops_long flags answer output token others a o = rw (a, o) refl

end_gaps : (space g : Bool) → (not space || g) ≡ true → (not space || (g && true)) ≡ true
end_gaps true true is = refl
end_gaps true false is = is
end_gaps false g is = refl

-- neither text has a further token
pub ends : (flags : Flags) (answer output answer_gap output_gap : List ℕ) → IsBlank answer answer_gap → IsBlank output output_gap → (not flags.space || bytes_eq answer_gap output_gap) ≡ true
    → accepts_of flags answer output ≡ true
unfolding accepts_of
ends flags answer output answer_gap output_gap a o gap =
    rw (a.no_tokens, o.no_tokens, a.one_gap, o.one_gap) (end_gaps flags.space (bytes_eq answer_gap output_gap) gap)

-- ---- what the code knows

-- the answer ends
pub answer_ends : (flags : Flags) (answer output : List ℕ) → (not flags.space || bytes_eq (take_while is_space answer) (take_while is_space output)) ≡ true
    → length (after_gap answer) ≡ 0 → accepts_of flags answer output ≡ eqb (length (after_gap output)) 0
answer_ends flags answer output gap none = elim (cases_lt 0 (length (after_gap output))) [
  | inl some ↦ stops_short flags answer output (front_token (after_gap output)) (tokens (after_token (after_gap output)))
      (blank_is answer none).no_tokens (front_is output some).text_tokens ∙ sym (some_is (length (after_gap output)) some)
  | inr none_left ↦ ends flags answer output (take_while is_space answer) (take_while is_space output) (blank_is answer none) (blank_is output (omega arith)) gap
      ∙ sym (zero_is (length (after_gap output)) (omega arith))
]

-- the output ends before the answer
pub output_ends : (flags : Flags) (answer output : List ℕ) → 0 < length (after_gap answer) → length (after_gap output) ≡ 0 → accepts_of flags answer output ≡ false
output_ends flags answer output some none =
    stops_long flags answer output (front_token (after_gap answer)) (tokens (after_token (after_gap answer)))
    (front_is answer some).text_tokens (blank_is output none).no_tokens

-- white space that does not agree counts
pub counts : (space e : Bool) → (not space || e) ≡ false → space ≡ true
counts true e h = refl
counts false e h = cc

pub differs : (space e : Bool) → (not space || e) ≡ false → e ≡ false
differs true e h = h
differs false e h = cc

-- the same token is in front of both
pub same_goes_on : (flags : Flags) (answer output : List ℕ) (len : ℕ) → (not flags.space || bytes_eq (take_while is_space answer) (take_while is_space output)) ≡ true
    → 0 < length (after_gap answer) → 0 < length (after_gap output) → IsSameToken (after_gap answer) (after_gap output) len
    → accepts_of flags answer output ≡ accepts_of flags (drop len (after_gap answer)) (drop len (after_gap output))
same_goes_on flags answer output len gap some_answer some_output same =
    goes_on flags answer output (take_while is_space answer) (take_while is_space output) (front_token (after_gap answer)) (front_token (after_gap output))
    (after_token (after_gap answer)) (after_token (after_gap output)) (front_is answer some_answer) (front_is output some_output) gap
    (agrees_same flags (front_token (after_gap answer)) (front_token (after_gap output))
    (ap (λ n. take n (after_gap answer)) same.answer_len ∙ same.same ∙ ap (λ n. take n (after_gap output)) (sym same.output_len)))
    ∙ ap (λ n. accepts_of flags (drop n (after_gap answer)) (after_token (after_gap output))) same.answer_len
    ∙ ap (λ n. accepts_of flags (drop len (after_gap answer)) (drop n (after_gap output))) same.output_len

pub same_shorter : (answer output : List ℕ) (len : ℕ) → 0 < length (after_gap answer) → IsSameToken (after_gap answer) (after_gap output) len
    → length (drop len (after_gap answer)) < length answer
same_shorter answer output len some same =
    subst (λ (n : ℕ). length (drop n (after_gap answer)) < length answer) same.answer_len (after_token_shorter answer some)
