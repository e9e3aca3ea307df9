-- The words of a text, from its front.
use Rattle.std.proofs.Common.{ℕ, zero, suc, ◌≡◌, ◌≢◌, ◌+◌, ◌<◌, ◌≤◌, List, [], ◌∷◌, ◌++◌, false, eqb, refl, sym, ap, ◌∙◌, subst, arith, length, take, drop, get_or, add-zero}
use Rattle.std.proofs.lemmas.List.{take_more, drop_more, take-append-drop, append-nil, length-take, length-drop, get_or-drop}
use Rattle.std.proofs.lemmas.Bool.Decides.{nat_tests}
use Rattle.farm_model.specs.Words.{words, put_before, onto_first}
use Rattle.command_text.specs.NextWord.{IsWord}

not_space : (b : ℕ) → b ≢ 32 → eqb b 32 ≡ false
not_space b h = grind (arith, nat_tests)

pub IsWord-push : (word : List ℕ) (b : ℕ) → IsWord word → b ≢ 32 → IsWord (word ++ b ∷ [])
IsWord-push [] b h n = (n, tt)
IsWord-push (x ∷ xs) b h n = (h.0, IsWord-push xs b h.1 n)

pub word_more : (text : List ℕ) (i : ℕ) → i < length text → IsWord (take i text) → get_or text i 0 ≢ 32 → IsWord (take (i + 1) text)
word_more text i lt h n = subst IsWord (sym (take_more text i 0 lt)) (IsWord-push (take i text) (get_or text i 0) h n)

pub spaces_more : (text : List ℕ) (i : ℕ) → i < length text → words (drop i text) ≡ words text → get_or text i 0 ≡ 32 → words (drop (i + 1) text) ≡ words text
spaces_more text i lt h e =
    let step : words (drop i text) ≡ words (get_or text i 0 ∷ drop (i + 1) text) = ap words (drop_more text i 0 lt) in
    let space : words (get_or text i 0 ∷ drop (i + 1) text) ≡ words (drop (i + 1) text) = rw e refl in
    sym (step ∙ space) ∙ h

words_step : (b : ℕ) (bs : List ℕ) → b ≢ 32 → words (b ∷ bs) ≡ put_before b bs (words bs)
words_step b bs h = rw (not_space b h) refl

put_onto : (b c : ℕ) (bs : List ℕ) (ws : List (List ℕ)) → c ≢ 32 → put_before b (c ∷ bs) ws ≡ onto_first b ws
put_onto b c bs ws h = rw (not_space c h) refl

-- a word that is all
word_last : (b : ℕ) (bs : List ℕ) → IsWord (b ∷ bs) → words (b ∷ bs) ≡ (b ∷ bs) ∷ []
word_last b [] h = words_step b [] h.0
word_last b (c ∷ bs) h = words_step b (c ∷ bs) h.0 ∙ ap (put_before b (c ∷ bs)) (word_last c bs h.1) ∙ put_onto b c bs ((c ∷ bs) ∷ []) h.1.0

-- a word and a space
word_then : (b : ℕ) (bs rest : List ℕ) → IsWord (b ∷ bs) → words (b ∷ bs ++ 32 ∷ rest) ≡ (b ∷ bs) ∷ words (32 ∷ rest)
word_then b [] rest h = words_step b (32 ∷ rest) h.0
word_then b (c ∷ bs) rest h =
    words_step b (c ∷ bs ++ 32 ∷ rest) h.0 ∙ ap (put_before b (c ∷ bs ++ 32 ∷ rest)) (word_then c bs rest h.1)
    ∙ put_onto b c (bs ++ 32 ∷ rest) ((c ∷ bs) ∷ words (32 ∷ rest)) h.1.0

-- a word in front of nothing, or of a space
pub joined : (word rest : List ℕ) → IsWord word → 0 < length word → (0 < length rest → get_or rest 0 0 ≡ 32) → words (word ++ rest) ≡ word ∷ words rest
joined [] rest h n e = absurd (omega arith)
joined (b ∷ bs) [] h n e = ap words (append-nil (b ∷ bs)) ∙ word_last b bs h
joined (b ∷ bs) (r ∷ rs) h n e =
    let is : r ≡ 32 = e (omega arith) in
    subst (λ (x : ℕ). words (b ∷ bs ++ x ∷ rs) ≡ (b ∷ bs) ∷ words (x ∷ rs)) (sym is) (word_then b bs rs h)

-- the first word of a text that begins with one
pub first_word : (text : List ℕ) (n : ℕ) → IsWord (take n text) → 0 < length text → get_or text 0 0 ≢ 32 → n ≤ length text → (n < length text → get_or text n 0 ≡ 32) → words text ≡ take n text ∷ words (drop n text)
first_word text zero h some ne le e = absurd (ne (e some))
first_word text (suc m) h some ne le e =
    ap words (sym (take-append-drop (suc m) text))
    ∙ joined (take (suc m) text) (drop (suc m) text) h (omega (arith, length-take (suc m) text))
    (λ lt. get_or-drop (suc m) text 0 0 ∙ rw (add-zero) (e (omega (arith, length-drop (suc m) text))))

-- the first byte of what is left
pub first_at : (text : List ℕ) (n : ℕ) → get_or (drop n text) 0 0 ≡ get_or text n 0
first_at text n = get_or-drop n text 0 0 ∙ rw (add-zero) refl
