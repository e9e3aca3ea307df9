-- Words that are put one after another.
use Rattle.std.proofs.Common.{ℕ, ◌≡◌, ◌+◌, ◌<◌, ◌≤◌, List, [], ◌∷◌, ◌++◌, refl, sym, ap, ◌∙◌, append_assoc, length, take, get_or, arith}
use Rattle.std.specs.Prelude.{map}
use Rattle.std.specs.Fmt.{decimal}
use Rattle.std.specs.List.{join_with_byte}
use Rattle.std.specs.Borrow.{Bor}
use Rattle.std.proofs.lemmas.List.{take_more, append-nil, length-append, take-take}
use Rattle.std.proofs.Math.Seq.{take-append_seam}
use Rattle.command_text.specs.WordList.{word_bytes, spaced, commas}
use Rattle.farm_model.specs.Texts.{list_words}

pub spaced-push : (words : List (List ℕ)) (next : List ℕ) → spaced (words ++ next ∷ []) ≡ spaced words ++ (32 ∷ next)
spaced-push [] next = append-nil (32 ∷ next)
spaced-push (w ∷ words) next = ap (λ t. (32 ∷ w) ++ t) (spaced-push words next) ∙ sym (append_assoc (32 ∷ w) (spaced words) (32 ∷ next))

word_bytes-push : (words : List (Bor (List ℕ))) (next : Bor (List ℕ)) → word_bytes (words ++ next ∷ []) ≡ word_bytes words ++ next.now ∷ []
word_bytes-push [] next = refl
word_bytes-push (w ∷ words) next = ap (λ t. w.now ∷ t) (word_bytes-push words next)

-- one word more of a slice of words
pub spaced_more : (words : List (Bor (List ℕ))) (i : ℕ) (d : Bor (List ℕ)) → i < length words → spaced (word_bytes (take (i + 1) words)) ≡ spaced (word_bytes (take i words)) ++ (32 ∷ (get_or words i d).now)
spaced_more words i d h =
    ap (λ ws. spaced (word_bytes ws)) (take_more words i d h) ∙ ap spaced (word_bytes-push (take i words) (get_or words i d))
    ∙ spaced-push (word_bytes (take i words)) (get_or words i d).now

pub joined : (word : List ℕ) (words : List (List ℕ)) → join_with_byte 32 (word ∷ words) ≡ word ++ spaced words
joined word [] = sym (append-nil word)
joined word (w ∷ words) = ap (λ t. word ++ (32 ∷ t)) (joined w words)

spaced-append : (words more : List (List ℕ)) → spaced (words ++ more) ≡ spaced words ++ spaced more
spaced-append [] more = refl
spaced-append (w ∷ words) more = ap (λ t. (32 ∷ w) ++ t) (spaced-append words more) ∙ sym (append_assoc (32 ∷ w) (spaced words) (spaced more))

-- words behind some words
pub joined_more : (word : List ℕ) (words more : List (List ℕ)) → join_with_byte 32 (word ∷ words ++ more) ≡ join_with_byte 32 (word ∷ words) ++ spaced more
joined_more word words more =
    joined word (words ++ more) ∙ ap (λ t. word ++ t) (spaced-append words more) ∙ sym (append_assoc word (spaced words) (spaced more))
    ∙ ap (λ t. t ++ spaced more) (sym (joined word words))

-- what stands at the front of a longer text stands there
pub front_stays : (old added new : List ℕ) → take (length (old ++ added)) new ≡ old ++ added → take (length old) new ≡ old
front_stays old added new h =
    let shorter : length old ≤ length (old ++ added) = omega (arith, length-append old added) in
    sym (take-take (length old) (length (old ++ added)) new shorter) ∙ ap (take (length old)) h ∙ take-append_seam old added

-- and where the longer text was kept under a name
pub kept_behind : (old added mid new : List ℕ) → mid ≡ old ++ added → take (length mid) new ≡ mid → take (length old) new ≡ old
kept_behind old added mid new e h = front_stays old added new (ap (λ t. take (length t) new) (sym e) ∙ h ∙ e)

-- the first word, and then each other word with a space before it
pub words_pushed : (old mid : List ℕ) (word : Bor (List ℕ)) (words rest : List (Bor (List ℕ))) → mid ≡ old ++ word.now → words ≡ word ∷ rest
    → mid ++ spaced (word_bytes rest) ≡ old ++ join_with_byte 32 (word_bytes words)
words_pushed old mid word words rest m w =
    ap (λ t. t ++ spaced (word_bytes rest)) m ∙ append_assoc old word.now (spaced (word_bytes rest))
    ∙ ap (λ t. old ++ t) (sym (joined word.now (word_bytes rest)) ∙ ap (λ ws. join_with_byte 32 (word_bytes ws)) (sym w))

-- a list and further words behind two words
pub joined_list : (a b : List ℕ) (ns : List ℕ) (more : List (List ℕ))
    → join_with_byte 32 (a ∷ b ∷ list_words ns ++ more) ≡ (join_with_byte 32 (a ∷ b ∷ []) ++ spaced (list_words ns)) ++ spaced more
joined_list a b ns more =
    joined_more a (b ∷ []) (list_words ns ++ more)
    ∙ ap (λ t. join_with_byte 32 (a ∷ b ∷ []) ++ t) (spaced-append (list_words ns) more)
    ∙ sym (append_assoc (join_with_byte 32 (a ∷ b ∷ [])) (spaced (list_words ns)) (spaced more))

commas-push : (ns : List ℕ) (next : ℕ) → commas (ns ++ next ∷ []) ≡ commas ns ++ (44 ∷ decimal next)
commas-push [] next = append-nil (44 ∷ decimal next)
commas-push (n ∷ ns) next = ap (λ t. (44 ∷ decimal n) ++ t) (commas-push ns next) ∙ sym (append_assoc (44 ∷ decimal n) (commas ns) (44 ∷ decimal next))

-- one number more of a list
pub commas_more : (ns : List ℕ) (i : ℕ) → i < length ns → commas (take (i + 1) ns) ≡ commas (take i ns) ++ (44 ∷ decimal (get_or ns i 0))
commas_more ns i h = ap commas (take_more ns i 0 h) ∙ commas-push (take i ns) (get_or ns i 0)

pub joined_by_commas : (n : ℕ) (ns : List ℕ) → join_with_byte 44 (map decimal (n ∷ ns)) ≡ decimal n ++ commas ns
joined_by_commas n [] = sym (append-nil (decimal n))
joined_by_commas n (m ∷ ns) = ap (λ t. decimal n ++ (44 ∷ t)) (joined_by_commas m ns)

-- a list as a word behind others
list_joined : (n : ℕ) (ns : List ℕ) → spaced (list_words (n ∷ ns)) ≡ 32 ∷ decimal n ++ commas ns
list_joined n ns = append-nil (32 ∷ join_with_byte 44 (map decimal (n ∷ ns))) ∙ ap (λ t. 32 ∷ t) (joined_by_commas n ns)

-- a space, the first number, and then each other number with a comma before it
pub list_pushed : (old mid end : List ℕ) (n : ℕ) (numbers rest : List ℕ) → mid ≡ old ++ 32 ∷ [] → end ≡ mid ++ decimal n → numbers ≡ n ∷ rest
    → end ++ commas rest ≡ old ++ spaced (list_words numbers)
list_pushed old mid end n numbers rest m e w =
    ap (λ t. t ++ commas rest) (e ∙ ap (λ t. t ++ decimal n) m ∙ append_assoc old (32 ∷ []) (decimal n)) ∙ append_assoc old (32 ∷ decimal n) (commas rest)
    ∙ ap (λ t. old ++ t) (sym (list_joined n rest)) ∙ ap (λ ns. old ++ spaced (list_words ns)) (sym w)
