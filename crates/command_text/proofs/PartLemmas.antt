-- The parts of a list, from its front.
use Rattle.std.proofs.Common.{ℕ, ◌≡◌, ◌≢◌, ◌+◌, ◌-◌, ◌<◌, ◌≤◌, List, [], ◌∷◌, ◌++◌, Option, Some, None, false, eqb, refl, sym, ap, ◌∙◌, subst, arith, length, take, drop, get_or, append_assoc}
use Rattle.std.specs.Prelude.{IfSome}
use Rattle.std.specs.Option.{option_map}
use Rattle.std.proofs.lemmas.List.{take_more, drop_more, take-append-drop, take_all, length-drop}
use Rattle.std.proofs.lemmas.Bool.Decides.{nat_tests}
use Rattle.farm_model.specs.Numbers.{number_of, comma_parts, onto_first_part, before_all, all_numbers, list_of}
use Rattle.command_text.specs.Parts.{IsPart, total_count, appended}

not_comma : (b : ℕ) → b ≢ 44 → eqb b 44 ≡ false
not_comma b h = grind (arith, nat_tests)

IsPart-push : (part : List ℕ) (b : ℕ) → IsPart part → b ≢ 44 → IsPart (part ++ b ∷ [])
IsPart-push [] b h n = (n, tt)
IsPart-push (x ∷ xs) b h n = (h.0, IsPart-push xs b h.1 n)

pub part_more : (text : List ℕ) (i : ℕ) → i < length text → IsPart (take i text) → get_or text i 0 ≢ 44 → IsPart (take (i + 1) text)
part_more text i lt h n = subst IsPart (sym (take_more text i 0 lt)) (IsPart-push (take i text) (get_or text i 0) h n)

parts_step : (b : ℕ) (bs : List ℕ) → b ≢ 44 → comma_parts (b ∷ bs) ≡ onto_first_part b (comma_parts bs)
parts_step b bs h = rw (not_comma b h) refl

-- a part that is all
pub part_last : (part : List ℕ) → IsPart part → comma_parts part ≡ part ∷ []
part_last [] h = refl
part_last (b ∷ bs) h = parts_step b bs h.0 ∙ ap (onto_first_part b) (part_last bs h.1)

-- a part and a comma
pub part_then : (part rest : List ℕ) → IsPart part → comma_parts (part ++ 44 ∷ rest) ≡ part ∷ comma_parts rest
part_then [] rest h = refl
part_then (b ∷ bs) rest h = parts_step b (bs ++ 44 ∷ rest) h.0 ∙ ap (onto_first_part b) (part_then bs rest h.1)

-- the first part of a text that has a comma
first_part : (text : List ℕ) (i : ℕ) → i < length text → IsPart (take i text) → get_or text i 0 ≡ 44 → comma_parts text ≡ take i text ∷ comma_parts (drop (i + 1) text)
first_part text i lt h comma =
    let behind : drop i text ≡ 44 ∷ drop (i + 1) text = drop_more text i 0 lt ∙ ap (λ b. b ∷ drop (i + 1) text) comma in
    ap comma_parts (sym (take-append-drop i text) ∙ ap (λ t. take i text ++ t) behind) ∙ part_then (take i text) (drop (i + 1) text) h

-- what stands behind a comma, as a slice of the text
pub cut_at : (text : List ℕ) (i : ℕ) → i < length text → IsPart (take i text) → get_or text i 0 ≡ 44
    → comma_parts text ≡ take i text ∷ comma_parts (take (length text - (i + 1)) (drop (i + 1) text))
cut_at text i lt h comma =
    let whole : length (drop (i + 1) text) ≤ length text - (i + 1) = omega (arith, length-drop (i + 1) text) in
    first_part text i lt h comma ∙ ap (λ t. take i text ∷ comma_parts t) (sym (take_all (length text - (i + 1)) (drop (i + 1) text) whole))

-- a text without a comma
pub uncut : (text : List ℕ) (i : ℕ) → IsPart (take i text) → length text ≤ i → comma_parts text ≡ text ∷ []
uncut text i h over = part_last text (subst IsPart (take_all i text over) h)

-- One number more

-- a part that is no number
pub none_counted : (n : ℕ) (part : List ℕ) (parts : List (List ℕ)) → number_of part ≡ None → total_count n (all_numbers (part ∷ parts)) ≡ None
none_counted n part parts h = ap (λ o. total_count n (before_all o (all_numbers parts))) h

counted_step : (n number : ℕ) (others : Option (List ℕ)) → total_count n (before_all (Some number) others) ≡ total_count (n + 1) others
counted_step n number None = refl
counted_step n number (Some ns) = let e : n + length (number ∷ ns) ≡ n + 1 + length ns = omega arith in ap Some e

-- a part that is a number
pub one_counted : (n number : ℕ) (part : List ℕ) (parts : List (List ℕ)) → number_of part ≡ Some number → total_count n (all_numbers (part ∷ parts)) ≡ total_count (n + 1) (all_numbers parts)
one_counted n number part parts h = ap (λ o. total_count n (before_all o (all_numbers parts))) h ∙ counted_step n number (all_numbers parts)

pub none_appended : (ns part : List ℕ) (parts : List (List ℕ)) → number_of part ≡ None → appended ns (all_numbers (part ∷ parts)) ≡ None
none_appended ns part parts h = ap (λ o. appended ns (before_all o (all_numbers parts))) h

appended_step : (ns : List ℕ) (number : ℕ) (others : Option (List ℕ)) → appended ns (before_all (Some number) others) ≡ appended (ns ++ number ∷ []) others
appended_step ns number None = refl
appended_step ns number (Some more) = ap Some (sym (append_assoc ns (number ∷ []) more))

pub one_appended : (ns part : List ℕ) (number : ℕ) (parts : List (List ℕ)) → number_of part ≡ Some number → appended ns (all_numbers (part ∷ parts)) ≡ appended (ns ++ number ∷ []) (all_numbers parts)
one_appended ns part number parts h = ap (λ o. appended ns (before_all o (all_numbers parts))) h ∙ appended_step ns number (all_numbers parts)

nothing_before : (others : Option (List ℕ)) → others ≡ appended [] others
nothing_before None = refl
nothing_before (Some ns) = refl

-- no number is read yet
pub none_yet : (list : List ℕ) → list_of list ≡ appended [] (all_numbers (comma_parts list))
none_yet list = nothing_before (list_of list)

none_counted_yet : (others : Option (List ℕ)) → option_map length others ≡ total_count 0 others
none_counted_yet None = refl
none_counted_yet (Some ns) = let e : length ns ≡ 0 + length ns = omega arith in ap Some e

pub count_none_yet : (list : List ℕ) → option_map length (list_of list) ≡ total_count 0 (all_numbers (comma_parts list))
count_none_yet list = none_counted_yet (list_of list)

-- How many numbers there are

one_before : (first : Option ℕ) (others : Option (List ℕ)) (k : ℕ) → IfSome others (λ ns. length ns ≡ k) → IfSome (before_all first others) (λ ns. length ns ≡ k + 1)
one_before None others k h = tt
one_before (Some n) None k h = tt
one_before (Some n) (Some ns) k h = omega (arith, h)

as_many : (parts : List (List ℕ)) → IfSome (all_numbers parts) (λ ns. length ns ≡ length parts)
as_many [] = refl
as_many (part ∷ parts) =
    let e : length parts + 1 ≡ length (part ∷ parts) = omega arith in
    subst (λ (k : ℕ). IfSome (all_numbers (part ∷ parts)) (λ ns. length ns ≡ k)) e (one_before (number_of part) (all_numbers parts) (length parts) (as_many parts))

count_is : (others : Option (List ℕ)) (n k : ℕ) → IfSome others (λ ns. length ns ≡ k) → Some n ≡ option_map length others → k ≡ n
count_is None n k h e = grind arith
count_is (Some ns) n k h e = grind arith

-- a list has as many numbers as parts
pub parts_fit : (list : List ℕ) (n room : ℕ) → Some n ≡ option_map length (list_of list) → n ≤ room → length (comma_parts list) ≤ room
parts_fit list n room e fits = omega (arith, count_is (list_of list) n (length (comma_parts list)) (as_many (comma_parts list)) e)
