-- Numbers joined by single commas are read as these numbers.
use Rattle.std.proofs.Common.{ℕ, ◌≡◌, ◌<◌, ◌≢◌, true, List, [], ◌∷◌, ◌++◌, Some, refl, sym, ap, subst, ◌∙◌, arith, length}
use Rattle.std.specs.Prelude.{map}
use Rattle.std.specs.Fmt.{decimal}
use Rattle.std.specs.List.{join_with_byte, list_all}
use Rattle.std.proofs.lemmas.Bool.{and_parts}
use Rattle.std.proofs.lemmas.Bool.Decides.{nat_tests}
use Rattle.std.proofs.lemmas.List.{append-nil}
use Rattle.farm_model.specs.Numbers.{is_digit, comma_parts, before_all, all_numbers, list_of}
use Rattle.command_text.specs.NextWord.{IsWord}
use Rattle.command_text.specs.Parts.{IsPart}
use Rattle.command_text.specs.WordList.{commas}
use Rattle.command_text.proofs.Joining.{joined_by_commas}
use Rattle.command_text.proofs.PartLemmas.{part_last, part_then}
use Rattle.command_text.proofs.Decimals.{number_of-decimal, token-decimal, decimal_digits}
use Rattle.command_text.proofs.Tokens.{IsToken}
use Rattle.command_text.proofs.Readable.{IsNumber, AreNumbers}

digit_no_comma : (b : ℕ) → is_digit b ≡ true → b ≢ 44
digit_no_comma b h = λ e. grind (arith, nat_tests)

part_by_digits : (word : List ℕ) → list_all is_digit word ≡ true → IsPart word
part_by_digits [] h = tt
part_by_digits (b ∷ bs) h =
    let parts : (is_digit b ≡ true) × (list_all is_digit bs ≡ true) = and_parts (is_digit b) (list_all is_digit bs) h in
    (digit_no_comma b parts.0, part_by_digits bs parts.1)

decimal_part : (n : ℕ) → IsNumber n → IsPart (decimal n)
decimal_part n small = part_by_digits (decimal n) (decimal_digits n (omega arith))

-- a number, and others with a comma before each
parts_back : (n : ℕ) (ns : List ℕ) → AreNumbers (n ∷ ns) → comma_parts (decimal n ++ commas ns) ≡ decimal n ∷ map decimal ns
parts_back n [] small = ap comma_parts (append-nil (decimal n)) ∙ part_last (decimal n) (decimal_part n small.0)
parts_back n (m ∷ ns) small =
    part_then (decimal n) (decimal m ++ commas ns) (decimal_part n small.0) ∙ ap (λ parts. decimal n ∷ parts) (parts_back m ns small.1)

numbers_back : (ns : List ℕ) → AreNumbers ns → all_numbers (map decimal ns) ≡ Some ns
numbers_back [] small = refl
numbers_back (n ∷ ns) small =
    ap (λ first. before_all first (all_numbers (map decimal ns))) (number_of-decimal n small.0)
    ∙ ap (before_all (Some n)) (numbers_back ns small.1)

pub list_back : (n : ℕ) (ns : List ℕ) → AreNumbers (n ∷ ns) → list_of (join_with_byte 44 (map decimal (n ∷ ns))) ≡ Some (n ∷ ns)
list_back n ns small =
    ap list_of (joined_by_commas n ns) ∙ ap all_numbers (parts_back n ns small) ∙ numbers_back (n ∷ ns) small

run_append : (xs ys : List ℕ) → IsWord xs → IsWord ys → IsWord (xs ++ ys)
run_append [] ys p q = q
run_append (x ∷ xs) ys p q = (p.0, run_append xs ys p.1 q)

commas_run : (ns : List ℕ) → AreNumbers ns → IsWord (commas ns)
commas_run [] small = tt
commas_run (n ∷ ns) small = (λ e. absurd (omega (arith, e)), run_append (decimal n) (commas ns) (token-decimal n (omega (arith, small.0))).run (commas_run ns small.1))

longer : (xs ys : List ℕ) → 0 < length xs → 0 < length (xs ++ ys)
longer [] ys h = absurd (omega arith)
longer (x ∷ xs) ys h = omega arith

-- a list is a word
pub token-list : (n : ℕ) (ns : List ℕ) → AreNumbers (n ∷ ns) → IsToken (join_with_byte 44 (map decimal (n ∷ ns)))
token-list n ns small =
    let first : IsToken (decimal n) = token-decimal n (omega (arith, small.0)) in
    subst IsToken (sym (joined_by_commas n ns)) (record {
      some = longer (decimal n) (commas ns) first.some;
      run = run_append (decimal n) (commas ns) first.run (commas_run ns small.1);
    })
