-- Reading one flag.
use Rattle.std.proofs.Common.{ℕ, ◌≡◌, ◌+◌, List, [], ◌∷◌, true, false, cond, Some, ℤ, refl, ap, ◌∙◌, arith}
use Rattle.std.specs.Prelude.{codes}
use Rattle.std.specs.Str.{bytes_eq}
use Rattle.decimal_compare.specs.declared.amount.Part.{Part}
use Rattle.decimal_compare.specs.Amount.{amount_of}
use Rattle.default_validator.specs.Flags.{part_of, with_case, with_space, with_amount, after_value, after_amount, flags_from}
use Rattle.default_validator.specs.declared.flags.Flags.{Flags}

pub case_step : (flags : Flags) (n : ℕ) (word : List ℕ) (words : List (List ℕ)) → bytes_eq word (codes "case_sensitive") ≡ true
    → flags_from flags n (word ∷ words) ≡ flags_from (with_case flags) (n + 1) words
case_step flags n word [] is = rw is refl
case_step flags n word (value ∷ words) is = rw is refl

pub space_step : (flags : Flags) (n : ℕ) (word : List ℕ) (words : List (List ℕ)) → bytes_eq word (codes "case_sensitive") ≡ false → bytes_eq word (codes "space_change_sensitive") ≡ true
    → flags_from flags n (word ∷ words) ≡ flags_from (with_space flags) (n + 1) words
space_step flags n word [] other is = rw (other, is) refl
space_step flags n word (value ∷ words) other is = rw (other, is) refl

-- a flag with its value
pub value_step : (flags : Flags) (n : ℕ) (word value : List ℕ) (words : List (List ℕ)) (part : Part) (e : ℤ)
    → bytes_eq word (codes "case_sensitive") ≡ false → bytes_eq word (codes "space_change_sensitive") ≡ false
    → part_of word ≡ Some part → amount_of part value ≡ Some e
    → flags_from flags n (word ∷ value ∷ words) ≡ flags_from (with_amount flags part e) (n + 2) words
value_step flags n word value words part e not_case not_space is amount =
    ap (λ t. cond t (flags_from (with_case flags) (n + 1) (value ∷ words))
    (cond (bytes_eq word (codes "space_change_sensitive")) (flags_from (with_space flags) (n + 1) (value ∷ words))
    (after_value flags n (part_of word) value (λ read. flags_from read (n + 1 + 1) words)))) not_case
    ∙ ap (λ t. cond t (flags_from (with_space flags) (n + 1) (value ∷ words)) (after_value flags n (part_of word) value (λ read. flags_from read (n + 1 + 1) words))) not_space
    ∙ ap (λ p. after_value flags n p value (λ read. flags_from read (n + 1 + 1) words)) is
    ∙ ap (λ a. after_amount flags (n + 1) part a (λ read. flags_from read (n + 1 + 1) words)) amount
    ∙ ap (λ k. flags_from (with_amount flags part e) k words) (omega arith)
