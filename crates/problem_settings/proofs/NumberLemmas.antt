-- Numbers that are held up to a limit.
use Rattle.std.proofs.Common.{ℕ, ◌≡◌, ◌+◌, ◌-◌, ◌*◌, ◌≤◌, List, [], ◌∷◌, Option, Some, None, Bool, true, false, ◌&&◌, refl, sym, ap, ◌∙◌, arith}
use Rattle.std.specs.Prelude.{min, nat_le, if◌then◌else◌, option_and_then}
use Rattle.std.specs.Option.{option_map}
use Rattle.std.proofs.lemmas.Bool.Decides.{nat_tests}
use Rattle.problem_settings.specs.Scalars.{is_digit, number_from, within}

-- the number, as far as it is held
abbrev pub held : Option ℕ → Option ℕ
held said = option_map (λ n. min n 1000001) said

held_step : (n d : ℕ) → min (min n 1000001 * 10 + d) 1000001 ≡ min (n * 10 + d) 1000001
held_step n d = omega arith

either : (t : Bool) (x y : Option ℕ) → held x ≡ held y → held (if t then x else None) ≡ held (if t then y else None)
either true x y h = h
either false x y h = refl

pub held_from : (n m : ℕ) (bs : List ℕ) → min n 1000001 ≡ min m 1000001 → held (number_from n bs) ≡ held (number_from m bs)
held_from n m [] e = ap Some e
held_from n m (b ∷ bs) e =
    let next : min (n * 10 + (b - 48)) 1000001 ≡ min (m * 10 + (b - 48)) 1000001 =
    sym (held_step n (b - 48)) ∙ ap (λ k. min (k * 10 + (b - 48)) 1000001) e ∙ held_step m (b - 48) in
    either (is_digit b) (number_from (n * 10 + (b - 48)) bs) (number_from (m * 10 + (b - 48)) bs) (held_from (n * 10 + (b - 48)) (m * 10 + (b - 48)) bs next)

-- one digit more
pub held_more : (n digit : ℕ) (bs : List ℕ) → is_digit digit ≡ true
    → held (number_from (min (n * 10 + (digit - 48)) 1000001) bs) ≡ held (number_from n (digit ∷ bs))
held_more n digit bs h = rw h (held_from (min (n * 10 + (digit - 48)) 1000001) (n * 10 + (digit - 48)) bs (omega arith))

in_range : (n : ℕ) → (nat_le 1 (min n 1000001) && nat_le (min n 1000001) 1000000) ≡ (nat_le 1 n && nat_le n 1000000)
in_range n = grind (arith, nat_tests)

same_if : (t : Bool) (n : ℕ) → (t ≡ true → n ≤ 1000000) → (if t then Some (min n 1000001) else None) ≡ (if t then Some n else None)
same_if true n small = let e : min n 1000001 ≡ n = omega (arith, small refl) in ap Some e
same_if false n small = refl

within_held : (n : ℕ) → within 1 1000000 (min n 1000001) ≡ within 1 1000000 n
within_held n = rw (in_range n) (same_if (nat_le 1 n && nat_le n 1000000) n (λ h. grind (arith, nat_tests)))

-- what is held is in range where the number is
pub held_within : (said : Option ℕ) → option_and_then (within 1 1000000) (held said) ≡ option_and_then (within 1 1000000) said
held_within None = refl
held_within (Some n) = within_held n
