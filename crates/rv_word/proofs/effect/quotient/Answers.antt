use Rattle.std.proofs.Common.{◌≡◌, ◌≢◌, ◌&&◌, ◌⊎◌, inl, inr, ℕ, nat_eq, false, refl, arith}
use Rattle.std.proofs.lemmas.Bool.Decides.{nat_tests}
use Rattle.std.proofs.lemmas.Int.{of_z-to_z}
use Rattle.rv_word.specs.Effect.{signed, bits, quotient}
use Rattle.std.specs.Prelude.{int_div}
use Rattle.rv_word.proofs.effect.quotient.Goals as goal

-- where no case is its own, the quotient of the integers is taken
divides : (a b : ℕ) → b ≢ 0 → (a ≡ 2147483648 × (b ≢ 4294967295)) ⊎ (a ≢ 2147483648) → quotient a b ≡ bits (int_div (signed a) (signed b))
divides a b h (inl both) =
    let zero : nat_eq b 0 ≡ false = grind (arith, nat_tests) in
    let least : nat_eq a 2147483648 && nat_eq b 4294967295 ≡ false = let k = both.1 in let n : nat_eq b 4294967295 ≡ false = grind (arith, nat_tests) in let m = both.0 in rw m n in
    rw (zero, least) refl
divides a b h (inr other) =
    let zero : nat_eq b 0 ≡ false = grind (arith, nat_tests) in
    let least : nat_eq a 2147483648 ≡ false = grind (arith, nat_tests) in
    rw (zero, least) refl

pub returns-else-a-eq2147483648 : goal.returns-else-a-eq2147483648
returns-else-a-eq2147483648 c =
    let e = divides c.args.a c.args.b c.if-b-eq0.false c.else-a-eq2147483648.either in
    rw e (grind (arith, of_z-to_z))
