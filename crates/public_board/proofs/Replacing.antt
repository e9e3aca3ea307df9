-- What a change makes of the rows.
use Rattle.std.proofs.Common.{◌≡◌, ℕ, ◌+◌, ◌^◌, ◌<◌, ◌≤◌, Bool, true, false, List, length, nat_lt, refl, arith}
use Rattle.std.specs.Prelude.{if◌then◌else◌, ◌||◌, Result, Ok, Err, IsOk, MatchResult}
use Rattle.public_board.specs.declared.rows.Shown.{Shown}
use Rattle.public_board.specs.Shown.{shown, replaced}

neither : {R : Type 0} (a b : Bool) (s t : Shown R) → a ≡ false → b ≡ false → (if a || b then s else t) ≡ t
neither false false s t p q = refl
neither true b s t p q = absurd (cc p)
neither false true s t p q = absurd (cc q)

not_less : (m n : ℕ) → n ≤ m → nat_lt m n ≡ false
not_less m n le = search (arith, le)

pub replaced_is : {R : Type 0} (rows : List R) (count room : ℕ) (more : List R) → length more ≤ room → count + 1 < 2 ^ 64
    → replaced (shown rows count room) more ≡ shown more (count + 1) room
replaced_is rows count room more fits few =
    neither (nat_lt room (length more)) (nat_lt 18446744073709551614 count) (shown rows count room) (shown more (count + 1) room)
    (not_less room (length more) fits) (not_less 18446744073709551614 count (omega arith))

-- what is known where the result is an Ok
pub ok_part : {A E : Type 0} (r : Result A E) (P : Type 0) (Q : E → Type 0) → IsOk r → MatchResult r (λ _. P) Q → P
ok_part (Ok a) P Q ok m = m
ok_part (Err e) P Q ok m = absurd (cc ok)
