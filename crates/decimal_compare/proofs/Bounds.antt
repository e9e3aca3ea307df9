-- Numbers that stop at a bound.
use Rattle.std.proofs.Common.{ℕ, ◌≡◌, ◌+◌, ◌-◌, ◌*◌, ◌^◌, ◌<◌, ◌≤◌, List, ◌++◌, true, refl, sym, ap, ◌∙◌, arith, length, take, drop, min, inl, inr}
use Rattle.std.specs.List.{fold, list_all}
use Rattle.std.proofs.lemmas.List.{take-append-drop, length-append, length-take}
use Rattle.std.proofs.lemmas.List.Sums.{fold-append}
use Rattle.std.proofs.lemmas.Nat.{pow-add, mul-le}
use Rattle.std.proofs.lemmas.Bool.{cases_lt}
use Rattle.std.proofs.Math.Nat.{pow-le-pow_right, le-mul_of_pos_right}
use Rattle.decimal_compare.specs.Digits.{is_digit, with_digit, digits_number, scaled}
use Rattle.decimal_compare.proofs.Numbers.{ten_pos, fold_digits, digits_number-lt, append_are_digits, take_are_digits}
use Rattle.decimal_compare.proofs.Scales.{scaled_is, take_parts}

pub min_all : (a w : ℕ) → w ≤ a → min a w ≡ w
min_all a w h = omega arith

pub min_none : (a w : ℕ) → a ≤ w → min a w ≡ a
min_none a w h = omega arith

-- to stop at the bound first changes nothing
pub min_times : (a p w : ℕ) → 0 < p → min (min a w * p) w ≡ min (a * p) w
min_times a p w h = elim (cases_lt w a) [
  | inl lt ↦ rw (min_all a w (omega arith)) (min_all (w * p) w (omega (arith, le-mul_of_pos_right {m = p} w h))
      ∙ sym (min_all (a * p) w (omega (arith, le-mul_of_pos_right {m = p} a h))))
  | inr ge ↦ rw (min_none a w ge) refl
]

-- more digits make no smaller number
pub fold_grows : (n : ℕ) (ds : List ℕ) → n ≤ fold with_digit n ds
fold_grows n ds = omega (arith, fold_digits n ds, le-mul_of_pos_right {m = 10 ^ length ds} n (ten_pos (length ds)))

-- digits behind a number at the bound
pub fold_stops : (start w : ℕ) (ds : List ℕ) (i n : ℕ) → n ≡ fold with_digit start (take i ds) → w ≤ n → w ≡ min (fold with_digit start ds) w
fold_stops start w ds i n is ge =
    let whole : fold with_digit start ds ≡ fold with_digit n (drop i ds) =
    ap (fold with_digit start) (sym (take-append-drop i ds)) ∙ fold-append with_digit start (take i ds) (drop i ds) ∙ ap (λ m. fold with_digit m (drop i ds)) (sym is)
    in sym (min_all (fold with_digit start ds) w (omega (arith, fold_grows n (drop i ds))))

-- to stop at the bound before the digits changes nothing
pub fold_min : (n w : ℕ) (ds : List ℕ) → min (fold with_digit (min n w) ds) w ≡ min (fold with_digit n ds) w
fold_min n w ds = elim (cases_lt w n) [
  | inl lt ↦ rw (min_all n w (omega arith)) (min_all (fold with_digit w ds) w (fold_grows w ds)
      ∙ sym (min_all (fold with_digit n ds) w (omega (arith, fold_grows n ds))))
  | inr ge ↦ rw (min_none n w ge) refl
]

-- twelve zeros at a time
pub zeros_step : (n w left : ℕ) → 12 ≤ left → min (min (n * 10 ^ 12) w * 10 ^ (left - 12)) w ≡ min (n * 10 ^ left) w
zeros_step n w left h =
    let sum : left ≡ 12 + (left - 12) = omega arith in
    let power : 10 ^ left ≡ 10 ^ 12 * 10 ^ (left - 12) = ap (λ k. 10 ^ k) sum ∙ pow-add 10 12 (left - 12) in
    min_times (n * 10 ^ 12) (10 ^ (left - 12)) w (ten_pos (left - 12)) ∙ ap (λ m. min m w) (omega (arith, ap (λ m. n * m) power))

-- four digits at most
pub four_digits : (ds : List ℕ) (i n : ℕ) → n ≡ fold with_digit 0 (take i ds) → list_all is_digit (take i ds) ≡ true → length (take i ds) ≤ 4 → n < 10000
four_digits ds i n is digits few = omega (arith, digits_number-lt (take i ds) digits, pow-le-pow_right {n = 10} (omega arith) few)

pub three_digits : (ds : List ℕ) (i n : ℕ) → n ≡ fold with_digit 0 (take i ds) → list_all is_digit (take i ds) ≡ true → length (take i ds) ≤ 3 → n < 1000
three_digits ds i n is digits few = omega (arith, digits_number-lt (take i ds) digits, pow-le-pow_right {n = 10} (omega arith) few)

-- the digits that count, in two parts, and zeros where there are too few, stopped at the bound on the way
pub size_parts : (whole fraction : List ℕ) (taken up down w : ℕ) → list_all is_digit whole ≡ true → list_all is_digit fraction ≡ true
    → taken ≡ length whole + up - down
    → min (min (fold with_digit (min (fold with_digit 0 (take taken whole)) w) (take (taken - length whole) fraction)) w * 10 ^ (taken - length whole - length fraction)) w
    ≡ min (scaled (digits_number (whole ++ fraction)) up (length fraction + down)) w
size_parts whole fraction taken up down w h k is =
    let len : length (whole ++ fraction) ≡ length whole + length fraction = length-append whole fraction in
    let kept : length (whole ++ fraction) + up - (length fraction + down) ≡ taken = omega arith in
    let zeros : taken - length whole - length fraction ≡ taken - length (whole ++ fraction) = omega arith in
    let both : fold with_digit (fold with_digit 0 (take taken whole)) (take (taken - length whole) fraction) ≡ digits_number (take taken (whole ++ fraction)) =
    sym (ap digits_number (take_parts taken whole fraction) ∙ fold-append with_digit 0 (take taken whole) (take (taken - length whole) fraction)) in
    ap (λ m. min (m * 10 ^ (taken - length whole - length fraction)) w) (fold_min (fold with_digit 0 (take taken whole)) w (take (taken - length whole) fraction))
    ∙ min_times (fold with_digit (fold with_digit 0 (take taken whole)) (take (taken - length whole) fraction)) (10 ^ (taken - length whole - length fraction)) w (ten_pos (taken - length whole - length fraction))
    ∙ ap (λ m. min (m * 10 ^ (taken - length whole - length fraction)) w) both
    ∙ sym (ap (λ m. min m w) (scaled_is (whole ++ fraction) up (length fraction + down) (append_are_digits whole fraction h k)) ∙ rw (kept, zeros) refl)

-- zeros behind a number at the bound
pub zeros_stop : (n p w : ℕ) → w ≤ n → 0 < p → w ≡ min (n * p) w
zeros_stop n p w ge some = sym (min_all (n * p) w (omega (arith, le-mul_of_pos_right {m = p} n some)))

pub zeros_fit : (n left : ℕ) → n ≤ 10 ^ 25 → left ≤ 12 → n * 10 ^ left < 2 ^ 128
zeros_fit n left small few = omega (arith, mul-le n (10 ^ left) (10 ^ 25) (10 ^ 12) small (pow-le-pow_right {n = 10} (omega arith) few))

-- a few of digits are a small number
pub few_digits : (ds : List ℕ) (i n : ℕ) → n ≡ fold with_digit 0 (take i ds) → list_all is_digit ds ≡ true → length ds ≤ 12 → n < 10 ^ 12
few_digits ds i n is digits few =
    let le : length (take i ds) ≤ 12 = omega (arith, length-take i ds) in
    omega (arith, digits_number-lt (take i ds) (take_are_digits i ds digits), pow-le-pow_right {n = 10} (omega arith) le)

-- a few digits behind a number, in one step
pub append_few : (start : ℕ) (ds : List ℕ) → fold with_digit start ds ≡ start * 10 ^ length ds + digits_number ds
append_few start ds = fold_digits start ds

pub append_fits : (start : ℕ) (ds : List ℕ) (n : ℕ) → start ≤ 10 ^ 25 → length ds ≤ 12 → n ≡ digits_number ds → list_all is_digit ds ≡ true → start * 10 ^ length ds + n < 2 ^ 128
append_fits start ds n small few is digits =
    omega (
      arith,
      mul-le start (10 ^ length ds) (10 ^ 25) (10 ^ 12) small (pow-le-pow_right {n = 10} (omega arith) few),
      digits_number-lt ds digits,
      pow-le-pow_right {n = 10} (omega arith) few,
    )

-- a small amount's product fits
pub product_fits : (amount size : ℕ) → amount ≤ 10 ^ 14 → size < 10 ^ 24 → amount * size < 2 ^ 127
product_fits amount size few small = omega (arith, mul-le amount size (10 ^ 14) (10 ^ 24) few (omega arith))
