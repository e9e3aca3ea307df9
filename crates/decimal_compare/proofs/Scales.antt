-- Moving the point: which digits are left, and whether the others are zeros.
use Rattle.std.proofs.Common.{ℕ, ◌≡◌, ◌+◌, ◌-◌, ◌*◌, ◌/◌, ◌^◌, ◌<◌, ◌≤◌, List, ◌++◌, true, ◌&&◌, eqb, refl, sym, ap, ◌∙◌, arith, length, take, drop, inl, inr}
use Rattle.std.specs.List.{list_all}
use Rattle.std.proofs.lemmas.List.{take_all, drop_all, take-append-drop, append-nil, take-append-le, drop-append-le, length-append, length-drop}
use Rattle.std.proofs.lemmas.List.Folds.{list_all-append}
use Rattle.std.proofs.Math.Seq.{take-append-add, drop-append-add}
use Rattle.std.proofs.lemmas.Nat.{pow-add, div-mul-add}
use Rattle.std.proofs.lemmas.Bool.{cases_lt, cases_eq}
use Rattle.std.proofs.Math.Nat.{pow-le-pow_right, mul-div_cancel, mul-div-mul_right, le-mul_of_pos_right}
use Rattle.decimal_compare.specs.Digits.{is_digit, digits_number, scaled}
use Rattle.decimal_compare.proofs.Numbers.{eq_is, eq_apart, ten_pos, zeros_are, append_are_digits, digits_number-append, digits_number-lt, drop_are_digits}

turned : (n a b : ℕ) → n * (a * b) ≡ n * b * a
turned n a b = omega arith

times_comm : (a b : ℕ) → a * b ≡ b * a
times_comm a b = omega arith

-- up by at least as much as down
pub scaled_up : (n down more : ℕ) → scaled n (down + more) down ≡ n * 10 ^ more
unfolding scaled
scaled_up n down more =
    ap (λ m. n * m / 10 ^ down) (pow-add 10 down more) ∙ ap (λ m. m / 10 ^ down) (turned n (10 ^ down) (10 ^ more))
    ∙ mul-div_cancel (n * 10 ^ more) (ten_pos down)

-- down by more than up
pub scaled_down : (n up more : ℕ) → scaled n up (up + more) ≡ n / 10 ^ more
unfolding scaled
scaled_down n up more =
    ap (λ m. n * 10 ^ up / m) (pow-add 10 up more ∙ times_comm (10 ^ up) (10 ^ more)) ∙ mul-div-mul_right {m = 10 ^ up} n (10 ^ more) (ten_pos up)

-- digits are those that are kept, and those that are dropped
cut_number : (ds : List ℕ) (kept : ℕ) → digits_number ds ≡ digits_number (take kept ds) * 10 ^ length (drop kept ds) + digits_number (drop kept ds)
cut_number ds kept = ap digits_number (sym (take-append-drop kept ds)) ∙ digits_number-append (take kept ds) (drop kept ds)

digits_number-drop_lt : (ds : List ℕ) (kept more : ℕ) → list_all is_digit ds ≡ true → length (drop kept ds) ≤ more → digits_number (drop kept ds) < 10 ^ more
digits_number-drop_lt ds kept more h le =
    omega (arith, digits_number-lt (drop kept ds) (drop_are_digits kept ds h), pow-le-pow_right {n = 10} (omega arith) le)

-- a number less its last places
pub record IsCut (n kept dropped power : ℕ) : Type 0 where
  pub whole : n ≡ kept * power + dropped
  pub below : dropped < power

pub cut_enough : (ds : List ℕ) (more : ℕ) → list_all is_digit ds ≡ true → more ≤ length ds → IsCut (digits_number ds) (digits_number (take (length ds - more) ds)) (digits_number (drop (length ds - more) ds)) (10 ^ more)
cut_enough ds more h le =
    let len : length (drop (length ds - more) ds) ≡ more = omega (arith, length-drop (length ds - more) ds) in
    record {
      whole = cut_number ds (length ds - more) ∙ ap (λ k. digits_number (take (length ds - more) ds) * 10 ^ k + digits_number (drop (length ds - more) ds)) len;
      below = digits_number-drop_lt ds (length ds - more) more h (omega arith);
    }

pub cut_all : (ds : List ℕ) (more : ℕ) → list_all is_digit ds ≡ true → length ds ≤ more → IsCut (digits_number ds) (digits_number (take (length ds - more) ds)) (digits_number (drop (length ds - more) ds)) (10 ^ more)
cut_all ds more h le =
    let none : length ds - more ≡ 0 = omega arith in
    rw none (record {
      whole = omega arith;
      below = digits_number-drop_lt ds 0 more h le;
    })

pub cut_is : (ds : List ℕ) (more : ℕ) → list_all is_digit ds ≡ true → IsCut (digits_number ds) (digits_number (take (length ds - more) ds)) (digits_number (drop (length ds - more) ds)) (10 ^ more)
cut_is ds more h = elim (cases_lt (length ds) more) [ inl lt ↦ cut_all ds more h (omega arith) | inr ge ↦ cut_enough ds more h ge ]

quotient : (n kept dropped power : ℕ) → IsCut n kept dropped power → n / power ≡ kept
quotient n kept dropped power cut = ap (λ m. m / power) cut.whole ∙ div-mul-add kept power dropped cut.below

up_part : (ds : List ℕ) (up down : ℕ) → down ≤ up → scaled (digits_number ds) up down ≡ digits_number (take (length ds + up - down) ds) * 10 ^ (length ds + up - down - length ds)
up_part ds up down le =
    let sum : up ≡ down + (up - down) = omega arith in
    let left : length ds + up - down - length ds ≡ up - down = omega arith in
    ap (λ k. scaled (digits_number ds) k down) sum ∙ scaled_up (digits_number ds) down (up - down)
    ∙ rw (left, take_all (length ds + up - down) ds (omega arith)) refl

down_part : (ds : List ℕ) (up down : ℕ) → list_all is_digit ds ≡ true → up ≤ down → scaled (digits_number ds) up down ≡ digits_number (take (length ds + up - down) ds) * 10 ^ (length ds + up - down - length ds)
down_part ds up down h le =
    let sum : down ≡ up + (down - up) = omega arith in
    let left : length ds + up - down - length ds ≡ 0 = omega arith in
    let same : length ds + up - down ≡ length ds - (down - up) = omega arith in
    ap (λ k. scaled (digits_number ds) up k) sum ∙ scaled_down (digits_number ds) up (down - up)
    ∙ quotient (digits_number ds) (digits_number (take (length ds - (down - up)) ds)) (digits_number (drop (length ds - (down - up)) ds)) (10 ^ (down - up)) (cut_is ds (down - up) h)
    ∙ rw (left, same) (omega arith)

-- moving the point is taking the digits that count, and zeros where there are too few
pub scaled_is : (ds : List ℕ) (up down : ℕ) → list_all is_digit ds ≡ true → scaled (digits_number ds) up down ≡ digits_number (take (length ds + up - down) ds) * 10 ^ (length ds + up - down - length ds)
scaled_is ds up down h = elim (cases_lt up down) [ inl lt ↦ down_part ds up down h (omega arith) | inr ge ↦ up_part ds up down ge ]

-- ---- digits in two parts

pub take_parts : (n : ℕ) (xs ys : List ℕ) → take n (xs ++ ys) ≡ take n xs ++ take (n - length xs) ys
take_parts n xs ys = elim (cases_lt n (length xs)) [ inl lt ↦ first_part lt | inr ge ↦ both_parts ge ]
  where
    first_part : n < length xs → take n (xs ++ ys) ≡ take n xs ++ take (n - length xs) ys
    first_part lt =
        let none : n - length xs ≡ 0 = omega arith in
        take-append-le n xs ys (omega arith) ∙ rw none (sym (append-nil (take n xs)))

    both_parts : length xs ≤ n → take n (xs ++ ys) ≡ take n xs ++ take (n - length xs) ys
    both_parts ge =
        let sum : n ≡ length xs + (n - length xs) = omega arith in
        ap (λ k. take k (xs ++ ys)) sum ∙ take-append-add xs ys (n - length xs) ∙ ap (λ zs. zs ++ take (n - length xs) ys) (sym (take_all n xs ge))

pub drop_parts : (n : ℕ) (xs ys : List ℕ) → drop n (xs ++ ys) ≡ drop n xs ++ drop (n - length xs) ys
drop_parts n xs ys = elim (cases_lt n (length xs)) [ inl lt ↦ first_part lt | inr ge ↦ both_parts ge ]
  where
    first_part : n < length xs → drop n (xs ++ ys) ≡ drop n xs ++ drop (n - length xs) ys
    first_part lt =
        let none : n - length xs ≡ 0 = omega arith in
        drop-append-le n xs ys (omega arith) ∙ rw none refl

    both_parts : length xs ≤ n → drop n (xs ++ ys) ≡ drop n xs ++ drop (n - length xs) ys
    both_parts ge =
        let sum : n ≡ length xs + (n - length xs) = omega arith in
        ap (λ k. drop k (xs ++ ys)) sum ∙ drop-append-add xs ys (n - length xs) ∙ ap (λ zs. zs ++ drop (n - length xs) ys) (sym (drop_all n xs ge))

-- ---- nothing dropped

same_or_more : (a r u : ℕ) → 0 < u → eqb (a * u) ((a + r) * u) ≡ eqb r 0
same_or_more a r u some = elim (cases_eq r 0) [ inl e ↦ none e | inr ne ↦ more ne ]
  where
    none : r ≡ 0 → eqb (a * u) ((a + r) * u) ≡ eqb r 0
    none e = rw e (eq_is (a * u) ((a + 0) * u) (omega arith))

    more : (r ≡ 0 → ⊥) → eqb (a * u) ((a + r) * u) ≡ eqb r 0
    more ne =
        let product : u ≤ r * u = omega (arith, le-mul_of_pos_right {m = r} u (omega arith)) in
        eq_apart (a * u) ((a + r) * u) (λ e. omega arith) ∙ sym (eq_apart r 0 ne)

exact_up : (ds : List ℕ) (up down : ℕ) → down ≤ up → eqb (scaled (digits_number ds) up down * 10 ^ down) (digits_number ds * 10 ^ up) ≡ eqb (digits_number (drop (length ds + up - down) ds)) 0
exact_up ds up down le =
    let sum : up ≡ down + (up - down) = omega arith in
    let back : scaled (digits_number ds) up down * 10 ^ down ≡ digits_number ds * 10 ^ up =
    ap (λ k. scaled (digits_number ds) k down * 10 ^ down) sum ∙ ap (λ m. m * 10 ^ down) (scaled_up (digits_number ds) down (up - down))
    ∙ sym (turned (digits_number ds) (10 ^ down) (10 ^ (up - down))) ∙ ap (λ m. digits_number ds * m) (sym (pow-add 10 down (up - down))) ∙ ap (λ k. digits_number ds * 10 ^ k) (sym sum)
    in
    eq_is (scaled (digits_number ds) up down * 10 ^ down) (digits_number ds * 10 ^ up) back ∙ rw (drop_all (length ds + up - down) ds (omega arith)) refl

exact_down : (ds : List ℕ) (up down : ℕ) → list_all is_digit ds ≡ true → up ≤ down → eqb (scaled (digits_number ds) up down * 10 ^ down) (digits_number ds * 10 ^ up) ≡ eqb (digits_number (drop (length ds + up - down) ds)) 0
exact_down ds up down h le =
    let more : ℕ = down - up in
    let sum : down ≡ up + (down - up) = omega arith in
    let same : length ds + up - down ≡ length ds - (down - up) = omega arith in
    let kept : ℕ = digits_number (take (length ds - (down - up)) ds) in
    let dropped : ℕ = digits_number (drop (length ds - (down - up)) ds) in
    let cut : IsCut (digits_number ds) kept dropped (10 ^ (down - up)) = cut_is ds (down - up) h in
    let left : scaled (digits_number ds) up down * 10 ^ down ≡ kept * 10 ^ (down - up) * 10 ^ up =
    ap (λ k. scaled (digits_number ds) up k * 10 ^ k) sum
    ∙ ap (λ m. m * 10 ^ (up + (down - up))) (scaled_down (digits_number ds) up (down - up) ∙ quotient (digits_number ds) kept dropped (10 ^ (down - up)) cut)
    ∙ ap (λ m. kept * m) (pow-add 10 up (down - up)) ∙ turned kept (10 ^ up) (10 ^ (down - up))
    in
    let right : digits_number ds * 10 ^ up ≡ (kept * 10 ^ (down - up) + dropped) * 10 ^ up = ap (λ m. m * 10 ^ up) cut.whole in
    rw (left, right, same) (same_or_more (kept * 10 ^ (down - up)) dropped (10 ^ up) (ten_pos up))

-- the number is whole exactly where the digits that are dropped are zeros
pub exact_is : (ds : List ℕ) (up down : ℕ) → list_all is_digit ds ≡ true → eqb (scaled (digits_number ds) up down * 10 ^ down) (digits_number ds * 10 ^ up) ≡ eqb (digits_number (drop (length ds + up - down) ds)) 0
exact_is ds up down h = elim (cases_lt up down) [ inl lt ↦ exact_down ds up down h (omega arith) | inr ge ↦ exact_up ds up down ge ]

-- the digits that are dropped, in two parts
pub exact_parts : (whole fraction : List ℕ) (taken up down : ℕ) → list_all is_digit whole ≡ true → list_all is_digit fraction ≡ true
    → taken ≡ length whole + up - down
    → (list_all (λ b. eqb b 48) (drop taken whole) && list_all (λ b. eqb b 48) (drop (taken - length whole) fraction))
    ≡ eqb (scaled (digits_number (whole ++ fraction)) up (length fraction + down) * 10 ^ (length fraction + down)) (digits_number (whole ++ fraction) * 10 ^ up)
exact_parts whole fraction taken up down h k is =
    let digits : list_all is_digit (whole ++ fraction) ≡ true = append_are_digits whole fraction h k in
    let len : length (whole ++ fraction) ≡ length whole + length fraction = length-append whole fraction in
    let kept : length (whole ++ fraction) + up - (length fraction + down) ≡ taken = omega arith in
    sym (list_all-append (λ b. eqb b 48) (drop taken whole) (drop (taken - length whole) fraction))
    ∙ ap (list_all (λ b. eqb b 48)) (sym (drop_parts taken whole fraction))
    ∙ zeros_are (drop taken (whole ++ fraction)) (drop_are_digits taken (whole ++ fraction) digits)
    ∙ sym (exact_is (whole ++ fraction) up (length fraction + down) digits ∙ rw kept refl)
