-- The number that digits are, and how large it is.
use Rattle.std.proofs.Common.{ℕ, zero, suc, ◌≡◌, ◌+◌, ◌-◌, ◌*◌, ◌^◌, ◌<◌, ◌≤◌, List, [], ◌∷◌, ◌++◌, Bool, true, false, cond, ◌&&◌, eqb, inl, inr, refl, sym, ap, ◌∙◌, arith, length, take, drop, get_or}
use Rattle.std.specs.List.{fold, list_all, take_while, prefix_len}
use Rattle.std.proofs.lemmas.List.Sums.{fold-append, take_while-cons, prefix_len-le-length}
use Rattle.std.proofs.lemmas.Bool.{cases_eq}
use Rattle.std.proofs.lemmas.Bool.Decides.{nat_tests}
use Rattle.std.proofs.lemmas.List.Folds.{list_all-append}
use Rattle.std.proofs.Math.Nat.{pow-succ', mul-le-mul_right, le-mul_of_pos_right}
use Rattle.decimal_compare.specs.Digits.{is_digit, with_digit, digits_number}

-- the first half of a conjunction that holds, and the second
pub and_first : (a b : Bool) → (a && b) ≡ true → a ≡ true
and_first true b h = refl
and_first false b h = h

pub and_second : (a b : Bool) → (a && b) ≡ true → b ≡ true
and_second true b h = h
and_second false b h = cc

pub digit_ge : (b : ℕ) → is_digit b ≡ true → 48 ≤ b
digit_ge b h = grind (arith, nat_tests)

pub digit_le : (b : ℕ) → is_digit b ≡ true → b - 48 ≤ 9
digit_le b h = grind (arith, nat_tests)

pub ten_pos : (k : ℕ) → 0 < 10 ^ k
ten_pos zero = omega arith
ten_pos (suc k) = omega (arith, pow-succ' 10 k, ten_pos k)

-- a digit in front of p places
spread : (n d p r : ℕ) → (n * 10 + d) * p + r ≡ n * (10 * p) + ((0 * 10 + d) * p + r)
spread n d p r = omega arith

-- digits behind a number
pub fold_digits : (n : ℕ) (ds : List ℕ) → fold with_digit n ds ≡ n * 10 ^ length ds + fold with_digit 0 ds
fold_digits n [] = omega arith
fold_digits n (d ∷ ds) =
    fold_digits (n * 10 + (d - 48)) ds ∙ spread n (d - 48) (10 ^ length ds) (fold with_digit 0 ds)
    ∙ ap (λ p. n * p + ((0 * 10 + (d - 48)) * 10 ^ length ds + fold with_digit 0 ds)) (sym (pow-succ' 10 (length ds)))
    ∙ ap (λ m. n * 10 ^ suc (length ds) + m) (sym (fold_digits (0 * 10 + (d - 48)) ds))

pub digits_number-append : (xs ys : List ℕ) → digits_number (xs ++ ys) ≡ digits_number xs * 10 ^ length ys + digits_number ys
digits_number-append xs ys = fold-append with_digit 0 xs ys ∙ fold_digits (digits_number xs) ys

below_power : (d p r : ℕ) → d ≤ 9 → r < p → (0 * 10 + d) * p + r < 10 * p
below_power d p r small lt = omega (arith, mul-le-mul_right p small)

pub digits_number-lt : (ds : List ℕ) → list_all is_digit ds ≡ true → digits_number ds < 10 ^ length ds
digits_number-lt [] h = omega arith
digits_number-lt (d ∷ ds) h =
    let small : d - 48 ≤ 9 = digit_le d (and_first (is_digit d) (list_all is_digit ds) h) in
    let rest : digits_number ds < 10 ^ length ds = digits_number-lt ds (and_second (is_digit d) (list_all is_digit ds) h) in
    rw (fold_digits (0 * 10 + (d - 48)) ds, pow-succ' 10 (length ds)) (below_power (d - 48) (10 ^ length ds) (digits_number ds) small rest)

-- parts of digits are digits
pub take_are_digits : (n : ℕ) (ds : List ℕ) → list_all is_digit ds ≡ true → list_all is_digit (take n ds) ≡ true
take_are_digits zero ds h = refl
take_are_digits (suc n) [] h = refl
take_are_digits (suc n) (d ∷ ds) h =
    let first : is_digit d ≡ true = and_first (is_digit d) (list_all is_digit ds) h in
    rw first (take_are_digits n ds (and_second (is_digit d) (list_all is_digit ds) h))

pub drop_are_digits : (n : ℕ) (ds : List ℕ) → list_all is_digit ds ≡ true → list_all is_digit (drop n ds) ≡ true
drop_are_digits zero ds h = h
drop_are_digits (suc n) [] h = h
drop_are_digits (suc n) (d ∷ ds) h = drop_are_digits n ds (and_second (is_digit d) (list_all is_digit ds) h)

pub digit_at : (ds : List ℕ) (i : ℕ) → list_all is_digit ds ≡ true → i < length ds → is_digit (get_or ds i 0) ≡ true
digit_at [] i h lt = absurd (omega arith)
digit_at (d ∷ ds) zero h lt = and_first (is_digit d) (list_all is_digit ds) h
digit_at (d ∷ ds) (suc i) h lt = digit_at ds i (and_second (is_digit d) (list_all is_digit ds) h) (omega arith)

-- the digits in front are digits
prefix_of : (t : Bool) (b : ℕ) (bs : List ℕ) → is_digit b ≡ t → list_all is_digit bs ≡ true → list_all is_digit (cond t (b ∷ bs) []) ≡ true
prefix_of false b bs e h = refl
prefix_of true b bs e h = rw e h

pub leading_are_digits : (text : List ℕ) → list_all is_digit (take_while is_digit text) ≡ true
leading_are_digits [] = refl
leading_are_digits (b ∷ bs) = rw (take_while-cons is_digit b bs) (prefix_of (is_digit b) b (take_while is_digit bs) refl (leading_are_digits bs))

pub prefix_within : (text : List ℕ) → prefix_len is_digit text ≤ length text
prefix_within text = prefix_len-le-length is_digit text

pub append_are_digits : (xs ys : List ℕ) → list_all is_digit xs ≡ true → list_all is_digit ys ≡ true → list_all is_digit (xs ++ ys) ≡ true
append_are_digits xs ys h k = rw (list_all-append is_digit xs ys, h) k

-- ---- zeros

pub eq_is : (m n : ℕ) → m ≡ n → eqb m n ≡ true
eq_is m n h = grind (arith, nat_tests)

pub eq_apart : (m n : ℕ) → (m ≡ n → ⊥) → eqb m n ≡ false
eq_apart m n h = grind (arith, nat_tests)

some_number : (d p r : ℕ) → 0 < d → 0 < p → (0 * 10 + d) * p + r ≡ 0 → ⊥
some_number d p r some power e = omega (arith, le-mul_of_pos_right {m = d} p some)

apart_above : (d : ℕ) → is_digit d ≡ true → (d ≡ 48 → ⊥) → 0 < d - 48
apart_above d h ne = let ge : 48 ≤ d = digit_ge d h in omega arith

zeros_first : (d : ℕ) (ds : List ℕ) → d ≡ 48 → list_all (λ b. eqb b 48) ds ≡ eqb (digits_number ds) 0 → list_all (λ b. eqb b 48) (d ∷ ds) ≡ eqb (digits_number (d ∷ ds)) 0
zeros_first d ds e rest = rw e rest

zeros_other : (d : ℕ) (ds : List ℕ) → is_digit d ≡ true → (d ≡ 48 → ⊥) → list_all (λ b. eqb b 48) (d ∷ ds) ≡ eqb (digits_number (d ∷ ds)) 0
zeros_other d ds h ne =
    rw (eq_apart d 48 ne, fold_digits (0 * 10 + (d - 48)) ds)
    (sym (eq_apart ((0 * 10 + (d - 48)) * 10 ^ length ds + digits_number ds) 0 (some_number (d - 48) (10 ^ length ds) (digits_number ds) (apart_above d h ne) (ten_pos (length ds)))))

-- digits are 0 exactly where each is a zero
pub zeros_are : (ds : List ℕ) → list_all is_digit ds ≡ true → list_all (λ b. eqb b 48) ds ≡ eqb (digits_number ds) 0
zeros_are [] h = refl
zeros_are (d ∷ ds) h =
    elim (cases_eq d 48) [
      | inl e ↦ zeros_first d ds e (zeros_are ds (and_second (is_digit d) (list_all is_digit ds) h))
      | inr ne ↦ zeros_other d ds (and_first (is_digit d) (list_all is_digit ds) h) ne
    ]
