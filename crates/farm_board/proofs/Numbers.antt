-- Numbers in a list.
use Rattle.std.proofs.Common.{◌≡◌, ◌≢◌, ℕ, zero, suc, ◌+◌, ◌<◌, ◌≤◌, ◌⊎◌, ◌||◌, Bool, true, false, List, [], ◌∷◌, ◌++◌, length, get_or, take, drop, eqb, refl, ap, sym, ◌∙◌, inl, inr, ⊎_elim, arith, eqb-true, eq-eqb}
use Rattle.std.proofs.lemmas.Bool.{eqb-false}
use Rattle.std.specs.Prelude.{if◌then◌else◌}
use Rattle.farm_board.specs.Histories.{is_in, without}

or_cases : (a b : Bool) → (a || b) ≡ true → (a ≡ true) ⊎ (b ≡ true)
or_cases true b e = inl refl
or_cases false b e = inr e

or_right : (a b : Bool) → b ≡ true → (a || b) ≡ true
or_right true b e = refl
or_right false b e = e

or_left : (a b : Bool) → a ≡ true → (a || b) ≡ true
or_left true b e = refl
or_left false b e = absurd (cc e)

-- the number is the first one or among the others
in_cases : (n x : ℕ) (xs : List ℕ) → is_in n (x ∷ xs) ≡ true → (n ≡ x) ⊎ (is_in n xs ≡ true)
in_cases n x xs e = ⊎_elim (λ t. inl (eqb-true n x t)) (λ t. inr t) (or_cases (eqb n x) (is_in n xs) e)

pub in_here : (n : ℕ) (xs : List ℕ) → is_in n (n ∷ xs) ≡ true
in_here n xs = or_left (eqb n n) (is_in n xs) (eq-eqb n n refl)

pub in_later : (n x : ℕ) (xs : List ℕ) → is_in n xs ≡ true → is_in n (x ∷ xs) ≡ true
in_later n x xs e = or_right (eqb n x) (is_in n xs) e

pub in_end : (n : ℕ) (xs : List ℕ) → is_in n (xs ++ n ∷ []) ≡ true
in_end n [] = in_here n []
in_end n (x ∷ xs) = in_later n x (xs ++ n ∷ []) (in_end n xs)

pub in_front : (n m : ℕ) (xs : List ℕ) → is_in n xs ≡ true → is_in n (xs ++ m ∷ []) ≡ true
in_front n m [] e = absurd (cc e)
in_front n m (x ∷ xs) e = ⊎_elim (λ (t : n ≡ x). or_left (eqb n x) (is_in n (xs ++ m ∷ [])) (eq-eqb n x t)) (λ t. in_later n x (xs ++ m ∷ []) (in_front n m xs t)) (in_cases n x xs e)

pub in_either : (n m : ℕ) (xs : List ℕ) → is_in n (xs ++ m ∷ []) ≡ true → (is_in n xs ≡ true) ⊎ (n ≡ m)
in_either n m [] e = ⊎_elim (λ t. inr t) (λ t. absurd (cc t)) (in_cases n m [] e)
in_either n m (x ∷ xs) e = ⊎_elim (λ (t : n ≡ x). inl (or_left (eqb n x) (is_in n xs) (eq-eqb n x t)))
    (λ t. ⊎_elim (λ u. inl (in_later n x xs u)) (λ u. inr u) (in_either n m xs t)) (in_cases n x (xs ++ m ∷ []) e)

from_cond : (b : Bool) (n m x : ℕ) (xs : List ℕ) → (is_in n (without m xs) ≡ true → is_in n xs ≡ true) → is_in n (if b then xs else x ∷ without m xs) ≡ true → is_in n (x ∷ xs) ≡ true
from_cond true n m x xs h e = in_later n x xs e
from_cond false n m x xs h e = ⊎_elim (λ (t : n ≡ x). or_left (eqb n x) (is_in n xs) (eq-eqb n x t)) (λ t. in_later n x xs (h t)) (in_cases n x (without m xs) e)

pub in_from : (n m : ℕ) (xs : List ℕ) → is_in n (without m xs) ≡ true → is_in n xs ≡ true
in_from n m [] e = e
in_from n m (x ∷ xs) e = from_cond (eqb m x) n m x xs (in_from n m xs) e

stays_cond : (b : Bool) (n m x : ℕ) (xs : List ℕ) → eqb m x ≡ b → n ≢ m → (is_in n xs ≡ true → is_in n (without m xs) ≡ true) → is_in n (x ∷ xs) ≡ true → is_in n (if b then xs else x ∷ without m xs) ≡ true
stays_cond true n m x xs same other h e = ⊎_elim (λ (t : n ≡ x). absurd (other (t ∙ sym (eqb-true m x same)))) (λ t. t) (in_cases n x xs e)
stays_cond false n m x xs same other h e = ⊎_elim (λ (t : n ≡ x). or_left (eqb n x) (is_in n (without m xs)) (eq-eqb n x t)) (λ t. in_later n x (without m xs) (h t)) (in_cases n x xs e)

pub in_without : (n m : ℕ) (xs : List ℕ) → n ≢ m → is_in n xs ≡ true → is_in n (without m xs) ≡ true
in_without n m [] other e = e
in_without n m (x ∷ xs) other e = stays_cond (eqb m x) n m x xs refl other (in_without n m xs other) e

shorter_cond : (b : Bool) (m x : ℕ) (xs : List ℕ) → eqb m x ≡ b → (is_in m xs ≡ true → length (without m xs) + 1 ≡ length xs) → is_in m (x ∷ xs) ≡ true → length (if b then xs else x ∷ without m xs) + 1 ≡ length (x ∷ xs)
shorter_cond true m x xs same h e = omega arith
shorter_cond false m x xs same h e = let r = h (⊎_elim (λ (t : m ≡ x). absurd (eqb-false m x same t)) (λ t. t) (in_cases m x xs e)) in omega arith

pub length_without : (m : ℕ) (xs : List ℕ) → is_in m xs ≡ true → length (without m xs) + 1 ≡ length xs
length_without m [] e = absurd (cc e)
length_without m (x ∷ xs) e = shorter_cond (eqb m x) m x xs refl (length_without m xs) e

-- where one number at most is in the list, all are that one
pub in_single : (n m : ℕ) (xs : List ℕ) → length xs ≤ 1 → is_in n xs ≡ true → is_in m xs ≡ true → m ≡ n
in_single n m [] few e f = absurd (cc e)
in_single n m (x ∷ []) few e f = ⊎_elim (λ (t : n ≡ x). ⊎_elim (λ (u : m ≡ x). u ∙ sym t) (λ u. absurd (cc u)) (in_cases m x [] f)) (λ t. absurd (cc t)) (in_cases n x [] e)
in_single n m (x ∷ y ∷ xs) few e f = absurd (omega arith)

-- Taking the first one out

without_cond : (b : Bool) (m x : ℕ) (xs ys : List ℕ) → eqb m x ≡ b → m ≢ x → without m xs ≡ ys → (if b then xs else x ∷ without m xs) ≡ x ∷ ys
without_cond true m x xs ys is other e = absurd (other (eqb-true m x is))
without_cond false m x xs ys is other e = ap (λ (z : List ℕ). x ∷ z) e

without_first : (b : Bool) (m x : ℕ) (xs : List ℕ) → eqb m x ≡ b → m ≡ x → (if b then xs else x ∷ without m xs) ≡ xs
without_first true m x xs is same = refl
without_first false m x xs is same = absurd (eqb-false m x is same)

pub without_at : (m : ℕ) (xs : List ℕ) (k : ℕ) → k < length xs → get_or xs k 0 ≡ m → ((j : ℕ) → j < k → get_or xs j 0 ≢ m) → without m xs ≡ take k xs ++ drop (suc k) xs
without_at m [] k within here before = absurd (omega arith)
without_at m (x ∷ xs) zero within here before = without_first (eqb m x) m x xs refl (sym here)
without_at m (x ∷ xs) (suc k) within here before =
    without_cond (eqb m x) m x xs (take k xs ++ drop (suc k) xs) refl (λ same. before 0 (omega arith) (sym same))
    (without_at m xs k (omega arith) here (λ j less. before (suc j) (omega arith)))

pub without_none : (m : ℕ) (xs : List ℕ) → ((j : ℕ) → j < length xs → get_or xs j 0 ≢ m) → without m xs ≡ xs
without_none m [] none = refl
without_none m (x ∷ xs) none =
    without_cond (eqb m x) m x xs xs refl (λ same. none 0 (omega arith) (sym same)) (without_none m xs (λ j less. none (suc j) (omega arith)))
