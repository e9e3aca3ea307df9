-- Marks as bits of words.
use Rattle.std.proofs.Common.{ℕ, zero, suc, ◌≡◌, ◌+◌, ◌-◌, ◌*◌, ◌/◌, ◌%◌, ◌<◌, ◌≤◌, List, Some, Bool, false, sym, ap, ◌∙◌, arith, length, get_or, slice_get}
use Rattle.std.specs.Prelude.{◌==◌, replicate}
use Rattle.std.specs.Int.{bit_at}
use Rattle.std.proofs.lemmas.List.{get_or_read, get_or-replicate, length-replicate}
use Rattle.task_tree.specs.Bits.{word, bit}
use Rattle.task_tree.specs.TreeLayout.{shown_from}
use Rattle.task_tree.proofs.Bitwise.{all_zero}
use Rattle.task_tree.proofs.ShownTests.{length_shown, shown_empty}

read_bit : (words : List ℕ) (i n k : ℕ) → k < n → slice_get (shown_from words i n) k ≡ Some (bit words (i + k) == 1)
read_bit words i zero k l = absurd (omega arith)
read_bit words i (suc n) zero l = ap (λ m. Some (bit words m == 1)) (omega arith)
read_bit words i (suc n) (suc k) l = read_bit words (i + 1) n k (omega arith) ∙ ap (λ m. Some (bit words m == 1)) (omega arith)

-- a mark is the bit of its word that was read
pub mark_read : (words : List ℕ) (n k w : ℕ) → k < n → k / 64 < length words → w ≡ get_or words (k / 64) w → slice_get (shown_from words 0 n) k ≡ Some (bit_at w (k % 64) == 1)
unfolding bit
mark_read words n k w l room e =
    let read : w ≡ get_or words (k / 64) 0 = get_or_read words (k / 64) w room e 0 in
    let at : 0 + k ≡ k = omega arith in
    read_bit words 0 n k l ∙ ap (λ m. Some (bit_at (word words (m / 64)) (m % 64) == 1)) at ∙ ap (λ v. Some (bit_at v (k % 64) == 1)) (sym read)

-- words of zeros are no marks
pub no_marks : (words : List ℕ) (n m : ℕ) → words ≡ replicate m 0 → shown_from words 0 n ≡ replicate n false
no_marks words n m e =
    let zeros : length words ≡ m = ap length e ∙ length-replicate {A = ℕ} m 0 in
    shown_empty words 0 n (all_zero words m (omega (arith, zeros)) (λ p l. ap (λ ws. get_or ws p 0) e ∙ get_or-replicate m p 0 0 l))

-- the tests of marks
pub count_is : (words : List ℕ) (n : ℕ) (marks : List Bool) → shown_from words 0 n ≡ marks → n ≡ length marks
count_is words n marks e = sym (length_shown words 0 n) ∙ ap length e

-- there is a word for each test
pub within : (words : List ℕ) (n test : ℕ) (marks : List Bool) → shown_from words 0 n ≡ marks → n ≤ 64 * length words → 1 ≤ test → test ≤ length marks → (test - 1 < n) × ((test - 1) / 64 < length words)
within words n test marks e room low high = let count = count_is words n marks e in (omega (arith, count, low, high), omega (arith, count, room, low, high))
