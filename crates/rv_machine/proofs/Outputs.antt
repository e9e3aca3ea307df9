use Rattle.std.proofs.Common.{◌≡◌, ℕ, zero, suc, ◌+◌, ◌/◌, ◌≤◌, List, ◌∷◌, ◌++◌, length, refl, ap, ◌∙◌, arith, length-append}
use Rattle.rv_memory.specs.Paged as memory
use Rattle.rv_memory.proofs.Laws.{byte_at_touch_pages}

pub length_bytes : (m : memory.State) (at n : ℕ) → length (memory.bytes_at m at n) ≡ n
length_bytes m at zero = refl
length_bytes m at (suc n) = ap suc (length_bytes m (at + 1) n)

-- with n bytes more the output is no longer than the limit
pub output_fits : (m : memory.State) (at n limit : ℕ) (old new : List ℕ) → new ≡ old ++ memory.bytes_at m at n → length old + n ≤ limit → length new ≤ limit
output_fits m at n limit old new e h = omega (arith, ap length e, length-append old (memory.bytes_at m at n), length_bytes m at n)

bytes_same : (m k : memory.State) (a n : ℕ) → ((x : ℕ) → memory.byte_at k x ≡ memory.byte_at m x) → memory.bytes_at k a n ≡ memory.bytes_at m a n
bytes_same m k a zero h = refl
bytes_same m k a (suc n) h = ap (λ (b : ℕ). b ∷ memory.bytes_at k (a + 1) n) (h a) ∙ ap (λ (bs : List ℕ). memory.byte_at m a ∷ bs) (bytes_same m k (a + 1) n h)

-- touching pages changes no byte
pub bytes_at_touch_range : (m : memory.State) (a n b k : ℕ) → memory.bytes_at (memory.touch_range m a n) b k ≡ memory.bytes_at m b k
bytes_at_touch_range m a n b k = bytes_same m (memory.touch_range m a n) b k (λ x. byte_at_touch_pages m (a / 4096) (memory.span a n) x)
