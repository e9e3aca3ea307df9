-- A journal is opened.
use Rattle.std.proofs.Common.{◌≡◌, ◌≢◌, ◌⊎◌, inl, inr, ℕ, ◌+◌, ◌*◌, ◌<◌, ◌≤◌, List, [], ◌∷◌, ◌++◌, length, get_or, take, drop, refl, sym, ◌∙◌, ap, subst, arith}
use Rattle.std.proofs.lemmas.List.{append-nil, drop_more}
use Rattle.record_store.specs.Model.{overlaid}
use Rattle.record_store.specs.Held.{held, Torn, IsRecordPrefix, IsClosedAt, IsRead, IsNext}
use Rattle.record_store.proofs.Prefixes.{short_end, nil_prefix, prefix_next}
use Rattle.record_store.proofs.Steps.{prefix_held}

pub three : (xs : List ℕ) → length xs ≡ 3 → xs ≡ get_or xs 0 0 ∷ get_or xs 1 0 ∷ get_or xs 2 0 ∷ []
three [] long = absurd (omega arith)
three (a ∷ []) long = absurd (omega arith)
three (a ∷ b ∷ []) long = absurd (omega arith)
three (a ∷ b ∷ c ∷ []) long = refl
three (a ∷ b ∷ c ∷ d ∷ xs) long = absurd (omega arith)

-- one byte was read
pub first_byte : (file room : List ℕ) (at : ℕ) → at < length file → room ≡ take 1 (drop at file) → get_or file at 0 ≡ get_or room 0 0
first_byte file room at inside is = sym (ap (λ (l : List ℕ). get_or l 0 0) (is ∙ ap (λ (l : List ℕ). take 1 l) (drop_more file at 0 inside)))

pub next_line : (file : List ℕ) (at low high : ℕ) (line : List ℕ) → take 3 (drop at file) ≡ 1 ∷ low ∷ high ∷ [] → at + 3 + (low + 256 * high) < length file
    → line ≡ take (low + 256 * high) (drop (at + 3) file) → length line ≡ low + 256 * high → IsNext file at line
next_line file at low high line header fits is size lines prefix = prefix_next file lines at low high line header fits is size prefix

-- all records are read
pub all_read : (file : List ℕ) (lines : List (List ℕ)) (at : ℕ) → IsRecordPrefix (take at file) lines → (at ≡ 0) ⊎ (at < length file) → held (drop at file) ≡ [] → IsRead file at lines
all_read file lines at prefix (inr inside) none = record { prefix = prefix; none = none; within = inl inside }
all_read [] lines at prefix (inl start) none = record { prefix = prefix; none = none; within = inr refl }
all_read (b ∷ file) lines at prefix (inl start) none = record { prefix = prefix; none = none; within = inl (omega arith) }

-- an empty file gets its first gate
pub empty_torn_held : (file : List ℕ) (at : ℕ) → at ≡ length file → (at < length file) ⊎ (file ≡ []) → (c : List ℕ) → Torn at 1 file c → held c ≡ held file
empty_torn_held file at is (inl inside) c torn = absurd (omega arith)
empty_torn_held [] at is (inr none) c torn = short_end c (let a = torn.no_longer in omega arith)
empty_torn_held (b ∷ file) at is (inr none) c torn = absurd (cc)

empty_done : (new : List ℕ) → new ≡ overlaid [] 0 (0 ∷ []) → IsClosedAt new [] 0
empty_done new is = subst (λ (f : List ℕ). IsClosedAt f [] 0) (sym is) (record { prefix = nil_prefix; inside = omega arith; gate = omega arith })

pub empty_closed : (file new : List ℕ) (at : ℕ) → at ≡ length file → (at < length file) ⊎ (file ≡ []) → new ≡ overlaid file at (0 ∷ []) → IsClosedAt new (held file) at
empty_closed file new at is (inl inside) done = absurd (omega arith)
empty_closed [] new at is (inr none) done = subst (λ (k : ℕ). IsClosedAt new [] k) (sym is) (empty_done new (subst (λ (k : ℕ). new ≡ overlaid [] k (0 ∷ [])) is done))
empty_closed (b ∷ file) new at is (inr none) done = absurd (cc)

-- the lines that were read are those that are held
pub read_held : (file : List ℕ) (lines : List (List ℕ)) (at : ℕ) → at ≤ length file → IsRead file at lines → lines ≡ held file
read_held file lines at within is = held_is file lines at within is is.within
  where
    held_is : (file : List ℕ) (lines : List (List ℕ)) (at : ℕ) → at ≤ length file → IsRead file at lines → (at < length file) ⊎ (file ≡ []) → lines ≡ held file
    held_is file lines at within is (inl inside) = sym (prefix_held file lines at is.prefix inside is.none)
    held_is [] lines at within is (inr none) =
        let start : at ≡ 0 = omega arith in
        let prefix : IsRecordPrefix [] lines = subst (λ (k : ℕ). IsRecordPrefix (take k []) lines) start is.prefix in
        let some : lines ++ [] ≡ [] = sym (prefix.reads (0 ∷ []) (omega arith)) in
        sym (append-nil lines) ∙ some
    held_is (b ∷ file) lines at within is (inr none) = absurd (cc)

pub read_as_held : (file : List ℕ) (lines : List (List ℕ)) (at : ℕ) → at ≤ length file → IsRead file at lines → IsRead file at (held file)
read_as_held file lines at within is = subst (IsRead file at) (read_held file lines at within is) is

-- any other gate behind the records is closed as it is
pub open_closed : (file : List ℕ) (at : ℕ) → IsRead file at (held file) → at < length file → get_or file at 0 ≢ 1 → IsClosedAt file (held file) at
open_closed file at is inside shut = record { prefix = is.prefix; inside = inside; gate = shut }
