use Rattle.std.proofs.Common.{◌≡◌, ℕ, zero, suc, ◌+◌, ◌-◌, ◌<◌, ◌≤◌, false, true, List, [], ◌∷◌, length, get_or, slice_index, Some, None, refl, arith}
use Rattle.elf_image.specs.declared.segment.Segment.{Segment}
use Rattle.elf_image.specs.Segments.{meets}
use Rattle.elf_image.specs.Image.{no_segment, is_in, byte_of}
use Rattle.elf_image.specs.Laws.{HasBytes, HasNoOther}

here : (file : List ℕ) (s : Segment) (rest : List Segment) (k : ℕ) → k < s.len → byte_of file (s ∷ rest) (s.at + k) ≡ Some (slice_index file (s.offset + k))
here file s rest k h =
    let t : is_in s (s.at + k) ≡ true = grind arith in
    let d : s.at + k - s.at ≡ k = omega arith in
    rw t (rw d refl)

-- an address of a segment's bytes is none of another's
other : (s t : Segment) (k : ℕ) → t.len ≤ t.size → s.len ≤ s.size → meets t s ≡ false → k < t.len → is_in s (t.at + k) ≡ false
other s t k sized sized' apart h = grind arith

bytes_of : (file : List ℕ) (xs : List Segment)
    → ((i : ℕ) → i < length xs → (get_or xs i no_segment).len ≤ (get_or xs i no_segment).size)
    → ((i j : ℕ) → i < j → j < length xs → meets (get_or xs j no_segment) (get_or xs i no_segment) ≡ false)
    → (i k : ℕ) → i < length xs → k < (get_or xs i no_segment).len
    → byte_of file xs ((get_or xs i no_segment).at + k) ≡ Some (slice_index file ((get_or xs i no_segment).offset + k))
bytes_of file [] sized apart i k l h = absurd (omega arith)
bytes_of file (s ∷ rest) sized apart zero k l h = here file s rest k h
bytes_of file (s ∷ rest) sized apart (suc i) k l h =
    let t : Segment = get_or rest i no_segment in
    let no : is_in s (t.at + k) ≡ false = other s t k (sized (suc i) l) (sized 0 (omega arith)) (apart 0 (suc i) (omega arith) l) h in
    rw no (bytes_of file rest (λ m n. sized (suc m) (omega arith)) (λ m n f g. apart (suc m) (suc n) (omega arith) (omega arith)) i k (omega arith) h)

pub has_bytes : HasBytes
has_bytes file e w i k l h = bytes_of file e.segments (λ m n. (w.placed m n).sized) w.apart i k l h

none_of : (file : List ℕ) (xs : List Segment) (a : ℕ) → ((i : ℕ) → i < length xs → is_in (get_or xs i no_segment) a ≡ false) → byte_of file xs a ≡ None
none_of file [] a outside = refl
none_of file (s ∷ rest) a outside =
    let first : is_in s a ≡ false = outside 0 (omega arith) in
    rw first (none_of file rest a (λ i l. outside (suc i) (omega arith)))

pub has_no_other : HasNoOther
has_no_other file e a outside = none_of file e.segments a outside
