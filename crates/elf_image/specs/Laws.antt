use Rattle.std.specs.Prelude.{◌≡◌, ℕ, ◌+◌, ◌<◌, false, List, length, slice_index, Some, None}
use Rattle.elf_image.specs.Image.{Image, IsSound, segment_at, is_in, byte_of}

-- the first bytes of each segment's memory are those of the file from its offset on
abbrev pub HasBytes : Type 0
HasBytes =
    (file : List ℕ) (e : Image) → IsSound file e → (i k : ℕ) → i < length e.segments → k < (segment_at e i).len
    → byte_of file e.segments ((segment_at e i).at + k) ≡ Some (slice_index file ((segment_at e i).offset + k))

-- no other address has a byte of the file
abbrev pub HasNoOther : Type 0
HasNoOther =
    (file : List ℕ) (e : Image) (a : ℕ) → ((i : ℕ) → i < length e.segments → is_in (segment_at e i) a ≡ false)
    → byte_of file e.segments a ≡ None
