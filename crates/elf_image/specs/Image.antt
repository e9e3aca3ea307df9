use Rattle.std.specs.Prelude.{◌≡◌, ℕ, ◌+◌, ◌-◌, ◌%◌, ◌^◌, ◌<◌, ◌≤◌, Bool, false, not, ◌&&◌, ◌==◌, nat_lt, nat_le, if◌then◌else◌, List, [], ◌∷◌, length, get_or, slice_index, Option, Some, None, Result, Ok, Err}
use Rattle.std.specs.Option.{option_or}
use Rattle.elf_image.specs.declared.fault.ElfFault.{ElfFault}
use Rattle.elf_image.specs.declared.fault.ElfFault.TheVariants.{NoSegment, BadStart}
use Rattle.elf_image.specs.declared.segment.Segment.{Segment}
use Rattle.elf_image.specs.Header.{identification_fault, target_fault, table_fault, e_entry, e_phnum}
use Rattle.elf_image.specs.Segments.{segments, first_fault, meets}

-- ---- an executable: where it begins, and what stands where in memory

pub record Image : Type 0 where
  pub entry : ℕ
  pub segments : List Segment

abbrev pub image : List ℕ → Image
image file = record { entry = e_entry file; segments = segments file (e_phnum file) }

-- instructions stand at multiples of 4
abbrev pub start_fault : Image → Option ElfFault
start_fault e =
    if length e.segments == 0 then Some NoSegment
    else if not (e.entry % 4 == 0) then Some (BadStart e.entry)
    else None

-- what is wrong with the file: the first that is, in this order
abbrev pub fault_of : List ℕ → Option ElfFault
fault_of file =
    option_or (identification_fault file)
    (option_or (target_fault file)
    (option_or (table_fault file) (option_or (first_fault file (e_phnum file)) (start_fault (image file)))))

abbrev pub or_fault : Image → Option ElfFault → Result Image ElfFault
or_fault e None = Ok e
or_fault e (Some f) = Err f

abbrev pub elf_of : List ℕ → Result Image ElfFault
elf_of file = or_fault (image file) (fault_of file)

-- ---- what holds of an executable that has no fault

abbrev pub no_segment : Segment
no_segment = record { at = 0; offset = 0; len = 0; size = 0 }

abbrev pub segment_at : Image → ℕ → Segment
segment_at e i = get_or e.segments i no_segment

-- the bytes of a segment lie in the file, and its memory below 2^32
pub record IsPlaced (file : List ℕ) (s : Segment) : Type 0 where
  pub in_file : s.offset + s.len ≤ length file
  pub sized : s.len ≤ s.size
  pub in_memory : s.at + s.size ≤ 2 ^ 32

pub record IsSound (file : List ℕ) (e : Image) : Type 0 where
  pub start : e.entry % 4 ≡ 0
  pub some : 0 < length e.segments
  pub few : length e.segments ≤ 16
  pub placed : (i : ℕ) → i < length e.segments → IsPlaced file (segment_at e i)
  pub apart : (i j : ℕ) → i < j → j < length e.segments → meets (segment_at e j) (segment_at e i) ≡ false

-- ---- the finite map from the addresses of the segments' first bytes to the file's bytes

abbrev pub is_in : Segment → ℕ → Bool
is_in s a = nat_le s.at a && nat_lt a (s.at + s.len)

abbrev pub byte_of : List ℕ → List Segment → ℕ → Option ℕ
byte_of file [] a = None
byte_of file (s ∷ rest) a = if is_in s a then Some (slice_index file (s.offset + (a - s.at))) else byte_of file rest a
