use Rattle.std.specs.Prelude.{ℕ, zero, suc, ◌+◌, ◌*◌, ◌^◌, Bool, ◌==◌, nat_lt, min, max, if◌then◌else◌, List, [], ◌∷◌, ◌++◌, length, Option, Some, None}
use Rattle.std.specs.List.{list_any}
use Rattle.std.specs.Option.{option_or}
use Rattle.elf_image.specs.declared.fault.ElfFault.{ElfFault}
use Rattle.elf_image.specs.declared.fault.ElfFault.TheVariants.{PastFile, FileOverSize, PastMemory, Overlap}
use Rattle.elf_image.specs.declared.segment.Segment.{Segment}
use Rattle.elf_image.specs.Header.{word_at, e_phoff}

-- ---- System V ABI, "Program Loading and Dynamic Linking": "Program Header"

-- where entry k of the program header table stands
abbrev pub entry_at : List ℕ → ℕ → ℕ
entry_at file k = e_phoff file + 32 * k

-- p_type is PT_LOAD
abbrev pub is_load : List ℕ → ℕ → Bool
is_load file k = word_at file (entry_at file k) == 1

-- p_vaddr, p_offset, p_filesz and p_memsz
abbrev pub entry : List ℕ → ℕ → Segment
entry file k =
    record {
      at = word_at file (entry_at file k + 8);
      offset = word_at file (entry_at file k + 4);
      len = word_at file (entry_at file k + 16);
      size = word_at file (entry_at file k + 20);
    }

-- ---- the segments: the PT_LOAD entries that have memory

-- some address lies in the memory of both
abbrev pub meets : Segment → Segment → Bool
meets s t = nat_lt (max s.at t.at) (min (s.at + s.size) (t.at + t.size))

-- a PT_LOAD entry is a segment where it has memory
abbrev pub with_load : List Segment → Segment → List Segment
with_load earlier s = if nat_lt 0 s.size then earlier ++ s ∷ [] else earlier

-- the segments among the first k entries of the table, in file order
abbrev pub segments : List ℕ → ℕ → List Segment
segments file zero = []
segments file (suc k) = if is_load file k then with_load (segments file k) (entry file k) else segments file k

-- how many of the first k entries are PT_LOAD ones
abbrev pub load_count : List ℕ → ℕ → ℕ
load_count file zero = 0
load_count file (suc k) = if is_load file k then load_count file k + 1 else load_count file k

-- ---- what is wrong with a PT_LOAD entry

-- the fault of an entry in a file of `length` bytes, with its number `index` among the PT_LOAD ones, behind the segments
-- `earlier`
abbrev pub load_fault : ℕ → List Segment → ℕ → Segment → Option ElfFault
load_fault length earlier index s =
    if nat_lt length (s.offset + s.len) then Some (PastFile index)
    else if nat_lt s.size s.len then Some (FileOverSize index)
    else if nat_lt (2 ^ 32) (s.at + s.size) then Some (PastMemory index)
    else if list_any (meets s) earlier then Some (Overlap index)
    else None

abbrev pub entry_fault : List ℕ → ℕ → Option ElfFault
entry_fault file k =
    if is_load file k then load_fault (length file) (segments file k) (load_count file k) (entry file k) else None

-- the first fault among the first k entries
abbrev pub first_fault : List ℕ → ℕ → Option ElfFault
first_fault file zero = None
first_fault file (suc k) = option_or (first_fault file k) (entry_fault file k)
