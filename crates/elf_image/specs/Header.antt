use Rattle.std.specs.Prelude.{ℕ, ◌+◌, ◌*◌, Bool, not, ◌&&◌, ◌||◌, ◌==◌, nat_lt, if◌then◌else◌, List, length, slice_index, Option, Some, None}
use Rattle.elf_image.specs.declared.fault.ElfFault.{ElfFault}
use Rattle.elf_image.specs.declared.fault.ElfFault.TheVariants.{NotElf, WrongClass, WrongOrder, WrongKind, WrongMachine, BadEntrySize, TooMany, Truncated}

-- ---- System V ABI, "Object Files": "Data Representation" and "ELF Header"

-- the numbers that two and four bytes from an offset on spell, the lowest first
abbrev pub half_at : List ℕ → ℕ → ℕ
half_at file o = slice_index file o + 0x100 * slice_index file (o + 1)

abbrev pub word_at : List ℕ → ℕ → ℕ
word_at file o =
    slice_index file o + 0x100 * slice_index file (o + 1) + 0x10000 * slice_index file (o + 2)
    + 0x1000000 * slice_index file (o + 3)

-- EI_MAG0 to EI_MAG3
abbrev pub has_magic : List ℕ → Bool
has_magic file =
    slice_index file 0 == 0x7F && slice_index file 1 == 0x45 && slice_index file 2 == 0x4C && slice_index file 3 == 0x46

abbrev pub ei_class : List ℕ → ℕ
ei_class file = slice_index file 4

abbrev pub ei_data : List ℕ → ℕ
ei_data file = slice_index file 5

abbrev pub e_type : List ℕ → ℕ
e_type file = half_at file 16

abbrev pub e_machine : List ℕ → ℕ
e_machine file = half_at file 18

abbrev pub e_entry : List ℕ → ℕ
e_entry file = word_at file 24

abbrev pub e_phoff : List ℕ → ℕ
e_phoff file = word_at file 28

abbrev pub e_phentsize : List ℕ → ℕ
e_phentsize file = half_at file 42

abbrev pub e_phnum : List ℕ → ℕ
e_phnum file = half_at file 44

-- where the program header table ends
abbrev pub table_end : List ℕ → ℕ
table_end file = e_phoff file + 32 * e_phnum file

-- ---- what is wrong with a header

-- the identification is that of a little-endian ELF32 file: ELFCLASS32 and ELFDATA2LSB
abbrev pub identification_fault : List ℕ → Option ElfFault
identification_fault file =
    if nat_lt (length file) 52 || not (has_magic file) then Some NotElf
    else if not (ei_class file == 1) then Some (WrongClass (ei_class file))
    else if not (ei_data file == 1) then Some (WrongOrder (ei_data file))
    else None

-- the file is an executable (ET_EXEC) for RISC-V (EM_RISCV)
abbrev pub target_fault : List ℕ → Option ElfFault
target_fault file =
    if not (e_type file == 2) then Some (WrongKind (e_type file))
    else if not (e_machine file == 243) then Some (WrongMachine (e_machine file))
    else None

-- the program header table has entries of 32 bytes, at most 16 of them, and lies in the file
abbrev pub table_fault : List ℕ → Option ElfFault
table_fault file =
    if not (e_phentsize file == 32) then Some (BadEntrySize (e_phentsize file))
    else if nat_lt 16 (e_phnum file) then Some (TooMany (e_phnum file))
    else if nat_lt (length file) (table_end file) then Some (Truncated (table_end file))
    else None
