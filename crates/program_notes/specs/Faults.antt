-- Why the bytes of a file are no image of a program (System V ABI, "Object Files"), as one who built it wants to know it.
use Rattle.std.specs.Prelude.{ℕ, List, length, Bool, ◌&&◌, ◌||◌, nat_le, nat_lt, ◌==◌, if◌then◌else◌, Option, Some, None, Result, Ok, Err}
use Rattle.std.specs.Str.{is_utf8}
use Rattle.std.specs.List.{list_all}
use Rattle.farm_kinds.specs.Limits.{is_raw_image}
use Rattle.elf_image.specs.declared.fault.ElfFault.{ElfFault}
use Rattle.elf_image.specs.Header.{has_magic}
use Rattle.elf_image.specs.Image.{Image, elf_of}
use Rattle.case_run.specs.Images.{image_limit}
use Rattle.program_notes.specs.declared.faults.ProgramFault.{ProgramFault}
use Rattle.program_notes.specs.declared.faults.ProgramFault.TheVariants as fault

-- white space, or no control character
abbrev pub is_written : ℕ → Bool
is_written b = nat_le 32 b || (nat_le 9 b && nat_le b 13)

-- a text that somebody wrote
abbrev pub is_source : List ℕ → Bool
is_source bytes = is_utf8 bytes && list_all is_written bytes

abbrev pub no_raw_image : List ℕ → ProgramFault
no_raw_image bytes =
    if length bytes == 0 then fault.Empty else if is_source bytes then fault.Source else fault.Length (length bytes)

abbrev pub raw_fault : List ℕ → Option ProgramFault
raw_fault bytes = if is_raw_image bytes then None else Some (no_raw_image bytes)

abbrev pub elf_fault : Result Image ElfFault → Option ProgramFault
elf_fault (Ok image) = None
elf_fault (Err e) = Some (fault.Elf e)

-- the fault of a file, which is a program where there is none
abbrev pub program_fault : List ℕ → Option ProgramFault
program_fault bytes =
    if nat_lt image_limit (length bytes) then Some (fault.Size (length bytes))
    else if has_magic bytes then elf_fault (elf_of bytes) else raw_fault bytes
