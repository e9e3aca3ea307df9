-- What is an image of a program, and how its run ends: a raw image, or an ELF32 executable (System V ABI, "Object
-- Files").
use Rattle.std.specs.Prelude.{List, ℕ, Bool, ◌&&◌, nat_le, length, take, drop, fold, if◌then◌else◌, Result, Ok, Err, is_ok}
use Rattle.farm_kinds.specs.declared.Limits.{Limits}
use Rattle.farm_kinds.specs.Limits.{is_raw_image}
use Rattle.elf_image.specs.declared.fault.ElfFault.{ElfFault}
use Rattle.elf_image.specs.declared.segment.Segment.{Segment}
use Rattle.elf_image.specs.Header.{has_magic}
use Rattle.elf_image.specs.Image.{Image, elf_of}
use Rattle.rv_machine.specs.Inputs.{Inputs}
use Rattle.rv_machine.specs.Stepping.{Finish}
use Rattle.rv_machine.specs.Running.{Run, loaded, blank, placed, finish_of}

-- an image has at most 1 MiB
abbrev pub image_limit : ℕ
image_limit = 1048576

-- a file that begins as an ELF file is an executable without a fault, and any other one is a raw image
unfoldable pub is_image : List ℕ → Bool
is_image file = nat_le (length file) image_limit && (if has_magic file then is_ok (elf_of file) else is_raw_image file)

-- the bytes of a segment in the file
abbrev pub bytes_of : List ℕ → Segment → List ℕ
bytes_of file segment = take segment.len (drop segment.offset file)

abbrev pub with_segment : List ℕ → Run → Segment → Run
with_segment file run segment = placed segment.at (bytes_of file segment) run

-- a machine with the bytes of each segment at its address, and nothing else
abbrev pub with_segments : List ℕ → Image → Limits → Inputs → Run
with_segments file elf limits inputs = fold (with_segment file) (blank elf.entry limits inputs) elf.segments

abbrev pub elf_opened : List ℕ → Limits → Inputs → Result Image ElfFault → Run
elf_opened file limits inputs (Ok elf) = with_segments file elf limits inputs
elf_opened file limits inputs (Err fault) = blank 0 limits inputs

-- a machine with the program, before its run
unfoldable pub opened : List ℕ → Limits → Inputs → Run
opened file limits inputs =
    if has_magic file then elf_opened file limits inputs (elf_of file) else loaded file limits inputs

-- how the run of an image ends
abbrev pub run_of_image : List ℕ → Limits → Inputs → Finish
run_of_image file limits inputs = finish_of (opened file limits inputs)
