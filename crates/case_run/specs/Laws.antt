-- What a machine with an executable is, before its run, in other words.
use Rattle.std.specs.Prelude.{◌≡◌, ℕ, ◌/◌, true, false, List, Some, None, unwrap_or, Result, Ok}
use Rattle.farm_kinds.specs.declared.Limits.{Limits}
use Rattle.farm_kinds.specs.declared.NoMemory.{NoMemory}
use Rattle.elf_image.specs.Image.{Image, elf_of, byte_of}
use Rattle.rv_memory.specs.Paged.{State, byte_at, is_touched}
use Rattle.rv_machine.specs.declared.ending.Ending.{Ending}
use Rattle.rv_machine.specs.declared.ending.Ending.TheVariants.{Memory}
use Rattle.rv_machine.specs.Inputs.{Inputs}
use Rattle.rv_machine.specs.Running.{Run, finish_of}
use Rattle.rv_machine.specs.Stepping as stepping
use Rattle.case_run.specs.Images.{opened, with_segments}

-- a file without a fault is opened as a machine with its segments
abbrev pub OpensExecutable : Type 0
OpensExecutable =
    (file : List ℕ) (elf : Image) (limits : Limits) (inputs : Inputs) → elf_of file ≡ Ok elf
    → opened file limits inputs ≡ with_segments file elf limits inputs

-- the run has not ended before its first instruction: the pages of the segments were within the limit
abbrev pub Fits : Run → Type 0
Fits run = run.answer ≡ None

abbrev pub memory_of : Run → State
memory_of run = run.state.hart.memory

-- each address has the byte of the file that belongs there, and 0 where none does
abbrev pub HasBytesOfFile : Type 0
HasBytesOfFile =
    (file : List ℕ) (elf : Image) (limits : Limits) (inputs : Inputs) → elf_of file ≡ Ok elf
    → Fits (with_segments file elf limits inputs)
    → (a : ℕ) → byte_at (memory_of (with_segments file elf limits inputs)) a ≡ unwrap_or (byte_of file elf.segments a) 0

-- a page with an address of a byte of the file was touched
abbrev pub TouchesPagesOfBytes : Type 0
TouchesPagesOfBytes =
    (file : List ℕ) (elf : Image) (limits : Limits) (inputs : Inputs) → elf_of file ≡ Ok elf
    → Fits (with_segments file elf limits inputs)
    → (a b : ℕ) → byte_of file elf.segments a ≡ Some b
    → is_touched (memory_of (with_segments file elf limits inputs)) (a / 4096) ≡ true

-- no page was touched of which no address has a byte of the executable
abbrev pub TouchesNoOther : Type 0
TouchesNoOther =
    (file : List ℕ) (elf : Image) (limits : Limits) (inputs : Inputs) → elf_of file ≡ Ok elf
    → Fits (with_segments file elf limits inputs)
    → (p : ℕ) → ((a : ℕ) → a / 4096 ≡ p → byte_of file elf.segments a ≡ None)
    → is_touched (memory_of (with_segments file elf limits inputs)) p ≡ false

-- the state with another memory
abbrev pub with_memory : stepping.State → State → stepping.State
with_memory s m = record s { hart = record s.hart { memory = m } }

-- all but the memory is as at every start, and the program begins at the entry
abbrev pub StartsAtEntry : Type 0
StartsAtEntry =
    (file : List ℕ) (elf : Image) (limits : Limits) (inputs : Inputs) → elf_of file ≡ Ok elf
    → (with_segments file elf limits inputs).state
    ≡ with_memory (stepping.start elf.entry limits inputs) (memory_of (with_segments file elf limits inputs))

-- where it does not fit, the run ends for want of pages
abbrev pub EndsForMemory : Type 0
EndsForMemory =
    (file : List ℕ) (elf : Image) (limits : Limits) (inputs : Inputs) → elf_of file ≡ Ok elf
    → (answer : Result Ending NoMemory)
    → (with_segments file elf limits inputs).answer ≡ Some answer
    → (finish_of (with_segments file elf limits inputs)).ending ≡ Memory

-- and that run costs nothing
abbrev pub CostsNothing : Type 0
CostsNothing =
    (file : List ℕ) (elf : Image) (limits : Limits) (inputs : Inputs) → elf_of file ≡ Ok elf
    → (answer : Result Ending NoMemory)
    → (with_segments file elf limits inputs).answer ≡ Some answer
    → (finish_of (with_segments file elf limits inputs)).state.cost ≡ 0
