-- Texts that are written whole, or in part.
use Rattle.std.specs.Prelude.{◌≡◌, ◌≢◌, ℕ, ◌≤◌, List, Option, Result, Ok, Err}
use Rattle.std.specs.Io.KnownBytes.{Appends}
use mathlib.Core.List.{IsPrefix}
use Rattle.farm_io.specs.Streams.{Rose}
use Rattle.contest_server.specs.declared.lines.TextFault.{TextFault}
use Rattle.contest_server.specs.declared.lines.TextFault.TheVariants as fault

-- a prefix of a text was written
pub record WritesPrefix (old new : Option (List ℕ)) (text : List ℕ) : Type 0 where
  pub bytes : List ℕ
  pub prefix : IsPrefix bytes text
  pub wrote : Appends old new bytes

-- the text was written; or a prefix of it, where the output failed; or nothing, where memory was wanting
abbrev pub PutsText : Option (List ℕ) → Option (List ℕ) → List ℕ → Result (Unit {0}) TextFault → Type 0
PutsText old new text (Ok u) = Appends old new text
PutsText old new text (Err fault.WriteFault) = WritesPrefix old new text
PutsText old new text (Err fault.NoMemory) = new ≡ old

-- the count of faults never falls, and rises where a text could not be put, and at nothing else
pub record HasCauseTold (before now : ℕ) (result : Result (Unit {0}) TextFault) : Type 0 where
  pub later : before ≤ now
  pub failed : result ≡ Err fault.WriteFault → Rose before now
  pub kept : result ≢ Err fault.WriteFault → now ≡ before
