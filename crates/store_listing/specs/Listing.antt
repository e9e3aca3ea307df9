-- A store as text.
use Rattle.std.specs.Prelude.{◌≡◌, ◌≤◌, ◌-◌, ℕ, Bool, List, [], ◌∷◌, ◌++◌, length, take, Option, is_some, codes, IsErrOf, Result}
use Rattle.std.specs.Io.KnownBytes.{Appends}
use Rattle.record_store.specs.Model.{Rose}
use Rattle.record_store.specs.Held.{held, records_of, IsRecordPrefix}
use Rattle.stored_events.specs.Opening.{config_of, is_unborn}
use Rattle.store_listing.specs.declared.faults.ListFault.{ListFault}
use Rattle.store_listing.specs.declared.faults.ListFault.TheVariants as fault

-- each line, with a line feed behind it
abbrev pub lines_text : List (List ℕ) → List ℕ
lines_text [] = []
lines_text (line ∷ lines) = line ++ 10 ∷ lines_text lines

-- the lines of a store: the first one, which says of which configuration it is, as a comment, and each other one as a line
abbrev pub store_text : List (List ℕ) → List ℕ
store_text [] = []
store_text (config ∷ lines) = codes "# " ++ config ++ 10 ∷ lines_text lines

abbrev pub is_store_of : List ℕ → List (List ℕ) → Bool
is_store_of file [] = is_unborn file
is_store_of file (config ∷ lines) = is_some (config_of config)

-- the file is a store: its first line says a configuration, or it holds none and a crash of a first opening leaves it
abbrev pub is_store : List ℕ → Bool
is_store file = is_store_of file (held file)

-- how many bytes stand behind the records that are held
abbrev pub size_behind : List ℕ → ℕ
size_behind file = length file - length (records_of (held file))

-- a prefix of the text was put
pub record PutsPrefix (old new : Option (List ℕ)) (whole : List ℕ) : Type 0 where
  pub text : List ℕ
  pub after : List ℕ
  pub put : Appends old new text
  pub prefix : text ++ after ≡ whole

-- a text was put but for what is pending
pub record Shows (old new : Option (List ℕ)) (pending whole : List ℕ) : Type 0 where
  pub text : List ℕ
  pub put : Appends old new text
  pub both : text ++ pending ≡ whole

-- the records up to the offset have these lines
pub record IsListed (file : List ℕ) (at : ℕ) (lines : List (List ℕ)) : Type 0 where
  pub prefix : IsRecordPrefix (take at file) lines
  pub size : length (records_of lines) ≡ at

-- the counts of faults never fall, and have risen where the disk or the output failed
pub record HasListCause {A : Type 0} (disk disk' out out' : ℕ) (result : Result A ListFault) : Type 0 where
  pub disk_later : disk ≤ disk'
  pub out_later : out ≤ out'
  pub disk_failed : IsErrOf result fault.Disk → Rose disk disk'
  pub out_failed : IsErrOf result fault.WriteFault → Rose out out'
