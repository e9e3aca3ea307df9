-- What of the two files of a package is skipped, or is otherwise than one may think who wrote it (Kattis problem package
-- format, legacy, "Problem Metadata"; DOMjudge manual, "Problem package format").
use Rattle.std.specs.Prelude.{ℕ, List, [], ◌∷◌, ◌++◌, map, Bool, true, false, if◌then◌else◌, nat_lt, Option, Some, None}
use Rattle.problem_settings.specs.declared.sizes.Sizes.{Sizes}
use Rattle.problem_settings.specs.declared.skipped.Section.{Section}
use Rattle.problem_settings.specs.declared.skipped.Section.TheVariants as section
use Rattle.problem_settings.specs.declared.skipped.SkippedKey.{SkippedKey}
use Rattle.problem_settings.specs.Skipped.{yaml_skipped, said_limits, ini_skipped, has_limit}
use Rattle.package_notes.specs.declared.notes.Note.{Note}
use Rattle.package_notes.specs.declared.notes.Note.TheVariants as note

-- ---- problem.yaml

abbrev pub yaml_key : Section → ℕ → List ℕ → Note
yaml_key section.Top line name = note.YamlKey line name
yaml_key section.Limits line name = note.LimitKey line name

abbrev pub yaml_note : SkippedKey → Note
yaml_note skipped = yaml_key skipped.section skipped.line skipped.key

-- what is said of memory, in MiB, is more than there is
abbrev pub memory_notes : Option ℕ → List Note
memory_notes None = []
memory_notes (Some said) = if nat_lt 256 said then note.Memory said ∷ [] else []

-- and of output
abbrev pub output_notes : Option ℕ → List Note
output_notes None = []
output_notes (Some said) = if nat_lt 64 said then note.Output said ∷ [] else []

abbrev pub limit_notes : Sizes → List Note
limit_notes sizes = memory_notes sizes.memory ++ output_notes sizes.output

-- each key that is not read, in the order of the lines, and then the limits that are cut down
abbrev pub yaml_notes : List ℕ → List Note
yaml_notes text = map yaml_note (yaml_skipped text) ++ limit_notes (said_limits text)

-- ---- domjudge-problem.ini

abbrev pub ini_note : SkippedKey → Note
ini_note skipped = note.IniKey skipped.line skipped.key

abbrev pub time_notes : Bool → List Note
time_notes true = []
time_notes false = note.StandardTime ∷ []

-- each key that is not read, in the order of the lines, and then that nothing sets the time limit
abbrev pub ini_notes : List ℕ → List Note
ini_notes text = map ini_note (ini_skipped text) ++ time_notes (has_limit text)

-- the file need not be there
abbrev pub ini_notes_in : Option (List ℕ) → List Note
ini_notes_in None = note.StandardTime ∷ []
ini_notes_in (Some text) = ini_notes text
