-- Lines, and the lines that belong to them.
use Rattle.std.specs.Prelude.{ℕ, List, [], ◌∷◌, ◌++◌, Bool, if◌then◌else◌, Option, Some, None, Result, Ok, Err}
use Rattle.problem_settings.specs.declared.yaml.BadLine.{BadLine}
use Rattle.problem_settings.specs.declared.yaml.YamlWhy.{YamlWhy}
use Rattle.problem_settings.specs.declared.yaml.YamlWhy.TheVariants.{Tab, Indent}
use Rattle.problem_settings.specs.Lines.{LineValue}
use Rattle.problem_settings.specs.Fields.{has_tab}

pub record Entry : Type 0 where
  pub head : LineValue
  pub below : List LineValue

-- the entries, where the first has this head and these lines below it so far
abbrev pub entries_after
    : (LineValue → LineValue → Bool) → LineValue → List LineValue → List LineValue → List Entry
entries_after belongs head below [] = record { head = head; below = below } ∷ []
entries_after belongs head below (line ∷ lines) =
    if belongs head line then entries_after belongs head (below ++ line ∷ []) lines
    else record { head = head; below = below } ∷ entries_after belongs line [] lines

-- a line that belongs to the head before it stands below that; another begins an entry
abbrev pub entries : (LineValue → LineValue → Bool) → List LineValue → List Entry
entries belongs [] = []
entries belongs (line ∷ lines) = entries_after belongs line [] lines

-- ---- faults of lines

abbrev pub fault_at : LineValue → YamlWhy → BadLine
fault_at line why = record { line = line.number; why = why }

abbrev pub bad : {A : Type 0} → LineValue → YamlWhy → Result A BadLine
bad line why = Err (fault_at line why)

-- what a line says, or why it is faulty
abbrev pub at_line : {A : Type 0} → LineValue → Result A YamlWhy → Result A BadLine
at_line line (Ok said) = Ok said
at_line line (Err why) = bad line why

-- why an indented line may not stand there
abbrev pub stray : List ℕ → YamlWhy
stray text = if has_tab text then Tab else Indent

-- the fault of these lines, of which none may stand there
abbrev pub stray_in : List LineValue → Option BadLine
stray_in [] = None
stray_in (line ∷ lines) = Some (fault_at line (stray line.text))

abbrev pub said_unless : {A : Type 0} → Option BadLine → A → Result A BadLine
said_unless None said = Ok said
said_unless (Some fault) said = Err fault

-- what is said, where no line stands below it
abbrev pub alone : {A : Type 0} → List LineValue → A → Result A BadLine
alone lines said = said_unless (stray_in lines) said

abbrev pub and_then : {A B E : Type 0} → (A → Result B E) → Result A E → Result B E
and_then next (Ok said) = next said
and_then next (Err fault) = Err fault
