-- What the parts of a text that the reader holds stand for.
use Rattle.std.specs.Prelude.{ℕ, ◌≡◌, Result, Ok, Err, List, [], ◌∷◌, length, Bool, if◌then◌else◌, Option, Some, None, IfSome, ◌≤◌}
use Rattle.std.specs.Option.{option_map}
use Rattle.problem_settings.specs.declared.fields.Field.{Field as HeldField}
use Rattle.problem_settings.specs.declared.lines.Line.{Line}
use Rattle.problem_settings.specs.declared.lines.Lines.{Lines}
use Rattle.problem_settings.specs.declared.said.Said.{Said as HeldSaid}
use Rattle.problem_settings.specs.declared.scalars.Scalar.{Scalar}
use Rattle.problem_settings.specs.declared.scalars.Scalar.TheVariants.{Plain, Single, Double}
use Rattle.problem_settings.specs.declared.sizes.Sizes.{Sizes}
use Rattle.problem_settings.specs.Lines.{LineValue, lines_from, parts_behind}
use Rattle.problem_settings.specs.Fields.{Field, is_indented}
use Rattle.problem_settings.specs.Scalars.{single_text, double_text}
use Rattle.problem_settings.specs.Entries.{Entry}
use Rattle.problem_settings.specs.ProblemYaml.{Said, belongs}

-- what is held of an answer stands for what is said; a fault is the same
abbrev pub Says : {A B E : Type 0} → (A → B) → Result B E → Result A E → Type 0
Says view said (Ok held) = said ≡ Ok (view held)
Says view said (Err fault) = said ≡ Err fault

abbrev pub field_value : HeldField → Field
field_value field = record { key = field.key.now; value = field.value.now }

abbrev pub line_value : Line → LineValue
line_value line = record { number = line.number; text = line.text.now }

-- the first line, where there is one, and those behind it
abbrev pub lines_with : Option Line → List LineValue → List LineValue
lines_with None others = []
lines_with (Some line) others = line_value line ∷ others

abbrev pub lines_at : Lines → List LineValue
lines_at lines = lines_with lines.first (lines_from lines.number (parts_behind 10 lines.behind))

-- the text of a scalar
abbrev pub scalar_text : Scalar → List ℕ
scalar_text (Plain text) = text.now
scalar_text (Single text) = single_text text.now
scalar_text (Double text) = double_text text.now

-- how many bytes are held of it
abbrev pub scalar_size : Scalar → ℕ
scalar_size (Plain text) = length text.now
scalar_size (Single text) = length text.now
scalar_size (Double text) = length text.now

-- ---- lines below a head

-- the lines in front that pass, and those behind them
abbrev pub front : (LineValue → Bool) → List LineValue → List LineValue
front p [] = []
front p (line ∷ lines) = if p line then line ∷ front p lines else []

abbrev pub past : (LineValue → Bool) → List LineValue → List LineValue
past p [] = []
past p (line ∷ lines) = if p line then past p lines else line ∷ lines

abbrev pub is_under : LineValue → Bool
is_under line = is_indented line.text

-- the indented lines in front
abbrev pub below : List LineValue → List LineValue
below lines = front is_under lines

-- ---- what is said so far

abbrev pub said_value : HeldSaid → Said
said_value said = record {
  name = option_map scalar_text said.name;
  validation = said.validation;
  flags = option_map scalar_text said.flags;
  sizes = said.sizes;
}

-- an entry, as the reader stands behind its head
abbrev pub entry_at : Line → Lines → Entry
entry_at head lines = record { head = line_value head; below = front (belongs (line_value head)) (lines_at lines) }

-- an entry of a known key
abbrev pub known_at : Line → Lines → Entry
known_at head lines = record { head = line_value head; below = below (lines_at lines) }

-- sizes are at least 1
pub record HasSizes (sizes : Sizes) : Type 0 where
  pub memory : IfSome sizes.memory (λ n. 1 ≤ n)
  pub output : IfSome sizes.output (λ n. 1 ≤ n)
