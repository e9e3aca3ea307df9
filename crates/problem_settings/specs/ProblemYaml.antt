-- What `problem.yaml` says (Kattis problem package format, legacy, "Problem Metadata").
use Rattle.std.specs.Prelude.{◌≡◌, ℕ, ◌+◌, ◌<◌, ◌==◌, List, [], ◌∷◌, Bool, false, ◌&&◌, ◌||◌, nat_lt, if◌then◌else◌, min, length, Option, Some, None, is_some, is_none, unwrap_or, Result, Ok, Err, IsOkAnd, codes}
use Rattle.std.specs.Str.{bytes_eq}
use Rattle.problem_settings.specs.declared.keys.Key.{Key}
use Rattle.problem_settings.specs.declared.keys.Key.TheVariants.{Name, Validation, Flags, Limits}
use Rattle.problem_settings.specs.declared.sizes.Sizes.{Sizes}
use Rattle.problem_settings.specs.declared.yaml.Yaml.{Yaml}
use Rattle.problem_settings.specs.declared.yaml.Validation.{Validation as Check}
use Rattle.problem_settings.specs.declared.yaml.Validation.TheVariants.{Default, Custom}
use Rattle.problem_settings.specs.declared.yaml.BadLine.{BadLine}
use Rattle.problem_settings.specs.declared.yaml.YamlFault.{YamlFault}
use Rattle.problem_settings.specs.declared.yaml.YamlFault.TheVariants.{Bad, NoMemory}
use Rattle.problem_settings.specs.declared.yaml.YamlWhy.{YamlWhy}
use Rattle.problem_settings.specs.declared.yaml.YamlWhy.TheVariants.{Tab, Indent, NoColon, Repeated, BadValue, Interactive, Score}
use Rattle.problem_settings.specs.Lines.{LineValue, is_blank, lines_of}
use Rattle.problem_settings.specs.Fields.{Field, is_empty, is_indented, indent_of, has_tab, content_of, is_item, ends_word, after_spaces, field_of}
use Rattle.problem_settings.specs.Scalars.{scalar_of}
use Rattle.problem_settings.specs.Entries.{Entry, entries, fault_at, bad, at_line, stray, said_unless, alone, and_then}
use Rattle.problem_settings.specs.Sizes.{no_sizes, block_sizes, line_sizes}

abbrev pub key_named : List ℕ → Option Key
key_named key =
    if bytes_eq key (codes "name") then Some Name
    else (if bytes_eq key (codes "validation") then Some Validation
    else (if bytes_eq key (codes "validator_flags") then Some Flags
    else (if bytes_eq key (codes "limits") then Some Limits else None)))

-- ---- name

-- a line under `name:` has its value, or is the value itself
abbrev pub value_in : List ℕ → Option Field → List ℕ
value_in content None = content
value_in content (Some field) = field.value

abbrev pub name_in : List ℕ → Result (List ℕ) YamlWhy
name_in text = if has_tab text then Err Tab else scalar_of (value_in (content_of text) (field_of (content_of text)))

-- the fault of further lines there: they say nothing, and are indented at least as much as the first
abbrev pub shallow_in : ℕ → List LineValue → Option BadLine
shallow_in depth [] = None
shallow_in depth (line ∷ lines) =
    if has_tab line.text then Some (fault_at line Tab)
    else (if nat_lt (indent_of line.text) depth then Some (fault_at line Indent) else shallow_in depth lines)

abbrev pub name_below : List LineValue → Result (List ℕ) BadLine
name_below [] = Ok []
name_below (line ∷ lines) =
    and_then (said_unless (shallow_in (indent_of line.text) lines)) (at_line line (name_in line.text))

abbrev pub name_said : Entry → List ℕ → Result (List ℕ) BadLine
name_said entry value =
    if is_blank value then name_below entry.below
    else and_then (alone entry.below) (at_line entry.head (scalar_of value))

-- ---- validation

-- what follows the word in front of the text
abbrev pub after_word : List ℕ → List ℕ → Option (List ℕ)
after_word [] text = if ends_word text then Some text else None
after_word (w ∷ ws) [] = None
after_word (w ∷ ws) (b ∷ bs) = if b == w then after_word ws bs else None

abbrev pub begins_with : List ℕ → List ℕ → Bool
begins_with word text = is_some (after_word word text)

-- what `custom` says with what follows it
abbrev pub custom_with : Option (List ℕ) → Result Check YamlWhy
custom_with None = Err BadValue
custom_with (Some rest) =
    if begins_with (codes "interactive") (after_spaces rest) then Err Interactive
    else (if begins_with (codes "score") (after_spaces rest) then Err Score else Ok Custom)

abbrev pub validation_named : List ℕ → Result Check YamlWhy
validation_named text =
    if is_empty text || bytes_eq text (codes "default") then Ok Default
    else custom_with (after_word (codes "custom") text)

abbrev pub validation_said : Entry → List ℕ → Result Check BadLine
validation_said entry value =
    and_then (alone entry.below) (at_line entry.head (and_then validation_named (scalar_of value)))

-- ---- flags and limits

abbrev pub flags_said : Entry → List ℕ → Result (List ℕ) BadLine
flags_said entry value = and_then (alone entry.below) (at_line entry.head (scalar_of value))

abbrev pub sizes_said : Entry → List ℕ → Result Sizes BadLine
sizes_said entry value =
    if is_blank value then block_sizes entry.below
    else and_then (alone entry.below) (at_line entry.head (line_sizes value))

-- ---- the whole text

-- a key that is not known takes the indented lines and the items of a list behind it along
abbrev pub is_unknown_key : Option Field → Bool
is_unknown_key None = false
is_unknown_key (Some field) = is_none (key_named field.key)

abbrev pub belongs : LineValue → LineValue → Bool
belongs head line = is_indented line.text || (is_unknown_key (field_of head.text) && is_item line.text)

-- what the entries say so far
pub record Said : Type 0 where
  pub name : Option (List ℕ)
  pub validation : Option Check
  pub flags : Option (List ℕ)
  pub sizes : Option Sizes

abbrev pub nothing : Said
nothing = record { name = None; validation = None; flags = None; sizes = None }

abbrev pub with_key : Option Key → Said → Entry → List ℕ → Result Said BadLine
with_key None said entry value = Ok said
with_key (Some Name) said entry value =
    if is_some said.name then bad entry.head Repeated
    else and_then (λ name. Ok record said { name = Some name }) (name_said entry value)
with_key (Some Validation) said entry value =
    if is_some said.validation then bad entry.head Repeated
    else and_then (λ check. Ok record said { validation = Some check }) (validation_said entry value)
with_key (Some Flags) said entry value =
    if is_some said.flags then bad entry.head Repeated
    else and_then (λ flags. Ok record said { flags = Some flags }) (flags_said entry value)
with_key (Some Limits) said entry value =
    if is_some said.sizes then bad entry.head Repeated
    else and_then (λ sizes. Ok record said { sizes = Some sizes }) (sizes_said entry value)

abbrev pub with_field : Said → Entry → Option Field → Result Said BadLine
with_field said entry None = bad entry.head NoColon
with_field said entry (Some field) = with_key (key_named field.key) said entry field.value

abbrev pub with_entry : Said → Entry → Result Said BadLine
with_entry said entry =
    if is_indented entry.head.text then bad entry.head (stray entry.head.text)
    else with_field said entry (field_of entry.head.text)

abbrev pub said_from : Said → List Entry → Result Said BadLine
said_from said [] = Ok said
said_from said (entry ∷ others) = and_then (λ said. said_from said others) (with_entry said entry)

-- a size in MiB: the default where none is said, and never more than the most
abbrev pub capped : ℕ → ℕ → Option ℕ → ℕ
capped most default said = min most (unwrap_or said default)

abbrev pub yaml_with : Said → Sizes → Yaml
yaml_with said sizes = record {
  name = unwrap_or said.name [];
  validation = unwrap_or said.validation Default;
  flags = unwrap_or said.flags [];
  memory = capped 256 64 sizes.memory;
  output = capped 64 8 sizes.output;
}

-- with the defaults of what is not said
abbrev pub yaml_in : Said → Yaml
yaml_in said = yaml_with said (unwrap_or said.sizes no_sizes)

unfoldable pub yaml_of : List ℕ → Result Yaml BadLine
yaml_of text = and_then (λ said. Ok (yaml_in said)) (said_from nothing (entries belongs (lines_of text)))

-- the answer is what the text says; out of memory only where it has no fault, and a name or flags to keep
abbrev pub Reads : Result Yaml BadLine → Result Yaml YamlFault → Type 0
Reads said (Ok yaml) = said ≡ Ok yaml
Reads said (Err (Bad line why)) = said ≡ Err record { line = line; why = why }
Reads said (Err NoMemory) = IsOkAnd said (λ yaml. 0 < length yaml.name + length yaml.flags)
