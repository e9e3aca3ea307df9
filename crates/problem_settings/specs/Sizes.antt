-- The sizes under `limits`: memory and output, in MiB.
use Rattle.std.specs.Prelude.{ℕ, ◌+◌, List, [], ◌∷◌, length, Bool, true, false, ◌||◌, not, ◌==◌, nat_lt, if◌then◌else◌, Option, Some, None, is_some, is_none, Result, Ok, Err, codes, take}
use Rattle.std.specs.Str.{bytes_eq}
use Rattle.std.specs.Option.{option_and_then}
use Rattle.problem_settings.specs.declared.sizes.Size.{Size}
use Rattle.problem_settings.specs.declared.sizes.Size.TheVariants.{Memory, Output}
use Rattle.problem_settings.specs.declared.sizes.Sizes.{Sizes}
use Rattle.problem_settings.specs.declared.yaml.BadLine.{BadLine}
use Rattle.problem_settings.specs.declared.yaml.YamlWhy.{YamlWhy}
use Rattle.problem_settings.specs.declared.yaml.YamlWhy.TheVariants.{Tab, Indent, NoColon, Repeated, Form, BadValue}
use Rattle.problem_settings.specs.Lines.{LineValue, parts}
use Rattle.problem_settings.specs.Fields.{Field, is_empty, place_from, indent_of, has_tab, content_of, field_of, after_spaces, trimmed}
use Rattle.problem_settings.specs.Scalars.{begins_form, plain_text, scalar_of, number_of_digits, within}
use Rattle.problem_settings.specs.Entries.{Entry, entries, at_line, and_then}

abbrev pub size_named : List ℕ → Option Size
size_named key =
    if bytes_eq key (codes "memory") then Some Memory
    else (if bytes_eq key (codes "output") then Some Output else None)

abbrev pub no_sizes : Sizes
no_sizes = record { memory = None; output = None }

abbrev pub said_of : Size → Sizes → Option ℕ
said_of Memory sizes = sizes.memory
said_of Output sizes = sizes.output

abbrev pub with_number : Size → ℕ → Sizes → Sizes
with_number Memory n sizes = record { memory = Some n; output = sizes.output }
with_number Output n sizes = record { memory = sizes.memory; output = Some n }

-- a whole number of MiB from 1 to 1000000
abbrev pub mebibytes_of : List ℕ → Option ℕ
mebibytes_of text = option_and_then (within 1 1000000) (number_of_digits text)

abbrev pub with_said : Size → Sizes → Option ℕ → Result Sizes YamlWhy
with_said size sizes None = Err BadValue
with_said size sizes (Some n) = Ok (with_number size n sizes)

-- the sizes with this value too; a key that names no size is skipped
abbrev pub with_value : Option Size → Sizes → List ℕ → Result Sizes YamlWhy
with_value None sizes value = Ok sizes
with_value (Some size) sizes value =
    if is_some (said_of size sizes) then Err Repeated
    else and_then (λ text. with_said size sizes (mebibytes_of text)) (scalar_of value)

-- ---- on lines of their own

-- a key that names no size, and takes the deeper lines behind it along
abbrev pub is_unknown_size : Option Field → Bool
is_unknown_size None = false
is_unknown_size (Some field) = is_none (size_named field.key)

abbrev pub is_deeper : LineValue → LineValue → Bool
is_deeper head line =
    if is_unknown_size (field_of (content_of head.text)) then nat_lt (indent_of head.text) (indent_of line.text)
    else false

abbrev pub with_field : Sizes → Option Field → Result Sizes YamlWhy
with_field sizes None = Err NoColon
with_field sizes (Some field) = with_value (size_named field.key) sizes field.value

-- a line KEY: VALUE that is indented as the first one
abbrev pub with_line : ℕ → Sizes → List ℕ → Result Sizes YamlWhy
with_line depth sizes text =
    if has_tab text then Err Tab
    else (if indent_of text == depth then with_field sizes (field_of (content_of text)) else Err Indent)

abbrev pub block_from : ℕ → Sizes → List Entry → Result Sizes BadLine
block_from depth sizes [] = Ok sizes
block_from depth sizes (item ∷ items) =
    and_then (λ sizes. block_from depth sizes items) (at_line item.head (with_line depth sizes item.head.text))

abbrev pub block_sizes : List LineValue → Result Sizes BadLine
block_sizes [] = Ok no_sizes
block_sizes (line ∷ lines) = block_from (indent_of line.text) no_sizes (entries is_deeper (line ∷ lines))

-- ---- on one line: {KEY: VALUE, ..}

-- what stands before a closing brace that ends the text
abbrev pub closed_at : List ℕ → Option ℕ → Option (List ℕ)
closed_at text None = None
closed_at text (Some at) = if at + 1 == length text then Some (take at text) else None

-- what stands between the brace in front and the first one that closes, where that ends the text
abbrev pub before_brace : List ℕ → Option (List ℕ)
before_brace text = closed_at text (place_from 125 0 text)

-- a value that begins neither a quoted scalar nor another form
abbrev pub is_plain : List ℕ → Bool
is_plain [] = true
is_plain (b ∷ bs) = not (b == 39 || b == 34 || begins_form b)

abbrev pub with_item : Sizes → Option Field → Result Sizes YamlWhy
with_item sizes None = Err Form
with_item sizes (Some field) =
    if is_plain field.value then with_value (size_named field.key) sizes field.value else Err Form

abbrev pub items_from : Sizes → List (List ℕ) → Result Sizes YamlWhy
items_from sizes [] = Ok sizes
items_from sizes (item ∷ items) =
    and_then (λ sizes. items_from sizes items) (with_item sizes (field_of (trimmed (after_spaces item))))

abbrev pub items_of : Option (List ℕ) → Result Sizes YamlWhy
items_of None = Err Form
items_of (Some inner) = if is_empty (after_spaces inner) then Ok no_sizes else items_from no_sizes (parts 44 inner)

-- a value in braces; any other is no list of sizes
abbrev pub line_sizes : List ℕ → Result Sizes YamlWhy
line_sizes [] = Err BadValue
line_sizes (b ∷ bs) =
    if b == 123 then items_of (before_brace (plain_text false bs))
    else and_then (λ _. Err BadValue) (scalar_of (b ∷ bs))
