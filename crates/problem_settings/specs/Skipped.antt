-- What is skipped of `problem.yaml` and `domjudge-problem.ini`: the keys that are not read, with the lines on which they
-- stand, in the order of these; and what is said of limits before it is cut down to the most that there is.
use Rattle.std.specs.Prelude.{ℕ, List, [], ◌∷◌, ◌++◌, Bool, false, ◌||◌, ◌==◌, if◌then◌else◌, Option, Some, None, is_none, Result, Ok, Err, codes, unwrap_or}
use Rattle.std.specs.Str.{bytes_eq}
use Rattle.std.specs.List.{list_any}
use Rattle.problem_settings.specs.declared.keys.Key.{Key}
use Rattle.problem_settings.specs.declared.keys.Key.TheVariants as key
use Rattle.problem_settings.specs.declared.sizes.Sizes.{Sizes}
use Rattle.problem_settings.specs.declared.skipped.Section.{Section}
use Rattle.problem_settings.specs.declared.skipped.Section.TheVariants as section
use Rattle.problem_settings.specs.declared.skipped.SkippedKey.{SkippedKey}
use Rattle.problem_settings.specs.declared.yaml.BadLine.{BadLine}
use Rattle.problem_settings.specs.Lines.{LineValue, is_blank, lines_of, numbered, parts, without_cr, without_mark}
use Rattle.problem_settings.specs.Fields.{Field, content_of, field_of, after_spaces, trimmed}
use Rattle.problem_settings.specs.Scalars.{plain_text}
use Rattle.problem_settings.specs.Entries.{Entry, entries}
use Rattle.problem_settings.specs.Sizes.{size_named, no_sizes, is_deeper, before_brace}
use Rattle.problem_settings.specs.ProblemYaml.{Said, key_named, belongs, nothing, said_from}
use Rattle.problem_settings.specs.DomjudgeIni.{setting_of}

abbrev pub skipped_key : Section → LineValue → List ℕ → SkippedKey
skipped_key section line name = record { line = line.number; section = section; key = name }

-- ---- below `limits`

-- the key of a line, where it names no size
abbrev pub size_skipped : LineValue → Option Field → List SkippedKey
size_skipped line None = []
size_skipped line (Some field) =
    if is_none (size_named field.key) then skipped_key section.Limits line field.key ∷ [] else []

-- on lines of their own
abbrev pub block_skipped : List Entry → List SkippedKey
block_skipped [] = []
block_skipped (item ∷ items) = size_skipped item.head (field_of (content_of item.head.text)) ++ block_skipped items

-- on one line: {KEY: VALUE, ..}
abbrev pub items_skipped : LineValue → List (List ℕ) → List SkippedKey
items_skipped line [] = []
items_skipped line (item ∷ items) = size_skipped line (field_of (trimmed (after_spaces item))) ++ items_skipped line items

abbrev pub inner_skipped : LineValue → Option (List ℕ) → List SkippedKey
inner_skipped line None = []
inner_skipped line (Some inner) = items_skipped line (parts 44 inner)

abbrev pub braces_skipped : LineValue → List ℕ → List SkippedKey
braces_skipped line [] = []
braces_skipped line (b ∷ bs) = if b == 123 then inner_skipped line (before_brace (plain_text false bs)) else []

abbrev pub limits_skipped : Entry → List ℕ → List SkippedKey
limits_skipped entry value =
    if is_blank value then block_skipped (entries is_deeper entry.below) else braces_skipped entry.head value

-- ---- problem.yaml

abbrev pub skipped_by : Option Key → Entry → Field → List SkippedKey
skipped_by None entry field = skipped_key section.Top entry.head field.key ∷ []
skipped_by (Some key.Name) entry field = []
skipped_by (Some key.Validation) entry field = []
skipped_by (Some key.Flags) entry field = []
skipped_by (Some key.Limits) entry field = limits_skipped entry field.value

abbrev pub skipped_at : Entry → Option Field → List SkippedKey
skipped_at entry None = []
skipped_at entry (Some field) = skipped_by (key_named field.key) entry field

abbrev pub skipped_from : List Entry → List SkippedKey
skipped_from [] = []
skipped_from (entry ∷ others) = skipped_at entry (field_of entry.head.text) ++ skipped_from others

unfoldable pub yaml_skipped : List ℕ → List SkippedKey
yaml_skipped text = skipped_from (entries belongs (lines_of text))

-- the limits that are said, before they are cut down; none where a line is faulty
abbrev pub limits_in : Result Said BadLine → Sizes
limits_in (Ok said) = unwrap_or said.sizes no_sizes
limits_in (Err fault) = no_sizes

unfoldable pub said_limits : List ℕ → Sizes
said_limits text = limits_in (said_from nothing (entries belongs (lines_of text)))

-- ---- domjudge-problem.ini

-- a comment: it begins with # or ; past spaces
abbrev pub begins_remark : List ℕ → Bool
begins_remark [] = false
begins_remark (b ∷ bs) = b == 35 || b == 59

abbrev pub is_remark : List ℕ → Bool
is_remark text = begins_remark (after_spaces text)

abbrev pub is_limit_key : List ℕ → Bool
is_limit_key name = bytes_eq name (codes "timelimit")

abbrev pub setting_skipped : LineValue → Option Field → List SkippedKey
setting_skipped line None = []
setting_skipped line (Some field) =
    if is_remark line.text || is_limit_key field.key then [] else skipped_key section.Top line field.key ∷ []

abbrev pub settings_skipped : List LineValue → List SkippedKey
settings_skipped [] = []
settings_skipped (line ∷ lines) = setting_skipped line (setting_of line.text) ++ settings_skipped lines

unfoldable pub ini_skipped : List ℕ → List SkippedKey
ini_skipped text = settings_skipped (numbered 1 (parts 10 (without_mark text)))

-- a line sets the time limit
abbrev pub sets_limit : Option Field → Bool
sets_limit None = false
sets_limit (Some field) = is_limit_key field.key

unfoldable pub has_limit : List ℕ → Bool
has_limit text = list_any (λ line. sets_limit (setting_of (without_cr line))) (parts 10 (without_mark text))
