-- A line: its indentation, its key and its value.
use Rattle.std.specs.Prelude.{ℕ, ◌+◌, ◌-◌, List, [], ◌∷◌, Bool, true, false, ◌&&◌, ◌||◌, ◌==◌, if◌then◌else◌, Option, Some, None, take, drop, length}
use Rattle.std.specs.List.{prefix_len, suffix_len}
use Rattle.std.specs.Option.{option_map}

abbrev pub is_indent : ℕ → Bool
is_indent b = b == 32 || b == 9

-- how many spaces and tabs stand in front
abbrev pub indent_of : List ℕ → ℕ
indent_of text = prefix_len is_indent text

-- a tab is among them
abbrev pub has_tab : List ℕ → Bool
has_tab [] = false
has_tab (b ∷ bs) = b == 9 || (b == 32 && has_tab bs)

-- what stands past them
abbrev pub content_of : List ℕ → List ℕ
content_of text = drop (indent_of text) text

abbrev pub is_indented : List ℕ → Bool
is_indented [] = false
is_indented (b ∷ bs) = is_indent b

abbrev pub is_empty : List ℕ → Bool
is_empty [] = true
is_empty (b ∷ bs) = false

-- the text is at its end, or at a space
abbrev pub ends_word : List ℕ → Bool
ends_word [] = true
ends_word (b ∷ bs) = b == 32

-- an item of a list in YAML: `-`, alone or before a space
abbrev pub is_item : List ℕ → Bool
is_item [] = false
is_item (b ∷ bs) = b == 45 && ends_word bs

-- without the spaces in front
abbrev pub after_spaces : List ℕ → List ℕ
after_spaces [] = []
after_spaces (b ∷ bs) = if b == 32 then after_spaces bs else b ∷ bs

abbrev pub is_space : ℕ → Bool
is_space b = b == 32

-- without the spaces at the end
abbrev pub trimmed : List ℕ → List ℕ
trimmed text = take (length text - suffix_len is_space text) text

-- the place of the first byte that is the separator, where the text begins at this place
abbrev pub place_from : ℕ → ℕ → List ℕ → Option ℕ
place_from sep at [] = None
place_from sep at (b ∷ bs) = if b == sep then Some at else place_from sep (at + 1) bs

-- the place of the first colon that is followed by a space or the end, where the text begins at this place
abbrev pub colon_from : ℕ → List ℕ → Option ℕ
colon_from at [] = None
colon_from at (b ∷ bs) = if b == 58 && ends_word bs then Some at else colon_from (at + 1) bs

pub record Field : Type 0 where
  pub key : List ℕ
  pub value : List ℕ

-- KEY: VALUE, with the spaces between them dropped
abbrev pub field_of : List ℕ → Option Field
field_of text =
    option_map (λ at. record { key = take at text; value = after_spaces (drop (at + 1) text) }) (colon_from 0 text)
