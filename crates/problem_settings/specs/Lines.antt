-- The lines of a text that are read.
use Rattle.std.specs.Prelude.{ℕ, ◌+◌, List, [], ◌∷◌, Bool, true, ◌&&◌, ◌||◌, not, ◌==◌, if◌then◌else◌, codes, drop, filter, length, nat_eq, Option, Some, None}
use Rattle.std.specs.Borrow.{Bor}
use Rattle.std.specs.List.{starts_with}
use Rattle.std.specs.Io.BufRead.{strip_last}
use Rattle.std.specs.Str.{bytes_eq}

-- the byte stands in front of the first part
abbrev pub onto_first : ℕ → List (List ℕ) → List (List ℕ)
onto_first b [] = (b ∷ []) ∷ []
onto_first b (part ∷ others) = (b ∷ part) ∷ others

-- what stands between the bytes that are the separator
abbrev pub parts : ℕ → List ℕ → List (List ℕ)
parts sep [] = [] ∷ []
parts sep (b ∷ bs) = if b == sep then [] ∷ parts sep bs else onto_first b (parts sep bs)

-- a byte order mark in front is dropped
abbrev pub without_mark : List ℕ → List ℕ
without_mark text = if starts_with nat_eq text (239 ∷ 187 ∷ 191 ∷ []) then drop 3 text else text

-- a CR at the end is dropped
abbrev pub without_cr : List ℕ → List ℕ
without_cr text = strip_last 13 text

pub record LineValue : Type 0 where
  pub number : ℕ
  pub text : List ℕ

-- the lines, the first of which has this number
abbrev pub numbered : ℕ → List (List ℕ) → List LineValue
numbered n [] = []
numbered n (text ∷ others) = record { number = n; text = without_cr text } ∷ numbered (n + 1) others

-- nothing but spaces, or a comment past them
abbrev pub is_blank : List ℕ → Bool
is_blank [] = true
is_blank (b ∷ bs) = if b == 32 then is_blank bs else b == 35

-- the first line begins the document
abbrev pub is_start : LineValue → Bool
is_start line = line.number == 1 && bytes_eq line.text (codes "---")

abbrev pub is_read : LineValue → Bool
is_read line = not (is_blank line.text || is_start line)

-- the lines that are read, from this number on
abbrev pub lines_from : ℕ → List (List ℕ) → List LineValue
lines_from n texts = filter is_read (numbered n texts)

abbrev pub lines_of : List ℕ → List LineValue
lines_of text = lines_from 1 (parts 10 (without_mark text))

-- the parts of what stands behind a separator
abbrev pub parts_behind : ℕ → Option (Bor (List ℕ)) → List (List ℕ)
parts_behind sep None = []
parts_behind sep (Some text) = parts sep text.now

-- the bytes behind a separator, and the separator
abbrev pub size_behind : Option (Bor (List ℕ)) → ℕ
size_behind None = 0
size_behind (Some text) = length text.now + 1
