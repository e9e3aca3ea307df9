-- JSON objects by their fields, which stand in the order of their keys' bytes.
use Rattle.std.specs.Prelude.{ℕ, List, [], ◌∷◌, codes}
use Rattle.serde_json.specs.Data.{Data, number, unsigned, string, object, Members, no_members, member}

abbrev pub members_with : List (List ℕ × Data) → Members
members_with [] = no_members
members_with (f ∷ fs) = member f.0 f.1 (members_with fs)

abbrev pub object_with : List (List ℕ × Data) → Data
object_with fields = object (members_with fields)

-- a whole number
abbrev pub whole : ℕ → Data
whole n = number (unsigned n)

-- the field that says which answer it is
abbrev pub reply_field : List ℕ → List ℕ × Data
reply_field word = (codes "reply", string word)
