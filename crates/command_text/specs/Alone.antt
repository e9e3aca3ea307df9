-- The name, the number or the kind of a line that says no more.
use Rattle.std.specs.Prelude.{ℕ, List, [], ◌∷◌, Option, None}
use Rattle.farm_kinds.specs.declared.kinds.Kind.{Kind}
use Rattle.farm_kinds.specs.Kinds.{kind_named}
use Rattle.farm_kinds.specs.Names.{name_read}
use Rattle.farm_model.specs.Numbers.{number_of}

abbrev pub name_alone : List (List ℕ) → Option (List ℕ)
name_alone (name ∷ []) = name_read name
name_alone ws = None

abbrev pub number_alone : List (List ℕ) → Option ℕ
number_alone (number ∷ []) = number_of number
number_alone ws = None

abbrev pub kind_alone : List (List ℕ) → Option Kind
kind_alone (kind ∷ []) = kind_named kind
kind_alone ws = None
