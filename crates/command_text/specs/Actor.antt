-- Who acts, in front of an event.
use Rattle.std.specs.Prelude.{ℕ, List, [], ◌∷◌, ◌++◌, if◌then◌else◌}
use Rattle.std.specs.Str.{bytes_eq}
use Rattle.farm_kinds.specs.Names.{jury}

-- nothing where it is the jury, else `@`, the name and a space
abbrev pub actor_text : List ℕ → List ℕ
actor_text who = if bytes_eq who jury then [] else (64 ∷ who) ++ 32 ∷ []
