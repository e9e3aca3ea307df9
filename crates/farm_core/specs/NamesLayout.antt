-- How names lie in memory.
use Rattle.std.specs.Str.{bytes_eq}
use Rattle.std.specs.List.{IsDistinct}
use Rattle.indexmap.specs.IndexSet.{spare}
use Rattle.farm_core.specs.NamesValue.{NamesValue}
use Rattle.farm_core.specs.declared.names.Names.TheInside.{Inside}

abbrev pub names_value : Inside → NamesValue
names_value a = record { names = a.names.keys; room = spare a.names }

-- no name stands twice
abbrev pub AreApart : Inside → Type 0
AreApart a = IsDistinct bytes_eq a.names.keys
