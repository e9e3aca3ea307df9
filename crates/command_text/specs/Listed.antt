-- The submissions that a line lists.
use Rattle.std.specs.Prelude.{ℕ, ◌<◌, List, [], length, Option, Some, Result, Ok, Err}
use Rattle.farm_kinds.specs.declared.events.Event.{Event}
use Rattle.farm_kinds.specs.declared.events.Event.TheVariants as event
use Rattle.farm_kinds.specs.declared.events.LineFault.{LineFault}

-- none but of a rejudging
abbrev pub listed : Option Event → List ℕ
listed (Some (event.Rejudge who list)) = list
listed e = []

abbrev pub listed_in : Result (Option Event) LineFault → List ℕ
listed_in (Ok e) = listed e
listed_in (Err f) = []

-- the line is read as a rejudging of at least one submission
abbrev pub ListsSome : Result (Option Event) LineFault → Type 0
ListsSome read = 0 < length (listed_in read)
