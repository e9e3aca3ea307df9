-- Events that are read back from a store.
use Rattle.std.specs.Prelude.{◌≡◌, List, [], ◌∷◌, Ok, Some}
use Rattle.farm_kinds.specs.declared.events.Event.{Event}
use Rattle.farm_model.specs.Grammar.{line_read}
use Rattle.farm_model.specs.Texts.{event_text}

-- what is written of each event is read as the event, as it is where a line said it
abbrev pub AreReadBack : List Event → Type 0
AreReadBack [] = Unit {0}
AreReadBack (e ∷ es) = (line_read (event_text e) ≡ Ok (Some e)) × AreReadBack es
