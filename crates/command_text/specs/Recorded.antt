-- What a line that begins with `record` says.
use Rattle.std.specs.Prelude.{ℕ, List, Option, Some}
use Rattle.farm_kinds.specs.declared.events.Event.{Event}
use Rattle.farm_kinds.specs.declared.events.Event.TheVariants as event
use Rattle.farm_model.specs.Grammar.{◌>>=◌}
use Rattle.command_text.specs.Alone.{kind_alone}
use Rattle.command_text.specs.Fronts.{first_number}
use Rattle.command_text.specs.declared.lines.Recorded.{Recorded}

abbrev pub recorded_of : List (List ℕ) → Option Recorded
recorded_of ws = do
  judging ← first_number ws
  test ← first_number judging.1
  kind ← kind_alone test.1
  Some (record { judging = judging.0; test = test.0; kind = kind })

abbrev pub entry_of : Recorded → Event
entry_of said = event.Entry said.judging said.test said.kind
