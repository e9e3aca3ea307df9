-- The script: from the bytes that are read to the bytes that are written.
use Rattle.std.specs.Prelude.{ℕ, List, [], ◌∷◌, ◌++◌, flat_map, Option, Some, None, Result, Ok, Err}
use Rattle.farm_kinds.specs.declared.events.Event.{Event}
use Rattle.farm_kinds.specs.declared.events.LineFault.{LineFault}
use Rattle.farm_kinds.specs.declared.events.LineFault.TheVariants as fault
use Rattle.farm_io.specs.Lines.{Cut, Whole, Long, lines_of}
use Rattle.farm_model.specs.State.{State, SettingsValue, start}
use Rattle.farm_model.specs.Farm.{farm_step}
use Rattle.farm_model.specs.Grammar.{line_read}
use Rattle.farm_model.specs.Texts.{line_of, bad_line_words, too_long_words, reply_text}

-- the state after what a line was read as, and the text that is written for it
abbrev pub after_read : State → Result (Option Event) LineFault → State × List ℕ
after_read s (Ok None) = (s, [])
after_read s (Ok (Some e)) = let r = farm_step s e in (r.0, reply_text r.1)
after_read s (Err fault.BadLine) = (s, line_of bad_line_words)
after_read s (Err fault.NoMemory) = (s, [])

abbrev pub after_line : State → Cut → State × List ℕ
after_line s (Whole text) = after_read s (line_read text)
after_line s (Long len) = (s, line_of (too_long_words len))

-- what is written for the lines, from a state on
abbrev pub output_from : State → List Cut → List ℕ
output_from s [] = []
output_from s (line ∷ lines) = let r = after_line s line in r.1 ++ output_from r.0 lines

-- what is written for the bytes, from the empty farm on
abbrev pub script_output : SettingsValue → List ℕ → List ℕ
script_output settings bytes = output_from (start settings) (lines_of bytes)

-- the events of a line
abbrev pub event_in : Result (Option Event) LineFault → List Event
event_in (Ok None) = []
event_in (Ok (Some e)) = e ∷ []
event_in (Err fault.BadLine) = []
event_in (Err fault.NoMemory) = []

abbrev pub events_of_line : Cut → List Event
events_of_line (Whole text) = event_in (line_read text)
events_of_line (Long len) = []

-- the events of the bytes, in order
abbrev pub events_of : List ℕ → List Event
events_of bytes = flat_map events_of_line (lines_of bytes)
