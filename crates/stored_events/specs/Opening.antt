-- What a store holds, and what its opening answers.
use Rattle.std.specs.Prelude.{◌≡◌, ◌⊎◌, ℕ, ◌+◌, ◌≤◌, ◌==◌, ◌&&◌, ◌||◌, nat_le, Bool, true, false, List, [], ◌∷◌, ◌++◌, length, take, drop, slice_index, Option, Some, None, is_some, Result, Ok, Err, codes, if◌then◌else◌}
use Rattle.std.specs.Str.{bytes_eq}
use Rattle.hex.specs.Hex.{encode_lower, decode_sized}
use Rattle.hex.specs.declared.error.FromHexError.{FromHexError}
use Rattle.record_store.specs.Held.{held, records_of}
use Rattle.farm_kinds.specs.declared.events.Event.{Event}
use Rattle.farm_kinds.specs.declared.events.LineFault.{LineFault}
use Rattle.farm_kinds.specs.declared.events.LineFault.TheVariants as line_fault
use Rattle.farm_model.specs.State.{State}
use Rattle.farm_model.specs.Farm.{farm_step}
use Rattle.farm_model.specs.Replay.{reply_to}
use Rattle.farm_model.specs.Grammar.{line_read}
use Rattle.farm_model.specs.Texts.{event_text}
use Rattle.stored_events.specs.Kept.{is_kept}
use Rattle.stored_events.specs.declared.faults.OpenFault.{OpenFault}
use Rattle.stored_events.specs.declared.faults.OpenFault.TheVariants as fault

-- The first record: which configuration the store is of

-- the line of a configuration with this digest
abbrev pub config_line : List ℕ → List ℕ
config_line digest = codes "config " ++ encode_lower digest

-- the digest of these digits, where they are written as a digest is, in lower case
abbrev pub written_so : List ℕ → Result (List ℕ) FromHexError → Option (List ℕ)
written_so digits (Ok digest) = if bytes_eq (encode_lower digest) digits then Some digest else None
written_so digits (Err e) = None

-- the digest of 32 bytes that the line of a configuration says
abbrev pub config_of : List ℕ → Option (List ℕ)
config_of line =
    if bytes_eq (take 7 line) (codes "config ") then written_so (drop 7 line) (decode_sized (drop 7 line) 32) else None

-- The other records: an event each

abbrev pub stored_read : State → List ℕ → Result (Option Event) LineFault → Option State
stored_read s line (Ok None) = None
stored_read s line (Ok (Some e)) =
    if bytes_eq (event_text e) line && is_kept e (reply_to s e) then Some (farm_step s e).0 else None
stored_read s line (Err f) = None

-- the state after the event of a line, where the line is what is written of it, and it is stored in this state
abbrev pub stored_step : State → List ℕ → Option State
stored_step s line = stored_read s line (line_read line)

abbrev pub or_bad : ℕ → Option State → (State → Result State OpenFault) → Result State OpenFault
or_bad number None go = Err (fault.BadRecord number)
or_bad number (Some s) go = go s

-- the state after the events of these lines, the first of which has this number
abbrev pub replayed : State → ℕ → List (List ℕ) → Result State OpenFault
replayed s number [] = Ok s
replayed s number (line ∷ lines) = or_bad number (stored_step s line) (λ next. replayed next (number + 1) lines)

-- A file in which no line is held

-- all behind the first byte of a store that is new: the record of a configuration and a closed gate
abbrev pub is_first_record : List ℕ → Bool
is_first_record behind = (length behind == 74) && (slice_index behind 73 == 0)
    && bytes_eq (take 2 behind) (71 ∷ 0 ∷ []) && is_some (config_of (take 71 (drop 2 behind)))

-- A crash of a first opening may leave this file: it has at most 75 bytes, and is no byte or one, anything behind a 0, or
-- the first record and a closed gate behind any first byte.
abbrev pub is_unborn : List ℕ → Bool
is_unborn file = nat_le (length file) 75
    && (nat_le (length file) 1 || (slice_index file 0 == 0) || is_first_record (drop 1 file))

-- What opening answers

abbrev pub opened_with : List ℕ → State → List (List ℕ) → Option (List ℕ) → Result State OpenFault
opened_with digest s lines None = Err (fault.BadRecord 1)
opened_with digest s lines (Some kept) =
    if bytes_eq kept digest then replayed s 2 lines else Err (fault.OtherConfig kept)

abbrev pub opened_by : List ℕ → State → List ℕ → List (List ℕ) → Result State OpenFault
opened_by digest s file [] = if is_unborn file then Ok s else Err (fault.BadRecord 1)
opened_by digest s file (line ∷ lines) = opened_with digest s lines (config_of line)

-- The state of the farm that a file's events lead to from this one, or why the file is not opened: no line is held and it
-- is somebody's other file, its first line is another configuration's or none, or a line is no event that is stored.
abbrev pub opened_of : List ℕ → State → List ℕ → Result State OpenFault
opened_of digest s file = opened_by digest s file (held file)

-- the lines that a store holds once it is open
abbrev pub opened_lines : List ℕ → List (List ℕ) → List (List ℕ)
opened_lines digest [] = config_line digest ∷ []
opened_lines digest (line ∷ lines) = line ∷ lines

-- while a store is opened, a crash leaves what it held, or, where no line was held, its first record
abbrev pub HoldsOrBegins : List ℕ → List (List ℕ) → List ℕ → Type 0
HoldsOrBegins digest lines file = (held file ≡ lines) ⊎ (held file ≡ opened_lines digest lines)
