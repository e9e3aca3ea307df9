-- What is written for the lines of a script.
use Rattle.std.proofs.Common.{ℕ, zero, suc, ◌≡◌, ◌+◌, ◌-◌, ◌≤◌, List, [], ◌∷◌, ◌++◌, Option, Some, None, refl, sym, ap, ◌∙◌, arith, append_assoc, take, drop, slice_get}
use Rattle.std.specs.Prelude.{Result, Ok, Err}
use Rattle.std.specs.Option.{option_map}
use Rattle.std.proofs.lemmas.List.Concat.{flat_map-cons}
use Rattle.std.proofs.lemmas.Grind.{flat_map-append}
use Rattle.std.proofs.lemmas.List.{append-nil}
use Rattle.std.proofs.Math.Seq.{take-add}
use Rattle.farm_kinds.specs.declared.events.Event.{Event}
use Rattle.farm_kinds.specs.declared.events.LineFault.{LineFault}
use Rattle.farm_kinds.specs.declared.events.LineFault.TheVariants as fault
use Rattle.farm_io.specs.Lines.{Cut, Whole, Long, lines_of}
use Rattle.farm_model.specs.State.{State, SettingsValue, start}
use Rattle.farm_model.specs.Farm.{farm_step}
use Rattle.farm_model.specs.Grammar.{line_read}
use Rattle.farm_model.specs.Texts.{reply_text}
use Rattle.farm_model.specs.Replay.{state_after, reply_to}
use Rattle.farm_model.specs.Script.{after_read, after_line, output_from, script_output, event_in, events_of_line}
use Rattle.farm_laws.specs.Laws.{reached}
use Rattle.farm_laws.specs.Output.{events_in, OutputIsReplayed, events_before, IsReadAs}

pub state_after-append : (s : State) (es later : List Event) → state_after s (es ++ later) ≡ state_after (state_after s es) later
state_after-append s [] later = refl
state_after-append s (e ∷ es) later = state_after-append (farm_step s e).0 es later

-- A line

read_state : (s : State) (read : Result (Option Event) LineFault) → (after_read s read).0 ≡ state_after s (event_in read)
read_state s (Ok None) = refl
read_state s (Ok (Some e)) = refl
read_state s (Err fault.BadLine) = refl
read_state s (Err fault.NoMemory) = refl

-- the state behind a line is that after its events
pub line_state : (s : State) (line : Cut) → (after_line s line).0 ≡ state_after s (events_of_line line)
line_state s (Whole text) = read_state s (line_read text)
line_state s (Long len) = refl

read_text : (s : State) (read : Result (Option Event) LineFault) (e : Event) → event_in read ≡ e ∷ [] → (after_read s read).1 ≡ reply_text (reply_to s e)
read_text s (Ok None) e h = cc
read_text s (Ok (Some d)) e h = let same : d ≡ e = cc in ap (λ (x : Event). reply_text (reply_to s x)) same
read_text s (Err fault.BadLine) e h = cc
read_text s (Err fault.NoMemory) e h = cc

-- what is written for a line that is an event is the text of its reply
pub line_text : (s : State) (line : Cut) (e : Event) → events_of_line line ≡ e ∷ [] → (after_line s line).1 ≡ reply_text (reply_to s e)
line_text s (Whole text) e h = read_text s (line_read text) e h
line_text s (Long len) e h = cc

-- Lines

pub events_in-append : (before later : List Cut) → events_in (before ++ later) ≡ events_in before ++ events_in later
events_in-append before later = flat_map-append events_of_line before later

-- the state behind the lines
abbrev pub state_behind : State → List Cut → State
state_behind s lines = state_after s (events_in lines)

state_behind-cons : (s : State) (line : Cut) (lines : List Cut) → state_behind s (line ∷ lines) ≡ state_behind (after_line s line).0 lines
state_behind-cons s line lines =
    ap (state_after s) (flat_map-cons events_of_line line lines) ∙ state_after-append s (events_of_line line) (events_in lines) ∙ ap (λ (t : State). state_after t (events_in lines)) (sym (line_state s line))

pub state_behind-append : (s : State) (before later : List Cut) → state_behind s (before ++ later) ≡ state_behind (state_behind s before) later
state_behind-append s before later = ap (state_after s) (events_in-append before later) ∙ state_after-append s (events_in before) (events_in later)

pub state_behind-one : (s : State) (line : Cut) → state_behind s (line ∷ []) ≡ (after_line s line).0
state_behind-one s line = state_behind-cons s line []

-- what is written for lines is what is written for the first ones, and then for the others in the state behind these
pub output_from-append : (s : State) (before later : List Cut) → output_from s (before ++ later) ≡ output_from s before ++ output_from (state_behind s before) later
output_from-append s [] later = refl
output_from-append s (line ∷ before) later =
    let r = after_line s line in
    ap (λ text. r.1 ++ text) (output_from-append r.0 before later)
    ∙ ap (λ (t : State). r.1 ++ (output_from r.0 before ++ output_from t later)) (sym (state_behind-cons s line before))
    ∙ sym (append_assoc r.1 (output_from r.0 before) (output_from (state_behind s (line ∷ before)) later))

pub output_is_replayed : (settings : SettingsValue) (bytes : List ℕ) → OutputIsReplayed settings bytes
output_is_replayed settings bytes before line later split =
    let s = start settings in
    let here = state_behind s before in
    let next : (after_line here line).0 ≡ state_behind s (before ++ line ∷ []) = sym (state_behind-append s before (line ∷ []) ∙ state_behind-one here line) in
    ap (output_from s) split ∙ output_from-append s before (line ∷ later)
    ∙ ap (λ (t : State). output_from s before ++ ((after_line here line).1 ++ output_from t later)) next
    ∙ sym (append_assoc (output_from s before) (after_line here line).1 (output_from (state_behind s (before ++ line ∷ [])) later))

-- Numbered lines

-- the item of a list, and what stands around it
pub split_list : {X : Type 0} (xs : List X) (n : ℕ) (x : X) → slice_get xs n ≡ Some x → xs ≡ take n xs ++ x ∷ drop (suc n) xs
split_list [] n x h = cc
split_list (y ∷ xs) zero x h = let same : y ≡ x = cc in ap (λ z. z ∷ xs) same
split_list (y ∷ xs) (suc n) x h = ap (λ ys. y ∷ ys) (split_list xs n x h)

pub take_next : {X : Type 0} (xs : List X) (n : ℕ) (x : X) → slice_get xs n ≡ Some x → take (suc n) xs ≡ take n xs ++ x ∷ []
take_next [] n x h = cc
take_next (y ∷ xs) zero x h = let same : y ≡ x = cc in ap (λ z. z ∷ []) same
take_next (y ∷ xs) (suc n) x h = ap (λ ys. y ∷ ys) (take_next xs n x h)

-- the first m items are the first n and some others
pub take_later : {X : Type 0} (xs : List X) (n m : ℕ) → n ≤ m → take m xs ≡ take n xs ++ take (m - n) (drop n xs)
take_later xs n m h = let whole : m ≡ n + (m - n) = omega (arith, h) in ap (λ (k : ℕ). take k xs) whole ∙ take-add n (m - n) xs

read_as : (o : Option Cut) (e : Event) → option_map events_of_line o ≡ Some (e ∷ []) → (line : Cut) × (o ≡ Some line) × (events_of_line line ≡ e ∷ [])
read_as None e h = cc
read_as (Some line) e h = (line, refl, cc)

-- the line of a number that is read as an event
pub line_read_as : (bytes : List ℕ) (n : ℕ) (e : Event) → IsReadAs bytes n e → (line : Cut) × (slice_get (lines_of bytes) n ≡ Some line) × (events_of_line line ≡ e ∷ [])
line_read_as bytes n e h = read_as (slice_get (lines_of bytes) n) e h

pub events_next : (bytes : List ℕ) (n : ℕ) (e : Event) → IsReadAs bytes n e → events_before bytes (n + 1) ≡ events_before bytes n ++ e ∷ []
events_next bytes n e h =
    let l = line_read_as bytes n e h in
    let next : n + 1 ≡ suc n = omega arith in
    ap (events_before bytes) next ∙ ap events_in (take_next (lines_of bytes) n l.0 l.1) ∙ events_in-append (take n (lines_of bytes)) (l.0 ∷ [])
    ∙ ap (λ es. events_before bytes n ++ es) (flat_map-cons events_of_line l.0 [] ∙ append-nil (events_of_line l.0) ∙ l.2)

pub reached_next : (settings : SettingsValue) (bytes : List ℕ) (n : ℕ) (e : Event) → IsReadAs bytes n e
    → reached settings (events_before bytes (n + 1)) ≡ (farm_step (reached settings (events_before bytes n)) e).0
reached_next settings bytes n e h = ap (reached settings) (events_next bytes n e h) ∙ state_after-append (start settings) (events_before bytes n) (e ∷ [])

-- what a script writes, around the line of a number that is read as an event
pub output_around : (settings : SettingsValue) (bytes : List ℕ) (n : ℕ) (e : Event) → IsReadAs bytes n e
    → (more : List ℕ) × (script_output settings bytes ≡ output_from (start settings) (take n (lines_of bytes)) ++ (reply_text (reply_to (reached settings (events_before bytes n)) e) ++ more))
output_around settings bytes n e h =
    let l = line_read_as bytes n e h in
    let s = start settings in
    let before = take n (lines_of bytes) in
    let later = drop (suc n) (lines_of bytes) in
    let here = state_behind s before in (
      output_from (after_line here l.0).0 later,
      ap (output_from s) (split_list (lines_of bytes) n l.0 l.1) ∙ output_from-append s before (l.0 ∷ later)
          ∙ ap (λ text. output_from s before ++ (text ++ output_from (after_line here l.0).0 later)) (line_text here l.0 e l.2),
    )
