-- The records of stored events are played as these events.
use Rattle.std.proofs.Common.{ℕ, zero, suc, ◌≡◌, ◌+◌, Bool, true, false, IsTrue, ◌&&◌, List, [], ◌∷◌, ◌++◌, length, take, map, Option, Some, None, Result, Ok, Err, refl, sym, ◌∙◌, ap, subst, if◌then◌else◌}
use Rattle.std.specs.Str.{bytes_eq}
use Rattle.std.proofs.lemmas.Slice.Eq.{bytes_eq-Decides}
use Rattle.hex.specs.Hex.{IsBytes, encode_lower, decode_sized}
use Rattle.hex.specs.declared.error.FromHexError.{FromHexError}
use Rattle.hex.proofs.HexLemmas.{decode_sized-encode_lower}
use Rattle.record_store.specs.Held.{held}
use Rattle.farm_kinds.specs.declared.events.Event.{Event}
use Rattle.farm_kinds.specs.declared.events.LineFault.{LineFault}
use Rattle.farm_model.specs.State.{State}
use Rattle.farm_model.specs.Farm.{farm_step}
use Rattle.farm_model.specs.Replay.{state_after, reply_to}
use Rattle.farm_model.specs.Grammar.{line_read}
use Rattle.farm_model.specs.Texts.{event_text}
use Rattle.stored_events.specs.Kept.{is_kept, kept_events}
use Rattle.stored_events.specs.Opening.{config_line, config_of, written_so, stored_read, stored_step, or_bad, replayed, opened_with, opened_by, opened_of}
use Rattle.stored_events.specs.Again.{AreReadBack}
use Rattle.stored_events.specs.declared.faults.OpenFault.{OpenFault}
use Rattle.stored_events.specs.declared.faults.OpenFault.TheVariants as fault
use Rattle.stored_events.proofs.KeptLaws.{not_kept}

same_bytes : (xs : List ℕ) → bytes_eq xs xs ≡ true
same_bytes xs = (bytes_eq-Decides xs xs).1 refl

step_kept : (s : State) (e : Event) → line_read (event_text e) ≡ Ok (Some e) → is_kept e (reply_to s e) ≡ true → stored_step s (event_text e) ≡ Some (farm_step s e).0
step_kept s e back kept =
    ap (λ (r : Result (Option Event) LineFault). stored_read s (event_text e) r) back
    ∙ ap (λ (b : Bool). if b && is_kept e (reply_to s e) then Some (farm_step s e).0 else None) (same_bytes (event_text e))
    ∙ ap (λ (b : Bool). if true && b then Some (farm_step s e).0 else None) kept

played_first : (s : State) (number : ℕ) (e : Event) (es : List Event) (b : Bool) → line_read (event_text e) ≡ Ok (Some e) → is_kept e (reply_to s e) ≡ b
    → ((m : ℕ) → replayed (farm_step s e).0 m (map event_text (kept_events (farm_step s e).0 es)) ≡ Ok (state_after (farm_step s e).0 es))
    → replayed s number (map event_text (if b then e ∷ kept_events (farm_step s e).0 es else kept_events (farm_step s e).0 es)) ≡ Ok (state_after (farm_step s e).0 es)
played_first s number e es true back is rest =
    ap (λ (o : Option State). or_bad number o (λ n. replayed n (number + 1) (map event_text (kept_events (farm_step s e).0 es)))) (step_kept s e back is)
    ∙ rest (number + 1)
played_first s number e es false back is rest =
    subst (λ (n : State). replayed n number (map event_text (kept_events (farm_step s e).0 es)) ≡ Ok (state_after (farm_step s e).0 es)) (not_kept s e is) (rest number)

pub replayed_kept : (s : State) (number : ℕ) (es : List Event) → AreReadBack es → replayed s number (map event_text (kept_events s es)) ≡ Ok (state_after s es)
replayed_kept s number [] back = refl
replayed_kept s number (e ∷ es) back = played_first s number e es (is_kept e (reply_to s e)) back.0 refl (λ m. replayed_kept (farm_step s e).0 m es back.1)

-- The first of what is stored of a run is what is stored of a prefix of it

take_none : (xs : List Event) → take 0 xs ≡ []
take_none [] = refl
take_none (x ∷ xs) = refl

-- the first k events that are stored are those of a prefix of the run
HasPrefix : State → List Event → ℕ → Type 0
HasPrefix s es k = (j : ℕ) × (take k (kept_events s es) ≡ kept_events s (take j es))

kept_if : State → Event → Bool → List Event → List Event
kept_if s e b xs = if b then e ∷ kept_events (farm_step s e).0 xs else kept_events (farm_step s e).0 xs

prefix_more : (s : State) (e : Event) (es : List Event) (k : ℕ) (b : Bool) → is_kept e (reply_to s e) ≡ b → ((n : ℕ) → HasPrefix (farm_step s e).0 es n) → HasPrefix s (e ∷ es) (suc k)
unfolding HasPrefix kept_if
prefix_more s e es k true is rest =
    let same : (xs : List Event) → kept_events s (e ∷ xs) ≡ e ∷ kept_events (farm_step s e).0 xs = λ xs. ap (λ (b : Bool). kept_if s e b xs) is in
    let r = rest k in
    (suc r.0, ap (λ (l : List Event). take (suc k) l) (same es) ∙ ap (λ (l : List Event). e ∷ l) r.1 ∙ sym (same (take r.0 es)))
prefix_more s e es k false is rest =
    let same : (xs : List Event) → kept_events s (e ∷ xs) ≡ kept_events (farm_step s e).0 xs = λ xs. ap (λ (b : Bool). kept_if s e b xs) is in
    let r = rest (suc k) in
    (suc r.0, ap (λ (l : List Event). take (suc k) l) (same es) ∙ r.1 ∙ sym (same (take r.0 es)))

prefixes : (s : State) (es : List Event) (k : ℕ) → HasPrefix s es k
unfolding HasPrefix
prefixes s [] zero = (0, take_none [])
prefixes s [] (suc k) = (0, refl)
prefixes s (e ∷ es) zero = (0, take_none (kept_events s (e ∷ es)) ∙ sym (ap (λ (l : List Event). kept_events s l) (take_none (e ∷ es))))
prefixes s (e ∷ es) (suc k) = prefix_more s e es k (is_kept e (reply_to s e)) refl (λ n. prefixes (farm_step s e).0 es n)

pub kept_prefix : (s : State) (es : List Event) (k : ℕ) → (j : ℕ) × (take k (kept_events s es) ≡ kept_events s (take j es))
unfolding HasPrefix
kept_prefix s es k = prefixes s es k

-- The first record

pub config_back : (digest : List ℕ) → length digest ≡ 32 → IsBytes digest → config_of (config_line digest) ≡ Some digest
config_back digest long bytes =
    ap (λ (r : Result (List ℕ) FromHexError). written_so (encode_lower digest) r) (decode_sized-encode_lower digest 32 long bytes)
    ∙ ap (λ (b : Bool). if b then Some digest else None) (same_bytes (encode_lower digest))

-- a store that holds the record of its configuration and what is stored of a run is opened, and leads where the run leads
pub opened_again : (digest : List ℕ) (s : State) (es : List Event) (file : List ℕ) → length digest ≡ 32 → IsBytes digest → AreReadBack es
    → held file ≡ config_line digest ∷ map event_text (kept_events s es) → opened_of digest s file ≡ Ok (state_after s es)
opened_again digest s es file long bytes back is =
    let rest : List (List ℕ) = map event_text (kept_events s es) in
    ap (λ (lines : List (List ℕ)). opened_by digest s file lines) is
    ∙ ap (λ (o : Option (List ℕ)). opened_with digest s rest o) (config_back digest long bytes)
    ∙ ap (λ (b : Bool). if b then replayed s 2 rest else Err (fault.OtherConfig digest)) (same_bytes digest)
    ∙ replayed_kept s 2 es back
