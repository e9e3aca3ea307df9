-- Who acts, and the words of an event behind it.
use Rattle.std.proofs.Common.{ℕ, ◌≡◌, ◌<◌, Bool, true, false, cond, List, [], ◌∷◌, ◌++◌, refl, sym, append_assoc, length, arith}
use Rattle.std.specs.List.{join_with_byte}
use Rattle.std.specs.Str.{bytes_eq}
use Rattle.farm_kinds.specs.Names.{jury}
use Rattle.farm_kinds.specs.declared.events.Event.{Event}
use Rattle.farm_kinds.specs.declared.events.Event.TheVariants as event
use Rattle.farm_model.specs.Texts.{event_words, actor_of, actor_words, event_text}
use Rattle.command_text.specs.Actor.{actor_text}

-- a word in front of some words, or none
in_front : (none : Bool) (first word : List ℕ) (words : List (List ℕ))
    → join_with_byte 32 (cond none [] (first ∷ []) ++ word ∷ words) ≡ cond none [] (first ++ 32 ∷ []) ++ join_with_byte 32 (word ∷ words)
in_front true first word words = refl
in_front false first word words = sym (append_assoc first (32 ∷ []) (join_with_byte 32 (word ∷ words)))

actor_in_front : (who : List ℕ) (words : List (List ℕ)) → 0 < length words
    → join_with_byte 32 (actor_words who ++ words) ≡ actor_text who ++ join_with_byte 32 words
actor_in_front who [] some = absurd (omega arith)
actor_in_front who (word ∷ words) some = in_front (bytes_eq who jury) (64 ∷ who) word words

has_words : (e : Event) → 0 < length (event_words e)
has_words (event.Problem who name tests) = omega arith
has_words (event.Replace who name tests) = omega arith
has_words (event.Host name) = omega arith
has_words (event.Submit problem class broken) = omega arith
has_words (event.Claim host) = omega arith
has_words (event.Fetch host most) = omega arith
has_words (event.Result host j test kind) = omega arith
has_words (event.Entry j test kind) = omega arith
has_words (event.Renew host j test) = omega arith
has_words (event.Tick moment) = omega arith
has_words (event.Down host) = omega arith
has_words (event.Show j) = omega arith
has_words (event.Owner j) = omega arith
has_words event.Board = omega arith
has_words (event.Rejudge who list) = omega arith
has_words (event.Matrix r) = omega arith
has_words (event.Apply who r) = omega arith
has_words (event.Cancel who r) = omega arith
has_words (event.Verify who j) = omega arith
has_words (event.Ask who j) = omega arith
has_words event.Audit = omega arith

-- the text of an event is who acts and then its words
pub event_text_by : (e : Event) → event_text e ≡ actor_text (actor_of e) ++ join_with_byte 32 (event_words e)
event_text_by e = actor_in_front (actor_of e) (event_words e) (has_words e)
