-- A whole response that stands in a window already.
use Rattle.std.proofs.Common.{ℕ, ◌≡◌, ◌+◌, ◌≤◌, ◌<◌, ◌⊎◌, inl, inr, List, [], ◌∷◌, ◌++◌, Some, None, Result, Ok, Err, IsOk, refl, sym, ap, ◌∙◌, subst, arith, length, drop, append_assoc}
use Rattle.std.specs.Prelude.{flat_map}
use Rattle.std.proofs.lemmas.Bool.{cases_lt}
use Rattle.std.proofs.lemmas.List.{length-append, length-drop}
use Rattle.std.proofs.lemmas.List.Elements.{Contains-append_left, Contains-append_right}
use Rattle.httparse.specs.Ascii.{space}
use Rattle.httparse.specs.Grammar.{print_end, print_blank, print_version, print_reason, print_field, print_section, ResponseHead, print_response}
use Rattle.farm_io.specs.Lines.{HasFeed, line_feed}
use Rattle.http_door.specs.declared.answers.heads.Seen.{Seen}
use Rattle.http_door.specs.declared.answers.fields.AnswerFraming.{AnswerFraming}
use Rattle.http_door.specs.declared.answers.fields.AnswerFraming.TheVariants as framing
use Rattle.http_door.specs.declared.answers.ending.AnswerEnding.{AnswerEnding}
use Rattle.http_door.specs.declared.answers.ending.AnswerEnding.TheVariants as end
use Rattle.http_door.specs.AnswerHeads.{framing_of}
use Rattle.http_door.specs.Answers.{IsHead, HoldsHead, HoldsAnswer, EndsAs, IsFault, IsOfBytes}
use Rattle.http_door.specs.AnswerFinding.{HasShown, IsLooked, IsSized}
use Rattle.http_door.proofs.AnswerCutting.{head_unique, sized_same, answer_apart}
use Rattle.http_door.proofs.AnswerFindings.{sized_err_at, no_ok}
use Rattle.http_door.proofs.Holding.{line_end_feed, last_feed, feed_came, stood_before}

head_feed : (h : ResponseHead) → HasFeed (print_response h)
unfolding print_response
head_feed h =
    let prefix : List ℕ = print_blank h.blank ++ print_version h.minor ++ space ∷ h.digits ++ print_reason h.reason in
    Contains-append_left (prefix ++ print_end h.line_end) (print_section h.fields h.last) line_feed
    (Contains-append_right prefix (print_end h.line_end) line_feed (line_end_feed h.line_end))

-- no whole head stands in bytes that were looked at, since it has a line feed
pub lacks_looked : (bytes : List ℕ) → (HasFeed bytes → IsLooked bytes None) → ¬ HoldsHead bytes
lacks_looked bytes fed (h, rest, x) =
    (fed (subst HasFeed (sym x.reads.1) (Contains-append_left (print_response h) rest line_feed (head_feed h)))).none h rest x.reads

-- a head ends in a line feed
head_last : (h : ResponseHead) → (before : List ℕ) × (print_response h ≡ before ++ line_feed ∷ [])
unfolding print_response
head_last h =
    let prefix : List ℕ = print_blank h.blank ++ print_version h.minor ++ space ∷ h.digits ++ print_reason h.reason ++ print_end h.line_end in
    let fields : List ℕ = flat_map print_field h.fields in
    let last = last_feed (prefix ++ fields) h.last in
    (last.0, sym (append_assoc prefix fields (print_end h.last)) ∙ last.1)

lacks_at : (old prefix new : List ℕ) (h : ResponseHead) (rest : List ℕ) → new ≡ old ++ prefix → ¬ HoldsHead old → (HasFeed (drop (length old) new) → IsLooked new None) → IsHead new h rest
    → (length old < length (print_response h)) ⊎ (length (print_response h) ≤ length old) → ⊥
lacks_at old prefix new h rest e none fed x (inl longer) = (fed (feed_came old new (print_response h) rest x.reads.1 (head_last h) longer)).none h rest x.reads
lacks_at old prefix new h rest e none fed x (inr shorter) =
    none (h, _, record { reads = (x.reads.0, stood_before old prefix new (print_response h) rest e x.reads.1 shorter); short = x.short; few = x.few })

-- nor in more bytes, where those that came were looked at
pub lacks_more : (old prefix new : List ℕ) → new ≡ old ++ prefix → ¬ HoldsHead old → (HasFeed (drop (length old) new) → IsLooked new None) → ¬ HoldsHead new
lacks_more old prefix new e none fed (h, rest, x) =
    lacks_at old prefix new h rest e none fed x (cases_lt (length old) (length (print_response h)))

-- no whole response stands there
pub held_looked : (bytes : List ℕ) → (HasFeed bytes → IsLooked bytes None) → HoldsAnswer bytes → ⊥
held_looked bytes fed (a, rest, x) = lacks_looked bytes fed (x.head, a.body ++ rest, x.is_head)

fault_bytes : (e : AnswerEnding) → IsFault e → IsOfBytes e
fault_bytes end.Cut h = absurd h
fault_bytes end.BadHead h = tt
fault_bytes (end.TooLong n) h = tt
fault_bytes (end.Status c) h = tt
fault_bytes end.ReadFault h = absurd h
fault_bytes end.NoMemory h = absurd h

held_fault : (bytes : List ℕ) (e : AnswerEnding) → EndsAs e bytes → IsFault e → HoldsAnswer bytes → ⊥
held_fault bytes e h k (a, rest, x) = answer_apart bytes a rest e x (fault_bytes e k) h

-- its head is found
pub held_found : (bytes : List ℕ) (r : Result Seen AnswerEnding) → IsLooked bytes (Some r) → HoldsAnswer bytes → IsOk r
held_found bytes (Ok s) h q = refl
held_found bytes (Err e) h q = absurd (held_fault bytes e h.0 h.1 q)

-- its head says a length that fits
pub held_sized : (bytes : List ℕ) (s : Seen) (e : AnswerEnding) → HasShown bytes s → IsSized s.framing (Err e) → HoldsAnswer bytes → ⊥
held_sized bytes s e x h q =
    let r = sized_err_at bytes x.0 (drop s.len bytes) e s.framing x.1.framing x.1.is_head h in
    held_fault bytes e r.0 r.1 q

sized_ok : (f : AnswerFraming) (n : ℕ) → IsSized f (Ok n) → f ≡ framing.Sized n
sized_ok (framing.Sized m) n h = cc
sized_ok framing.BadLength n h = absurd (no_ok n end.BadHead (Ok n) h refl)
sized_ok (framing.TooLong m) n h = absurd (no_ok n (end.TooLong m) (Ok n) h refl)
sized_ok (framing.Status c) n h = absurd (no_ok n (end.Status c) (Ok n) h refl)

-- its body stands there too
pub held_body : (bytes : List ℕ) (s : Seen) (n : ℕ) → HasShown bytes s → IsSized s.framing (Ok n) → HoldsAnswer bytes → s.len + n ≤ length bytes
held_body bytes s n (h, x) f (a, rest, y) =
    let same = head_unique bytes y.head h (a.body ++ rest) (drop s.len bytes) y.is_head x.is_head in
    let says : framing_of h ≡ framing.Sized n = sym x.framing ∙ sized_ok s.framing n f in
    let size : length a.body ≡ n = sized_same (length a.body) n (sym y.framing ∙ ap framing_of same.0 ∙ says) in
    omega (arith, size, ap length same.1, length-append a.body rest, length-drop s.len bytes, x.within)
