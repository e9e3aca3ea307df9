-- A whole request that stands in a window already.
use Rattle.std.proofs.Common.{ℕ, ◌≡◌, ◌+◌, ◌-◌, ◌≤◌, ◌<◌, ◌⊎◌, inl, inr, List, [], ◌∷◌, ◌++◌, Option, Some, None, Result, Ok, Err, IsOk, IfSome, refl, sym, ap, ◌∙◌, subst, arith, length, take, drop, append_assoc}
use Rattle.std.specs.Prelude.{flat_map}
use Rattle.std.proofs.lemmas.Bool.{cases_lt}
use Rattle.std.proofs.lemmas.List.{length-append, length-drop, take_all, take-append-le, drop-append-le}
use Rattle.std.proofs.Math.Seq.{take-append-add}
use Rattle.std.proofs.lemmas.List.Elements.{Contains-append_left, Contains-append_right}
use Rattle.httparse.specs.Ascii.{space}
use Rattle.httparse.specs.Grammar.{LineEnd, crlf, lf, print_end, print_blank, print_version, print_field, print_section, RequestHead, print_request}
use Rattle.farm_io.specs.Lines.{HasFeed, line_feed}
use Rattle.http_door.specs.declared.heads.Seen.{Seen}
use Rattle.http_door.specs.declared.fields.Framing.{Framing}
use Rattle.http_door.specs.declared.fields.Framing.TheVariants as framing
use Rattle.http_door.specs.declared.ending.Ending.{Ending}
use Rattle.http_door.specs.declared.ending.Ending.TheVariants as end
use Rattle.http_door.specs.Heads.{framing_of}
use Rattle.http_door.specs.Requests.{IsHead, HoldsHead, HoldsRequest, EndsAs, IsRefusal, IsOfBytes}
use Rattle.http_door.specs.Finding.{HasShown, IsLooked, IsSized}
use Rattle.http_door.specs.ReaderValue.{ReaderValue, IsReadable}
use Rattle.http_door.proofs.Cutting.{head_unique, sized_same, request_apart}
use Rattle.http_door.proofs.Findings.{sized_err_at, no_ok}

pub line_end_feed : (e : LineEnd) → HasFeed (print_end e)
line_end_feed crlf = (1, omega arith, refl)
line_end_feed lf = (0, omega arith, refl)

head_feed : (h : RequestHead) → HasFeed (print_request h)
unfolding print_request
head_feed h =
    let prefix : List ℕ = print_blank h.blank ++ h.method ++ space ∷ h.target ++ space ∷ print_version h.minor in
    Contains-append_left (prefix ++ print_end h.line_end) (print_section h.fields h.last) line_feed
    (Contains-append_right prefix (print_end h.line_end) line_feed (line_end_feed h.line_end))

-- no whole head stands in bytes that were looked at, since it has a line feed
pub lacks_looked : (bytes : List ℕ) → (HasFeed bytes → IsLooked bytes None) → ¬ HoldsHead bytes
lacks_looked bytes fed (h, rest, x) =
    (fed (subst HasFeed (sym x.reads.1) (Contains-append_left (print_request h) rest line_feed (head_feed h)))).none h rest x.reads

pub last_feed : (prefix : List ℕ) (e : LineEnd) → (before : List ℕ) × (prefix ++ print_end e ≡ before ++ line_feed ∷ [])
last_feed prefix crlf = (prefix ++ 13 ∷ [], sym (append_assoc prefix (13 ∷ []) (line_feed ∷ [])))
last_feed prefix lf = (prefix, refl)

-- a head ends in a line feed
head_last : (h : RequestHead) → (before : List ℕ) × (print_request h ≡ before ++ line_feed ∷ [])
unfolding print_request
head_last h =
    let prefix : List ℕ = print_blank h.blank ++ h.method ++ space ∷ h.target ++ space ∷ print_version h.minor ++ print_end h.line_end in
    let fields : List ℕ = flat_map print_field h.fields in
    let last = last_feed (prefix ++ fields) h.last in
    (last.0, sym (append_assoc prefix fields (print_end h.last)) ∙ last.1)

feed_behind : (n : ℕ) (before rest : List ℕ) → n ≤ length before → HasFeed (drop n (before ++ line_feed ∷ rest))
feed_behind n before rest le =
    subst HasFeed (sym (drop-append-le n before (line_feed ∷ rest) le)) (Contains-append_right (drop n before) (line_feed ∷ rest) line_feed (0, omega arith, refl))

-- a text that stands at the front of the bytes, and is longer than those that were held, ends in a line feed that came
pub feed_came : (old new text rest : List ℕ) → new ≡ text ++ rest → (before : List ℕ) × (text ≡ before ++ line_feed ∷ []) → length old < length text → HasFeed (drop (length old) new)
feed_came old new text rest e last longer =
    let all : new ≡ last.0 ++ line_feed ∷ rest = e ∙ ap (λ z. z ++ rest) last.1 ∙ append_assoc last.0 (line_feed ∷ []) rest in
    let le : length old ≤ length last.0 = omega (arith, longer, ap length last.1, length-append last.0 (line_feed ∷ [])) in
    subst (λ (z : List ℕ). HasFeed (drop (length old) z)) (sym all) (feed_behind (length old) last.0 rest le)

-- one that is no longer stood there before more came
pub stood_before : (old prefix new text rest : List ℕ) → new ≡ old ++ prefix → new ≡ text ++ rest → length text ≤ length old → old ≡ text ++ take (length old - length text) rest
stood_before old prefix new text rest e is le =
    let d = length old - length text in
    let sum : length text + d ≡ length old = omega arith in
    let cut : take (length old) new ≡ old = ap (take (length old)) e ∙ take-append-le (length old) old prefix (omega arith) ∙ take_all (length old) old (omega arith) in
    sym cut ∙ ap (take (length old)) is ∙ subst (λ (z : ℕ). take z (text ++ rest) ≡ text ++ take d rest) sum (take-append-add text rest d)

lacks_at : (old prefix new : List ℕ) (h : RequestHead) (rest : List ℕ) → new ≡ old ++ prefix → ¬ HoldsHead old → (HasFeed (drop (length old) new) → IsLooked new None) → IsHead new h rest
    → (length old < length (print_request h)) ⊎ (length (print_request h) ≤ length old) → ⊥
lacks_at old prefix new h rest e none fed x (inl longer) = (fed (feed_came old new (print_request h) rest x.reads.1 (head_last h) longer)).none h rest x.reads
lacks_at old prefix new h rest e none fed x (inr shorter) =
    none (h, _, record { reads = (x.reads.0, stood_before old prefix new (print_request h) rest e x.reads.1 shorter); short = x.short; few = x.few })

-- nor in more bytes, where those that came were looked at
pub lacks_more : (old prefix new : List ℕ) → new ≡ old ++ prefix → ¬ HoldsHead old → (HasFeed (drop (length old) new) → IsLooked new None) → ¬ HoldsHead new
lacks_more old prefix new e none fed (h, rest, x) =
    lacks_at old prefix new h rest e none fed x (cases_lt (length old) (length (print_request h)))

refusal_bytes : (e : Ending) → IsRefusal e → IsOfBytes e
refusal_bytes end.End h = absurd h
refusal_bytes end.Cut h = absurd h
refusal_bytes end.BadHead h = tt
refusal_bytes (end.HeadTooLong n) h = tt
refusal_bytes (end.BodyTooLong n) h = tt
refusal_bytes end.NoLength h = tt
refusal_bytes end.ReadFault h = absurd h
refusal_bytes end.InputLimit h = absurd h
refusal_bytes end.NoMemory h = absurd h

-- it is not refused
pub held_refused : (bytes : List ℕ) (e : Ending) → EndsAs e bytes → IsRefusal e → HoldsRequest bytes → ⊥
held_refused bytes e h k (r, rest, x) = request_apart bytes r rest e x (refusal_bytes e k) h

-- its head is found
pub held_found : (bytes : List ℕ) (r : Result Seen Ending) → IsLooked bytes (Some r) → HoldsRequest bytes → IsOk r
held_found bytes (Ok s) h q = refl
held_found bytes (Err e) h q = absurd (held_refused bytes e h.0 h.1 q)

pub held_looked : (bytes : List ℕ) → (HasFeed bytes → IsLooked bytes None) → HoldsRequest bytes → ⊥
held_looked bytes h (r, rest, x) = lacks_looked bytes h (x.head, r.body ++ rest, x.is_head)

-- its head says a length that fits
pub held_sized : (bytes : List ℕ) (s : Seen) (e : Ending) → HasShown bytes s → IsSized s.framing (Err e) → HoldsRequest bytes → ⊥
held_sized bytes s e x h q =
    let r = sized_err_at bytes x.0 (drop s.len bytes) e s.framing x.1.framing x.1.is_head h in
    held_refused bytes e r.0 r.1 q

sized_ok : (f : Framing) (n : ℕ) → IsSized f (Ok n) → f ≡ framing.Sized n
sized_ok (framing.Sized m) n h = cc
sized_ok framing.BadLength n h = absurd (no_ok n end.BadHead (Ok n) h refl)
sized_ok framing.NoLength n h = absurd (no_ok n end.NoLength (Ok n) h refl)
sized_ok (framing.TooLong m) n h = absurd (no_ok n (end.BodyTooLong m) (Ok n) h refl)

-- its body stands there too
pub held_body : (bytes : List ℕ) (s : Seen) (n : ℕ) → HasShown bytes s → IsSized s.framing (Ok n) → HoldsRequest bytes → s.len + n ≤ length bytes
held_body bytes s n (h, x) f (r, rest, y) =
    let same = head_unique bytes y.head h (r.body ++ rest) (drop s.len bytes) y.is_head x.is_head in
    let says : framing_of h ≡ framing.Sized n = sym x.framing ∙ sized_ok s.framing n f in
    let size : length r.body ≡ n = sized_same (length r.body) n (sym y.framing ∙ ap framing_of same.0 ∙ says) in
    omega (arith, size, ap length same.1, length-append r.body rest, length-drop s.len bytes, x.within)

held_ended : (bytes : List ℕ) (e : Ending) → EndsAs e bytes → HoldsRequest bytes → e ≡ end.NoMemory
held_ended bytes end.End h (r, rest, x) = absurd (request_apart bytes r rest end.End x tt h)
held_ended bytes end.Cut h (r, rest, x) = absurd (request_apart bytes r rest end.Cut x tt h)
held_ended bytes end.BadHead h (r, rest, x) = absurd (request_apart bytes r rest end.BadHead x tt h)
held_ended bytes (end.HeadTooLong n) h (r, rest, x) = absurd (request_apart bytes r rest (end.HeadTooLong n) x tt h)
held_ended bytes (end.BodyTooLong n) h (r, rest, x) = absurd (request_apart bytes r rest (end.BodyTooLong n) x tt h)
held_ended bytes end.NoLength h (r, rest, x) = absurd (request_apart bytes r rest end.NoLength x tt h)
held_ended bytes end.ReadFault h (r, rest, x) = absurd (request_apart bytes r rest end.ReadFault x tt h)
held_ended bytes end.InputLimit h (r, rest, x) = absurd (request_apart bytes r rest end.InputLimit x tt h)
held_ended bytes end.NoMemory h q = refl

held_option : (bytes : List ℕ) (o : Option Ending) → IfSome o (λ e. EndsAs e bytes) → HoldsRequest bytes → IfSome o (λ e. e ≡ end.NoMemory)
held_option bytes None h q = tt
held_option bytes (Some e) h q = held_ended bytes e h q

-- a reader that holds one has ended for want of memory alone
pub held_reader : (r : ReaderValue) → IsReadable r → HoldsRequest r.ahead → IfSome r.ended (λ e. e ≡ end.NoMemory)
held_reader r h q = held_option r.ahead r.ended h.ends q
