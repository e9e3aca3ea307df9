-- What is found at the front of a window.
use Rattle.std.proofs.Common.{ℕ, min, ◌≡◌, ◌+◌, ◌-◌, ◌≤◌, ◌<◌, ◌⊎◌, inl, inr, List, [], ◌∷◌, ◌++◌, Option, Some, Result, Ok, Err, IfErr, IfOk, Bool, true, false, eqb, refl, sym, ap, ◌∙◌, subst, arith, length, take, drop}
use Rattle.std.proofs.lemmas.Bool.{cases_lt}
use Rattle.std.proofs.lemmas.Bool.Decides.{nat_tests}
use Rattle.std.proofs.lemmas.List.{take_all, take-append-drop, take-append-le, drop-append-le, length-append, length-take, length-drop}
use Rattle.httparse.specs.declared.spans.Span.{Span}
use Rattle.httparse.specs.Grammar.{RequestHead, print_request, HasNoRequest, MayBecomeRequest}
use Rattle.httparse.specs.Spans.{span_bytes}
use Rattle.farm_io.specs.declared.block.Stop.{Stop}
use Rattle.farm_io.specs.declared.block.Stop.TheVariants as stop
use Rattle.farm_io.specs.Lines.{input_limit}
use Rattle.farm_io.specs.Streams.{Rose}
use Rattle.farm_io.specs.BlockValue.{IsEnded}
use Rattle.http_door.specs.declared.heads.Seen.{Seen}
use Rattle.http_door.specs.declared.ending.Ending.{Ending}
use Rattle.http_door.specs.declared.ending.Ending.TheVariants as ending
use Rattle.http_door.specs.declared.fields.Framing.{Framing}
use Rattle.http_door.specs.declared.fields.Framing.TheVariants as framing
use Rattle.http_door.specs.Heads.{head_limit, framing_of, Shows}
use Rattle.http_door.specs.Requests.{IsHead, IsWithinHead, IsWithinBody, IsLongHead, EndsAs, IsRefusal}
use Rattle.http_door.specs.WindowValue.{WindowValue}
use Rattle.http_door.specs.Finding.{ShowsHead, HasShown, IsLooked, IsEndOf, Stops, StopsOrShows, ended_by, IsSized, HasWhole}
use Rattle.http_door.proofs.Cutting.{head_more, head_some}

take_min_at : (lim : ℕ) (bytes : List ℕ) → (length bytes < lim) ⊎ (lim ≤ length bytes) → take (min (length bytes) lim) bytes ≡ take lim bytes
take_min_at lim bytes (inl h) =
    take_all (min (length bytes) lim) bytes (omega arith) ∙ sym (take_all lim bytes (omega arith))
take_min_at lim bytes (inr h) = let e : min (length bytes) lim ≡ lim = omega arith in rw e refl

pub take_min : (lim : ℕ) (bytes : List ℕ) → take (min (length bytes) lim) bytes ≡ take lim bytes
take_min lim bytes = take_min_at lim bytes (cases_lt (length bytes) lim)

pub looked_more : (bytes prefix : List ℕ) → prefix ≡ take head_limit bytes → length bytes < head_limit → HasNoRequest prefix × MayBecomeRequest prefix → IsWithinHead bytes
looked_more bytes prefix is short h =
    let e : prefix ≡ bytes = is ∙ take_all head_limit bytes (omega (arith, short)) in
    record { short = short; none = subst HasNoRequest e h.0; may = subst MayBecomeRequest e h.1 }

pub looked_long : (bytes prefix : List ℕ) → prefix ≡ take head_limit bytes → head_limit ≤ length bytes → HasNoRequest prefix × MayBecomeRequest prefix → IsLongHead bytes
looked_long bytes prefix is long h = record { long = long; none = subst HasNoRequest is h.0; may = subst MayBecomeRequest is h.1 }

-- a span in a prefix is the same in the whole
span_front : (xs ys : List ℕ) (s : Span) → s.start ≤ s.end → s.end ≤ length xs → span_bytes (xs ++ ys) s ≡ span_bytes xs s
span_front xs ys s order within =
    let le : s.start ≤ length xs = omega arith in
    let room : s.end - s.start ≤ length (drop s.start xs) = omega (arith, length-drop s.start xs) in
    ap (take (s.end - s.start)) (drop-append-le s.start xs ys le) ∙ take-append-le (s.end - s.start) (drop s.start xs) ys room

shown_more : (prefix more : List ℕ) (h : RequestHead) (s : Seen) → ShowsHead prefix h s → ShowsHead (prefix ++ more) h s
shown_more prefix more h s x = record {
  is_head = subst (λ (z : List ℕ). IsHead (prefix ++ more) h z) (sym (drop-append-le s.len prefix more x.within)) (head_more prefix h (drop s.len prefix) more x.is_head);
  short = x.short;
  within = omega (arith, x.within, length-append prefix more);
  method = span_front prefix more s.method x.method_within.0 (omega (arith, x.method_within.1, x.within)) ∙ x.method;
  method_within = x.method_within;
  target = span_front prefix more s.target x.target_within.0 (omega (arith, x.target_within.1, x.within)) ∙ x.target;
  target_within = x.target_within;
  framing = x.framing;
  close = x.close;
}

-- a head that is seen stays seen as more bytes come
pub shown_still : (bytes more all : List ℕ) (h : RequestHead) (s : Seen) → all ≡ bytes ++ more → ShowsHead bytes h s → ShowsHead all h s
shown_still bytes more all h s e x = subst (λ (z : List ℕ). ShowsHead z h s) (sym e) (shown_more bytes more h s x)

seen_front : (prefix : List ℕ) (h : RequestHead) (s : Seen) → length prefix ≤ head_limit → Shows prefix h s → ShowsHead prefix h s
seen_front prefix h s short x = record {
  is_head = record { reads = x.reads; short = omega (arith, x.len, x.within, short); few = x.few };
  short = omega (arith, x.within, short);
  within = x.within;
  method = x.method;
  method_within = x.method_within;
  target = x.target;
  target_within = x.target_within;
  framing = x.framing;
  close = x.close;
}

pub looked_head : (bytes prefix : List ℕ) (h : RequestHead) (s : Seen) → prefix ≡ take head_limit bytes → Shows prefix h s → ShowsHead bytes h s
looked_head bytes prefix h s is x =
    let short : length prefix ≤ head_limit = omega (arith, ap length is, length-take head_limit bytes) in
    shown_still prefix (drop head_limit bytes) bytes h s (sym (take-append-drop head_limit bytes) ∙ ap (λ z. z ++ drop head_limit bytes) (sym is)) (seen_front prefix h s short x)

refusal_end : (e : Ending) (left : Option (List ℕ)) → IsRefusal e → IsEndOf e left
refusal_end ending.End left h = absurd h
refusal_end ending.Cut left h = absurd h
refusal_end ending.BadHead left h = (λ e. cc, λ e. cc)
refusal_end (ending.HeadTooLong n) left h = (λ e. cc, λ e. cc)
refusal_end (ending.BodyTooLong n) left h = (λ e. cc, λ e. cc)
refusal_end ending.NoLength left h = (λ e. cc, λ e. cc)
refusal_end ending.ReadFault left h = absurd h
refusal_end ending.InputLimit left h = absurd h
refusal_end ending.NoMemory left h = absurd h

refusal_limit : (e : Ending) → IsRefusal e → ¬ (e ≡ ending.InputLimit)
refusal_limit e h is = subst IsRefusal is h

-- a refusal stops the reader
pub refused : (left : Option (List ℕ)) (w : WindowValue) (e : Ending) → EndsAs e w.ahead → IsRefusal e → Stops left w e
refused left w e h r = record {
  ends = h;
  end = refusal_end e left r;
  limit = λ is. absurd (refusal_limit e r is);
}

pub looked_err : (left : Option (List ℕ)) (w : WindowValue) (bytes : List ℕ) (r : Result Seen Ending) → bytes ≡ w.ahead → IsLooked bytes (Some r) → IfErr r (Stops left w)
looked_err left w bytes (Ok s) e h = tt
looked_err left w bytes (Err end) e h = refused left w end (subst (EndsAs end) e h.0) h.1

pub looked_ok : (w : WindowValue) (bytes : List ℕ) (r : Result Seen Ending) → bytes ≡ w.ahead → IsLooked bytes (Some r) → IfOk r (HasShown w.ahead)
looked_ok w bytes (Ok s) e h = subst (λ (z : List ℕ). HasShown z s) e h
looked_ok w bytes (Err end) e h = tt

empty_is : (xs : List ℕ) → eqb (length xs) 0 ≡ true → xs ≡ []
empty_is [] h = refl
empty_is (x ∷ xs) h = absurd (let n : length (x ∷ xs) ≡ 0 = grind (arith, nat_tests) in omega (arith, n))

some_is : (xs : List ℕ) → eqb (length xs) 0 ≡ false → 0 < length xs
some_is xs h = grind (arith, nat_tests)

-- a count that rose since has risen
pub rose_from : (before was now : ℕ) → before ≤ was → Rose was now → Rose before now
rose_from before was now le h = omega (arith, le, h)

-- the bytes stop within a head, or between requests
pub stopped_head : (left : Option (List ℕ)) (w : WindowValue) (s : Stop) (empty : Bool) → empty ≡ eqb (length w.ahead) 0 → IsWithinHead w.ahead
    → IsEnded (Some s) left → (Some s ≡ Some stop.InputLimit → w.taken ≡ input_limit) → Stops left w (ended_by s empty)
stopped_head left w stop.End true is h end limit =
    record { ends = empty_is w.ahead (sym is); end = (λ e. end refl, λ e. cc); limit = λ e. cc }
stopped_head left w stop.End false is h end limit =
    record { ends = (some_is w.ahead (sym is), inl h); end = (λ e. cc, λ e. end refl); limit = λ e. cc }
stopped_head left w stop.ReadFault empty is h end limit =
    record { ends = inl h; end = (λ e. cc, λ e. cc); limit = λ e. cc }
stopped_head left w stop.InputLimit empty is h end limit =
    record { ends = inl h; end = (λ e. cc, λ e. cc); limit = λ e. limit refl }

-- a head or a refusal that stands at the front where the bytes stop, or neither
pub last_ok : (w : WindowValue) (bytes : List ℕ) (s : Stop) (r : Result Seen Ending) → bytes ≡ w.ahead → StopsOrShows bytes s r → IfOk r (HasShown w.ahead)
last_ok w bytes s r e (inl h) = looked_ok w bytes r e h
last_ok w bytes s r e (inr h) = subst (λ (z : Result Seen Ending). IfOk z (HasShown w.ahead)) (sym h.1) tt

pub last_err : (left : Option (List ℕ)) (w : WindowValue) (bytes : List ℕ) (s : Stop) (r : Result Seen Ending) → bytes ≡ w.ahead → StopsOrShows bytes s r
    → IsEnded (Some s) left → (Some s ≡ Some stop.InputLimit → w.taken ≡ input_limit) → IfErr r (Stops left w)
last_err left w bytes s r e (inl h) end limit = looked_err left w bytes r e h
last_err left w bytes s r e (inr h) end limit =
    subst (λ (z : Result Seen Ending). IfErr z (Stops left w)) (sym h.1)
    (stopped_head left w s (eqb (length bytes) 0) (ap (λ z. eqb (length z) 0) e) (subst IsWithinHead e h.0) end limit)

-- want of memory may come at any time
pub no_memory : (left : Option (List ℕ)) (w : WindowValue) → Stops left w ending.NoMemory
no_memory left w = record { ends = tt; end = (λ e. cc, λ e. cc); limit = λ e. cc }

-- the bytes stop within a body
pub stopped_body : (left : Option (List ℕ)) (w : WindowValue) (s : Stop) → IsWithinBody w.ahead → 0 < length w.ahead
    → IsEnded (Some s) left → (Some s ≡ Some stop.InputLimit → w.taken ≡ input_limit) → Stops left w (ended_by s false)
stopped_body left w stop.End h some end limit =
    record { ends = (some, inr h); end = (λ e. cc, λ e. end refl); limit = λ e. cc }
stopped_body left w stop.ReadFault h some end limit =
    record { ends = inr h; end = (λ e. cc, λ e. cc); limit = λ e. cc }
stopped_body left w stop.InputLimit h some end limit =
    record { ends = inr h; end = (λ e. cc, λ e. cc); limit = λ e. limit refl }

err_is : (e f : Ending) (r : Result ℕ Ending) → r ≡ Err e → r ≡ Err f → e ≡ f
err_is e f r h k = cc

pub no_ok : (n : ℕ) (e : Ending) (r : Result ℕ Ending) → r ≡ Err e → r ≡ Ok n → ⊥
no_ok n e r h k = cc

refusal_at : (bytes : List ℕ) (e f : Ending) → e ≡ f → EndsAs f bytes × IsRefusal f → EndsAs e bytes × IsRefusal e
refusal_at bytes e f is h = subst (λ (z : Ending). EndsAs z bytes × IsRefusal z) (sym is) h

pub sized_err_at : (bytes : List ℕ) (h : RequestHead) (rest : List ℕ) (e : Ending) (f : Framing) → f ≡ framing_of h → IsHead bytes h rest → IsSized f (Err e) → EndsAs e bytes × IsRefusal e
sized_err_at bytes h rest e (framing.Sized n) is x s = absurd (no_ok n e (Err e) refl s)
sized_err_at bytes h rest e framing.BadLength is x s = refusal_at bytes e ending.BadHead (err_is e _ (Err e) refl s) (inr (h, rest, x, sym is), tt)
sized_err_at bytes h rest e framing.NoLength is x s = refusal_at bytes e ending.NoLength (err_is e _ (Err e) refl s) ((h, rest, x, sym is), tt)
sized_err_at bytes h rest e (framing.TooLong n) is x s = refusal_at bytes e (ending.BodyTooLong n) (err_is e _ (Err e) refl s) ((h, rest, x, sym is), tt)

-- a head that says no fit length stops the reader
pub sized_err : (left : Option (List ℕ)) (w : WindowValue) (s : Seen) (e : Ending) → HasShown w.ahead s → IsSized s.framing (Err e) → Stops left w e
sized_err left w s e x h =
    let r = sized_err_at w.ahead x.0 (drop s.len w.ahead) e s.framing x.1.framing x.1.is_head h in
    refused left w e r.0 r.1

-- a head and its body, where enough bytes stand behind the head
pub shown_whole : (bytes : List ℕ) (s : Seen) (n : ℕ) → (h : RequestHead) × ShowsHead bytes h s × (framing_of h ≡ framing.Sized n) → s.len + n ≤ length bytes → HasWhole bytes (record { seen = s; len = n })
shown_whole bytes s n h le = record { head = h.0; shows = h.1; framing = h.2; within = le }

pub shown_more_whole : (bytes more all : List ℕ) (s : Seen) (n : ℕ) → all ≡ bytes ++ more → (h : RequestHead) × ShowsHead bytes h s × (framing_of h ≡ framing.Sized n) → s.len + n ≤ length all → HasWhole all (record { seen = s; len = n })
shown_more_whole bytes more all s n e h le = record { head = h.0; shows = shown_still bytes more all h.0 s e h.1; framing = h.2; within = le }

-- a head whose body is not whole
pub shown_within : (bytes more all : List ℕ) (s : Seen) (n : ℕ) → all ≡ bytes ++ more → (h : RequestHead) × ShowsHead bytes h s × (framing_of h ≡ framing.Sized n) → length all < s.len + n → IsWithinBody all
shown_within bytes more all s n e h le =
    let x = shown_still bytes more all h.0 s e h.1 in
    record { head = h.0; rest = drop s.len all; len = n; is_head = x.is_head; framing = h.2; short = omega (arith, x.within, le, length-drop s.len all) }

-- a head that is shown has a byte
pub shown_some : (bytes more all : List ℕ) (h : RequestHead) (s : Seen) → all ≡ bytes ++ more → ShowsHead bytes h s → 0 < length all
shown_some bytes more all h s e x =
    let r = x.is_head.reads in
    omega (arith, head_some h r.0.method.0, ap length r.1, ap length e, length-append bytes more, length-append (print_request h) (drop s.len bytes))
