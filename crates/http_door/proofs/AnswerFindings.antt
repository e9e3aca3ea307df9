-- What is found at the front of a window.
use Rattle.std.proofs.Common.{ℕ, ◌≡◌, ◌≢◌, ◌+◌, ◌≤◌, ◌<◌, inl, inr, List, ◌++◌, Option, Some, Result, Ok, Err, IfErr, IfOk, refl, sym, ap, ◌∙◌, subst, arith, length, take, drop}
use Rattle.std.proofs.lemmas.List.{take_all, take-append-drop, drop-append-le, length-append, length-take, length-drop}
use Rattle.httparse.specs.Grammar.{ResponseHead, HasNoResponse, MayBecomeResponse}
use Rattle.farm_io.specs.declared.block.Stop.{Stop}
use Rattle.farm_io.specs.declared.block.Stop.TheVariants as stop
use Rattle.farm_io.specs.BlockValue.{IsEnded}
use Rattle.http_door.specs.declared.answers.heads.Seen.{Seen}
use Rattle.http_door.specs.declared.answers.ending.AnswerEnding.{AnswerEnding}
use Rattle.http_door.specs.declared.answers.ending.AnswerEnding.TheVariants as ending
use Rattle.http_door.specs.declared.answers.fields.AnswerFraming.{AnswerFraming}
use Rattle.http_door.specs.declared.answers.fields.AnswerFraming.TheVariants as framing
use Rattle.http_door.specs.Heads.{head_limit}
use Rattle.http_door.specs.AnswerHeads.{framing_of, Shows}
use Rattle.http_door.specs.Answers.{IsHead, IsWithinHead, IsWithinBody, IsLongHead, EndsAs, IsFault}
use Rattle.http_door.specs.AnswerFinding.{ShowsHead, HasShown, IsLooked, Stops, StopsOrShows, ended_by, IsSized, HasWhole}
use Rattle.http_door.proofs.AnswerCutting.{head_more}

pub looked_more : (bytes prefix : List ℕ) → prefix ≡ take head_limit bytes → length bytes < head_limit → HasNoResponse prefix × MayBecomeResponse prefix → IsWithinHead bytes
looked_more bytes prefix is short h =
    let e : prefix ≡ bytes = is ∙ take_all head_limit bytes (omega (arith, short)) in
    record { short = short; none = subst HasNoResponse e h.0; may = subst MayBecomeResponse e h.1 }

pub looked_long : (bytes prefix : List ℕ) → prefix ≡ take head_limit bytes → head_limit ≤ length bytes → HasNoResponse prefix × MayBecomeResponse prefix → IsLongHead bytes
looked_long bytes prefix is long h = record { long = long; none = subst HasNoResponse is h.0; may = subst MayBecomeResponse is h.1 }

shown_more : (prefix more : List ℕ) (h : ResponseHead) (s : Seen) → ShowsHead prefix h s → ShowsHead (prefix ++ more) h s
shown_more prefix more h s x = record {
  is_head = subst (λ (z : List ℕ). IsHead (prefix ++ more) h z) (sym (drop-append-le s.len prefix more x.within)) (head_more prefix h (drop s.len prefix) more x.is_head);
  short = x.short;
  within = omega (arith, x.within, length-append prefix more);
  code = x.code;
  framing = x.framing;
}

-- a head that is seen stays seen as more bytes come
pub shown_still : (bytes more all : List ℕ) (h : ResponseHead) (s : Seen) → all ≡ bytes ++ more → ShowsHead bytes h s → ShowsHead all h s
shown_still bytes more all h s e x = subst (λ (z : List ℕ). ShowsHead z h s) (sym e) (shown_more bytes more h s x)

seen_front : (prefix : List ℕ) (h : ResponseHead) (s : Seen) → length prefix ≤ head_limit → Shows prefix h s → ShowsHead prefix h s
seen_front prefix h s short x = record {
  is_head = record { reads = x.reads; short = omega (arith, x.len, x.within, short); few = x.few };
  short = omega (arith, x.within, short);
  within = x.within;
  code = x.code;
  framing = x.framing;
}

pub looked_head : (bytes prefix : List ℕ) (h : ResponseHead) (s : Seen) → prefix ≡ take head_limit bytes → Shows prefix h s → ShowsHead bytes h s
looked_head bytes prefix h s is x =
    let short : length prefix ≤ head_limit = omega (arith, ap length is, length-take head_limit bytes) in
    shown_still prefix (drop head_limit bytes) bytes h s (sym (take-append-drop head_limit bytes) ∙ ap (λ z. z ++ drop head_limit bytes) (sym is)) (seen_front prefix h s short x)

fault_cut : (e : AnswerEnding) → IsFault e → ¬ (e ≡ ending.Cut)
fault_cut e h is = subst IsFault is h

-- a fault of the bytes stops the reader
pub refused : (left : Option (List ℕ)) (ahead : List ℕ) (e : AnswerEnding) → EndsAs e ahead → IsFault e → Stops left ahead e
refused left ahead e h r = record {
  ends = h;
  end = λ is. absurd (fault_cut e r is);
}

pub looked_err : (left : Option (List ℕ)) (ahead bytes : List ℕ) (r : Result Seen AnswerEnding) → bytes ≡ ahead → IsLooked bytes (Some r) → IfErr r (Stops left ahead)
looked_err left ahead bytes (Ok s) e h = tt
looked_err left ahead bytes (Err end) e h = refused left ahead end (subst (EndsAs end) e h.0) h.1

pub looked_ok : (ahead bytes : List ℕ) (r : Result Seen AnswerEnding) → bytes ≡ ahead → IsLooked bytes (Some r) → IfOk r (HasShown ahead)
looked_ok ahead bytes (Ok s) e h = subst (λ (z : List ℕ). HasShown z s) e h
looked_ok ahead bytes (Err end) e h = tt

-- the bytes stop within a head
pub stopped_head : (left : Option (List ℕ)) (ahead : List ℕ) (s : Stop) → IsWithinHead ahead
    → IsEnded (Some s) left → s ≢ stop.InputLimit → Stops left ahead (ended_by s)
stopped_head left ahead stop.End h end limit = record { ends = inl h; end = λ e. end refl }
stopped_head left ahead stop.ReadFault h end limit = record { ends = inl h; end = λ e. cc }
stopped_head left ahead stop.InputLimit h end limit = absurd (limit refl)

-- a head or a fault that stands at the front where the bytes stop, or neither
pub last_ok : (ahead bytes : List ℕ) (s : Stop) (r : Result Seen AnswerEnding) → bytes ≡ ahead → StopsOrShows bytes s r → IfOk r (HasShown ahead)
last_ok ahead bytes s r e (inl h) = looked_ok ahead bytes r e h
last_ok ahead bytes s r e (inr h) = subst (λ (z : Result Seen AnswerEnding). IfOk z (HasShown ahead)) (sym h.1) tt

pub last_err : (left : Option (List ℕ)) (ahead bytes : List ℕ) (s : Stop) (r : Result Seen AnswerEnding) → bytes ≡ ahead → StopsOrShows bytes s r
    → IsEnded (Some s) left → s ≢ stop.InputLimit → IfErr r (Stops left ahead)
last_err left ahead bytes s r e (inl h) end limit = looked_err left ahead bytes r e h
last_err left ahead bytes s r e (inr h) end limit =
    subst (λ (z : Result Seen AnswerEnding). IfErr z (Stops left ahead)) (sym h.1)
    (stopped_head left ahead s (subst IsWithinHead e h.0) end limit)

-- want of memory may come at any time
pub no_memory : (left : Option (List ℕ)) (ahead : List ℕ) → Stops left ahead ending.NoMemory
no_memory left ahead = record { ends = tt; end = λ e. cc }

-- the bytes stop within a body
pub stopped_body : (left : Option (List ℕ)) (ahead : List ℕ) (s : Stop) → IsWithinBody ahead
    → IsEnded (Some s) left → s ≢ stop.InputLimit → Stops left ahead (ended_by s)
stopped_body left ahead stop.End h end limit = record { ends = inr h; end = λ e. end refl }
stopped_body left ahead stop.ReadFault h end limit = record { ends = inr h; end = λ e. cc }
stopped_body left ahead stop.InputLimit h end limit = absurd (limit refl)

err_is : (e f : AnswerEnding) (r : Result ℕ AnswerEnding) → r ≡ Err e → r ≡ Err f → e ≡ f
err_is e f r h k = cc

pub no_ok : (n : ℕ) (e : AnswerEnding) (r : Result ℕ AnswerEnding) → r ≡ Err e → r ≡ Ok n → ⊥
no_ok n e r h k = cc

fault_at : (bytes : List ℕ) (e f : AnswerEnding) → e ≡ f → EndsAs f bytes × IsFault f → EndsAs e bytes × IsFault e
fault_at bytes e f is h = subst (λ (z : AnswerEnding). EndsAs z bytes × IsFault z) (sym is) h

pub sized_err_at : (bytes : List ℕ) (h : ResponseHead) (rest : List ℕ) (e : AnswerEnding) (f : AnswerFraming) → f ≡ framing_of h → IsHead bytes h rest → IsSized f (Err e) → EndsAs e bytes × IsFault e
sized_err_at bytes h rest e (framing.Sized n) is x s = absurd (no_ok n e (Err e) refl s)
sized_err_at bytes h rest e framing.BadLength is x s = fault_at bytes e ending.BadHead (err_is e _ (Err e) refl s) (inr (h, rest, x, sym is), tt)
sized_err_at bytes h rest e (framing.TooLong n) is x s = fault_at bytes e (ending.TooLong n) (err_is e _ (Err e) refl s) ((h, rest, x, sym is), tt)
sized_err_at bytes h rest e (framing.Status c) is x s = fault_at bytes e (ending.Status c) (err_is e _ (Err e) refl s) ((h, rest, x, sym is), tt)

-- a head that says no fit length stops the reader
pub sized_err : (left : Option (List ℕ)) (ahead : List ℕ) (s : Seen) (e : AnswerEnding) → HasShown ahead s → IsSized s.framing (Err e) → Stops left ahead e
sized_err left ahead s e x h =
    let r = sized_err_at ahead x.0 (drop s.len ahead) e s.framing x.1.framing x.1.is_head h in
    refused left ahead e r.0 r.1

-- a head and its body, where enough bytes stand behind the head
pub shown_whole : (bytes : List ℕ) (s : Seen) (n : ℕ) → (h : ResponseHead) × ShowsHead bytes h s × (framing_of h ≡ framing.Sized n) → s.len + n ≤ length bytes → HasWhole bytes (record { seen = s; len = n })
shown_whole bytes s n h le = record { head = h.0; shows = h.1; framing = h.2; within = le }

pub shown_more_whole : (bytes more all : List ℕ) (s : Seen) (n : ℕ) → all ≡ bytes ++ more → (h : ResponseHead) × ShowsHead bytes h s × (framing_of h ≡ framing.Sized n) → s.len + n ≤ length all → HasWhole all (record { seen = s; len = n })
shown_more_whole bytes more all s n e h le = record { head = h.0; shows = shown_still bytes more all h.0 s e h.1; framing = h.2; within = le }

-- a head whose body is not whole
pub shown_within : (bytes more all : List ℕ) (s : Seen) (n : ℕ) → all ≡ bytes ++ more → (h : ResponseHead) × ShowsHead bytes h s × (framing_of h ≡ framing.Sized n) → length all < s.len + n → IsWithinBody all
shown_within bytes more all s n e h le =
    let x = shown_still bytes more all h.0 s e h.1 in
    record { head = h.0; rest = drop s.len all; len = n; is_head = x.is_head; framing = h.2; short = omega (arith, x.within, le, length-drop s.len all) }
