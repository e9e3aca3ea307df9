-- A request that is put, and the bytes that are taken for its response.
use Rattle.std.proofs.Common.{ℕ, ◌≡◌, List, [], Option, None, Result, Err, refl, sym, ap, ◌∙◌, subst, take, drop}
use Rattle.std.specs.Io.KnownBytes.{Appends, Consumes, IsAtEnd}
use Rattle.std.proofs.lemmas.List.{append-nil, take-append-drop}
use Rattle.std.proofs.KnownBytes.{Consumes-nil}
use Rattle.farm_io.specs.declared.streams.PutEnd.TheVariants as put
use Rattle.farm_io.specs.Streams.{Puts}
use Rattle.http_door.specs.declared.answers.ending.AnswerEnding.{AnswerEnding}
use Rattle.http_door.specs.declared.answers.ending.AnswerEnding.TheVariants as ending
use Rattle.http_door.specs.Answers.{EndsAs}
use Rattle.http_door.specs.AnswerReaderValue.{ReaderValue}
use Rattle.http_door.specs.AnswerReading.{Reads}
use Rattle.remote_host.specs.declared.exchange.Halt.{Halt}
use Rattle.remote_host.specs.Standing.{IfHeadWrong, Stopped}
use Rattle.remote_host.specs.Halts.{halt_of, head_wrong}

pub stopped_put : (held held' left left' : Option (List ℕ)) (ahead request : List ℕ) → Puts held held' put.Failed request → left' ≡ left
    → Stopped (record { held = held; left = left; ahead = ahead }) (record { held = held'; left = left'; ahead = ahead }) request None
stopped_put held held' left left' ahead request p e = record {
  put = take p.0 request;
  rest = drop p.0 request;
  whole = sym (take-append-drop p.0 request);
  prefix = [];
  puts = p.2;
  took = subst (λ (z : Option (List ℕ)). Consumes left z []) (sym e) (Consumes-nil left);
  ahead = sym (append-nil ahead);
  why = tt;
}

why_of : (e : AnswerEnding) (bytes : List ℕ) (left : Option (List ℕ)) → EndsAs e bytes → (e ≡ ending.Cut → IsAtEnd left) → IfHeadWrong (head_wrong (halt_of e)) bytes left
why_of ending.Cut bytes left h k = (h, k refl)
why_of ending.BadHead bytes left h k = h
why_of (ending.TooLong n) bytes left h k = h
why_of (ending.Status code) bytes left h k = h
why_of ending.ReadFault bytes left h k = tt
why_of ending.NoMemory bytes left h k = tt

pub stopped_read : (held held1 held2 left left1 left2 : Option (List ℕ)) (old new : ReaderValue) (request : List ℕ) (e : AnswerEnding)
    → Puts held held1 put.Done request → left1 ≡ left → Reads left1 left2 old new (Err e) → held2 ≡ held1
    → Stopped (record { held = held; left = left; ahead = old.ahead }) (record { held = held2; left = left2; ahead = new.ahead }) request (head_wrong (halt_of e))
stopped_read held held1 held2 left left1 left2 old new request e p l r h = record {
  put = request;
  rest = [];
  whole = sym (append-nil request);
  prefix = r.prefix;
  puts = subst (λ (z : Option (List ℕ)). Appends held z request) (sym h) p;
  took = subst (λ (z : Option (List ℕ)). Consumes z left2 r.prefix) l r.took;
  ahead = r.gives.1;
  why = why_of e new.ahead left2 (subst (EndsAs e) (sym r.gives.1) r.gives.0) (λ k. r.end (ap Err k));
}

pub halted_as : (e f : AnswerEnding) (h : Halt) → h ≡ halt_of e → ◌≡◌ {A = Result ℕ AnswerEnding} (Err e) (Err f) → ◌≡◌ {A = Result (Unit {0}) Halt} (Err h) (Err (halt_of f))
halted_as e f h is q = let same : e ≡ f = cc in ap Err (is ∙ ap halt_of same)
