-- A response that is given, as the first of those of the bytes.
use Rattle.std.proofs.Common.{ℕ, ◌≡◌, ◌≤◌, List, [], Option, Result, Ok, Err, refl, sym, ap, ◌∙◌, subst, arith, length, take, drop}
use Rattle.std.proofs.lemmas.List.{append-nil, take-append-drop, length-take, length-drop}
use Rattle.std.proofs.KnownBytes.{Consumes-nil}
use Rattle.http_door.specs.declared.answers.fields.AnswerFraming.TheVariants as framing
use Rattle.http_door.specs.declared.answers.finding.Whole.{Whole}
use Rattle.http_door.specs.declared.answers.ending.AnswerEnding.{AnswerEnding}
use Rattle.http_door.specs.declared.answers.ending.AnswerEnding.TheVariants as ending
use Rattle.http_door.specs.Answers.{IsHead, IsAnswer, EndsAs}
use Rattle.http_door.specs.AnswerFinding.{HasWhole, Stops}
use Rattle.http_door.specs.WindowValue.{WindowValue, Fills}
use Rattle.http_door.specs.AnswerReading.{answer_with, GivesIn, ReadsIn}

pub ended_same : (e f : AnswerEnding) (r : Result Whole AnswerEnding) → r ≡ Err e → r ≡ Err f → e ≡ f
ended_same e f r h k = cc

answer_given : (bytes : List ℕ) (w : Whole) → HasWhole bytes w
    → (w.len ≤ length (drop w.seen.len bytes)) × IsAnswer bytes (answer_with w.seen.code (take w.len (drop w.seen.len bytes))) (drop w.len (drop w.seen.len bytes))
answer_given bytes w x =
    let behind = drop w.seen.len bytes in
    let some : w.len ≤ length behind = omega (arith, x.within, length-drop w.seen.len bytes) in
    let size : length (take w.len behind) ≡ w.len = omega (arith, some, length-take w.len behind) in (
      some,
      record {
        head = x.head;
        is_head = subst (λ (z : List ℕ). IsHead bytes x.head z) (sym (take-append-drop w.len behind)) x.shows.is_head;
        framing = x.framing ∙ ap framing.Sized (sym size);
        code = x.shows.code;
      },
    )

pub reads_answer : (l1 l2 : Option (List ℕ)) (old w new : WindowValue) (whole : Whole) → Fills l1 l2 old w → HasWhole w.ahead whole
    → new ≡ record w { ahead = drop whole.seen.len w.ahead } → ReadsIn l1 l2 old new (Ok whole)
reads_answer l1 l2 old w new whole f x n =
    rw n
    (record {
      prefix = f.prefix;
      took = f.took;
      gives = subst (λ (z : List ℕ). GivesIn z (drop whole.seen.len w.ahead) (Ok whole)) f.whole (answer_given w.ahead whole x);
      end = λ e. cc;
    })

-- no response stands there
pub reads_end : (l1 l2 : Option (List ℕ)) (old new : WindowValue) (e : AnswerEnding) → Fills l1 l2 old new → Stops l2 new.ahead e → ReadsIn l1 l2 old new (Err e)
reads_end l1 l2 old new e f s = record {
  prefix = f.prefix;
  took = f.took;
  gives = (subst (EndsAs e) f.whole s.ends, f.whole);
  end = λ k. s.end (ended_same e ending.Cut (Err e) refl k);
}

-- want of memory leaves all
pub reads_nothing : (l : Option (List ℕ)) (old new : WindowValue) → new.ahead ≡ old.ahead → ReadsIn l l old new (Err ending.NoMemory)
reads_nothing l old new e = record {
  prefix = [];
  took = Consumes-nil l;
  gives = (tt, e ∙ sym (append-nil old.ahead));
  end = λ k. cc;
}
