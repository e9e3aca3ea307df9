-- When the source of a reader of responses failed.
use Rattle.std.proofs.Common.{ℕ, ◌≡◌, ◌≢◌, List, inl, inr, Some, Result, Ok, Err, refl, sym, ◌∙◌, subst, arith}
use Rattle.farm_io.specs.declared.block.Stop.{Stop}
use Rattle.farm_io.specs.declared.block.Stop.TheVariants as stop
use Rattle.http_door.specs.declared.answers.heads.Seen.{Seen}
use Rattle.http_door.specs.declared.answers.ending.AnswerEnding.{AnswerEnding}
use Rattle.http_door.specs.declared.answers.ending.AnswerEnding.TheVariants as ending
use Rattle.http_door.specs.Answers.{HoldsHead, IsFault}
use Rattle.http_door.specs.WindowValue.{HasCauseFill}
use Rattle.http_door.specs.AnswerFinding.{IsLooked, StopsOrShows, ended_by}
use Rattle.http_door.specs.AnswerReading.{HasCauseRead}
use Rattle.http_door.proofs.Findings.{rose_from}

-- it did not
pub unfailed : {X : Type 0} (before now : ℕ) (r : Result X AnswerEnding) → now ≡ before → r ≢ Err ending.ReadFault → HasCauseRead before now r
unfailed before now r same other = record { later = omega (arith, same); failed = λ is. absurd (other is); kept = λ _ _. same }

-- what stands at the front of bytes that hold no head is no head
bad_head : (bytes : List ℕ) (r : Result Seen AnswerEnding) → ¬ HoldsHead bytes → IsLooked bytes (Some r) → r ≡ Err ending.BadHead
bad_head bytes (Ok s) none h = absurd (none (h.0, _, h.1.is_head))
bad_head bytes (Err ending.Cut) none h = absurd h.1
bad_head bytes (Err ending.BadHead) none h = refl
bad_head bytes (Err (ending.TooLong n)) none h = absurd (none (h.0.0, h.0.1, h.0.2))
bad_head bytes (Err (ending.Status code)) none h = absurd (none (h.0.0, h.0.1, h.0.2))
bad_head bytes (Err ending.ReadFault) none h = absurd h.1
bad_head bytes (Err ending.NoMemory) none h = absurd h.1

looked_fault : (bytes : List ℕ) (r : Result Seen AnswerEnding) → IsLooked bytes (Some r) → r ≢ Err ending.ReadFault
looked_fault bytes (Ok s) h is = cc
looked_fault bytes (Err e) h is = let same : e ≡ ending.ReadFault = cc in subst IsFault same h.1

-- what was taken could be looked at
pub looked_cause : (before now : ℕ) (bytes : List ℕ) (r : Result Seen AnswerEnding) → now ≡ before → IsLooked bytes (Some r) → HasCauseRead before now r
looked_cause before now bytes r same h = unfailed before now r same (looked_fault bytes r h)

-- the source stopped
pub stopped_cause : {X : Type 0} (before was now : ℕ) (s : Stop) → was ≡ before → HasCauseFill was now (Some s) → HasCauseRead {X = X} before now (Err (ended_by s))
stopped_cause before was now stop.End same cause = unfailed before now _ (cause.kept (λ e. cc) ∙ same) (λ e. cc)
stopped_cause before was now stop.ReadFault same cause =
    let later = cause.later in
    record { later = omega (arith, same, later); failed = λ _. rose_from before was now (omega (arith, same)) (cause.failed refl); kept = λ other _. absurd (other refl) }
stopped_cause before was now stop.InputLimit same cause = unfailed before now _ (cause.kept (λ e. cc) ∙ same) (λ e. cc)

-- the source stopped behind bytes that hold no head
pub last_cause : (before was now : ℕ) (ahead bytes : List ℕ) (s : Stop) (r : Result Seen AnswerEnding) → bytes ≡ ahead → ¬ HoldsHead ahead → was ≡ before → HasCauseFill was now (Some s) → StopsOrShows bytes s r → HasCauseRead before now r
last_cause before was now ahead bytes s r e none same cause (inl h) =
    let bad = bad_head bytes r (subst (λ (z : List ℕ). ¬ HoldsHead z) (sym e) none) h in
    let later = cause.later in
    record {
      later = omega (arith, same, later);
      failed = λ is. (let both : ◌≡◌ {A = Result Seen AnswerEnding} (Err ending.BadHead) (Err ending.ReadFault) = sym bad ∙ is in cc);
      kept = λ _ other. absurd (other bad);
    }
last_cause before was now ahead bytes s r e none same cause (inr h) =
    subst (λ (z : Result Seen AnswerEnding). HasCauseRead before now z) (sym h.1) (stopped_cause before was now s same cause)
