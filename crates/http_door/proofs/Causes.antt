-- When the source of a reader of requests failed.
use Rattle.std.proofs.Common.{ℕ, ◌≡◌, ◌≢◌, ◌<◌, List, inl, inr, Some, Result, Ok, Err, Bool, true, false, length, refl, sym, ◌∙◌, subst, arith}
use Rattle.farm_io.specs.declared.block.Stop.{Stop}
use Rattle.farm_io.specs.declared.block.Stop.TheVariants as stop
use Rattle.http_door.specs.declared.heads.Seen.{Seen}
use Rattle.http_door.specs.declared.ending.Ending.{Ending}
use Rattle.http_door.specs.declared.ending.Ending.TheVariants as ending
use Rattle.http_door.specs.Heads.{head_limit}
use Rattle.http_door.specs.Requests.{HoldsHead, IsRefusal}
use Rattle.http_door.specs.WindowValue.{HasCauseFill}
use Rattle.http_door.specs.Finding.{IsLooked, StopsOrShows, ended_by}
use Rattle.http_door.specs.Reading.{HasCauseGiven}
use Rattle.http_door.proofs.Findings.{rose_from}

-- it did not
pub unfailed : {X : Type 0} (before now : ℕ) (r : Result X Ending) → now ≡ before → r ≢ Err ending.ReadFault → HasCauseGiven before now r
unfailed before now r same other = record { later = omega (arith, same); failed = λ is. absurd (other is); kept = λ _ _. same }

-- what stands at the front of few bytes that hold no head is no head
bad_head : (bytes : List ℕ) (r : Result Seen Ending) → ¬ HoldsHead bytes → length bytes < head_limit → IsLooked bytes (Some r) → r ≡ Err ending.BadHead
bad_head bytes (Ok s) none short h = absurd (none (h.0, _, h.1.is_head))
bad_head bytes (Err ending.End) none short h = absurd h.1
bad_head bytes (Err ending.Cut) none short h = absurd h.1
bad_head bytes (Err ending.BadHead) none short h = refl
bad_head bytes (Err (ending.HeadTooLong n)) none short h = let long = h.0.1.long in absurd (omega (arith, short, long))
bad_head bytes (Err (ending.BodyTooLong n)) none short h = absurd (none (h.0.0, h.0.1, h.0.2))
bad_head bytes (Err ending.NoLength) none short h = absurd (none (h.0.0, h.0.1, h.0.2))
bad_head bytes (Err ending.ReadFault) none short h = absurd h.1
bad_head bytes (Err ending.InputLimit) none short h = absurd h.1
bad_head bytes (Err ending.NoMemory) none short h = absurd h.1

looked_fault : (bytes : List ℕ) (r : Result Seen Ending) → IsLooked bytes (Some r) → r ≢ Err ending.ReadFault
looked_fault bytes (Ok s) h is = cc
looked_fault bytes (Err e) h is = let same : e ≡ ending.ReadFault = cc in subst IsRefusal same h.1

-- what was taken could be looked at
pub looked_cause : (before now : ℕ) (bytes : List ℕ) (r : Result Seen Ending) → now ≡ before → IsLooked bytes (Some r) → HasCauseGiven before now r
looked_cause before now bytes r same h = unfailed before now r same (looked_fault bytes r h)

-- the source stopped
pub stopped_cause : {X : Type 0} (before was now : ℕ) (s : Stop) (empty : Bool) → was ≡ before → HasCauseFill was now (Some s) → HasCauseGiven {X = X} before now (Err (ended_by s empty))
stopped_cause before was now stop.End true same cause = unfailed before now _ (cause.kept (λ e. cc) ∙ same) (λ e. cc)
stopped_cause before was now stop.End false same cause = unfailed before now _ (cause.kept (λ e. cc) ∙ same) (λ e. cc)
stopped_cause before was now stop.ReadFault empty same cause =
    let later = cause.later in
    record { later = omega (arith, same, later); failed = λ _. rose_from before was now (omega (arith, same)) (cause.failed refl); kept = λ other _. absurd (other refl) }
stopped_cause before was now stop.InputLimit empty same cause = unfailed before now _ (cause.kept (λ e. cc) ∙ same) (λ e. cc)

-- the source stopped behind few bytes that hold no head
pub last_cause : (before was now : ℕ) (ahead bytes : List ℕ) (s : Stop) (r : Result Seen Ending) → bytes ≡ ahead → ¬ HoldsHead ahead → length ahead < head_limit → was ≡ before → HasCauseFill was now (Some s) → StopsOrShows bytes s r
    → HasCauseGiven before now r
last_cause before was now ahead bytes s r e none short same cause (inl h) =
    let bad = bad_head bytes r (subst (λ (z : List ℕ). ¬ HoldsHead z) (sym e) none) (subst (λ (z : List ℕ). length z < head_limit) (sym e) short) h in
    let later = cause.later in
    record {
      later = omega (arith, same, later);
      failed = λ is. (let both : ◌≡◌ {A = Result Seen Ending} (Err ending.BadHead) (Err ending.ReadFault) = sym bad ∙ is in cc);
      kept = λ _ other. absurd (other bad);
    }
last_cause before was now ahead bytes s r e none short same cause (inr h) =
    subst (λ (z : Result Seen Ending). HasCauseGiven before now z) (sym h.1) (stopped_cause before was now s _ same cause)
