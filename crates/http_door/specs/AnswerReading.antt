-- What one call of a reader of responses reads.
use Rattle.std.specs.Prelude.{◌≡◌, ◌≢◌, ℕ, ◌≤◌, List, ◌++◌, length, take, drop, Option, Result, Ok, Err}
use Rattle.std.specs.Io.KnownBytes.{Consumes, IsAtEnd}
use Rattle.farm_io.specs.Streams.{Rose}
use Rattle.http_door.specs.declared.answers.ending.AnswerEnding.{AnswerEnding}
use Rattle.http_door.specs.declared.answers.ending.AnswerEnding.TheVariants as ending
use Rattle.http_door.specs.declared.answers.finding.Whole.{Whole}
use Rattle.http_door.specs.Answers.{Answer, IsAnswer, EndsAs}
use Rattle.http_door.specs.WindowValue.{WindowValue}
use Rattle.http_door.specs.AnswerReaderValue.{ReaderValue}

abbrev pub answer_with : ℕ → List ℕ → Answer
answer_with code body = record { code = code; body = body }

-- Of the bytes that were held and taken the first response is given, and the rest is left; or all are left.
abbrev pub Gives : List ℕ → List ℕ → List ℕ → Result ℕ AnswerEnding → Type 0
Gives bytes rest body (Ok code) = IsAnswer bytes (answer_with code body) rest
Gives bytes rest body (Err e) = EndsAs e bytes × (rest ≡ bytes)

-- A prefix of what the source had left was taken, behind what the reader held. Where the bytes were cut, the source has
-- nothing left.
pub record Reads (left left' : Option (List ℕ)) (old new : ReaderValue) (result : Result ℕ AnswerEnding) : Type 0 where
  pub prefix : List ℕ
  pub took : Consumes left left' prefix
  pub gives : Gives (old.ahead ++ prefix) new.ahead new.body result
  pub end : result ≡ Err ending.Cut → IsAtEnd left'

-- the same over a window, where the body is still part of what is left
abbrev pub GivesIn : List ℕ → List ℕ → Result Whole AnswerEnding → Type 0
GivesIn bytes ahead (Ok w) =
    (w.len ≤ length ahead) × IsAnswer bytes (answer_with w.seen.code (take w.len ahead)) (drop w.len ahead)
GivesIn bytes ahead (Err e) = EndsAs e bytes × (ahead ≡ bytes)

pub record ReadsIn (left left' : Option (List ℕ)) (old new : WindowValue) (result : Result Whole AnswerEnding) : Type 0 where
  pub prefix : List ℕ
  pub took : Consumes left left' prefix
  pub gives : GivesIn (old.ahead ++ prefix) new.ahead result
  pub end : result ≡ Err ending.Cut → IsAtEnd left'

-- The count of the source's faults never falls, and rises where the source failed and at nothing else. Where it failed
-- behind bytes that no head begins with, these are told.
pub record HasCauseRead {X : Type 0} (before now : ℕ) (result : Result X AnswerEnding) : Type 0 where
  pub later : before ≤ now
  pub failed : result ≡ Err ending.ReadFault → Rose before now
  pub kept : result ≢ Err ending.ReadFault → result ≢ Err ending.BadHead → now ≡ before
