-- How a host's talk stands on its connection.
use Rattle.std.specs.Prelude.{◌≡◌, ℕ, ◌+◌, List, ◌++◌, Option, None, Some, Result, Ok, Err, ⊤, ◌⊎◌}
use Rattle.std.specs.Io.KnownBytes.{Appends, Consumes, IsAtEnd}
use Rattle.farm_kinds.specs.declared.outcomes.Task.{Task}
use Rattle.farm_kinds.specs.declared.events.Reply.{Reply}
use Rattle.case_run.specs.Cases.{TestCase}
use Rattle.wire_job.specs.JobValue.{JobValue}
use Rattle.judgehost.specs.declared.bench.BenchFault.{BenchFault}
use Rattle.judgehost.specs.declared.bench.BenchFault.TheVariants as fault
use Rattle.judgehost.specs.Benches.{Heard, Nothing, Refused}
use Rattle.http_door.specs.declared.answers.ending.AnswerEnding.TheVariants as ending
use Rattle.http_door.specs.Answers.{Answer, IsAnswer, AreAnswers, EndsAs}
use Rattle.remote_host.specs.declared.asks.Caller.{Caller}
use Rattle.remote_host.specs.declared.asks.Kept.{Kept}
use Rattle.remote_host.specs.declared.asks.Ask.{Ask}
use Rattle.remote_host.specs.declared.asks.Fetched.{Fetched}
use Rattle.remote_host.specs.declared.asks.Wrong.{Wrong}
use Rattle.remote_host.specs.declared.asks.Wrong.TheVariants as wrong
use Rattle.remote_host.specs.declared.asks.TalkEnd.TheVariants as end
use Rattle.remote_host.specs.Talk.{Talk, talk, turns, ended, after, fetches_in, posts_in, idle_next, fetch_next, job_next, post_next}
use Rattle.remote_host.specs.Requests.{spelled}

-- a connection and what its reader holds
pub record Line : Type 0 where
  pub held : Option (List ℕ)
  pub left : Option (List ℕ)
  -- taken, and in no response yet
  pub ahead : List ℕ

-- of the bytes that were taken since the start, these responses were given out, and the rest is ahead
pub record Took (start now : Line) (answers : List Answer) : Type 0 where
  pub bytes : List ℕ
  pub took : Consumes start.left now.left bytes
  pub are : AreAnswers (start.ahead ++ bytes) answers now.ahead

-- a request was put, and its response taken
pub record Exchanged (old new : Line) (asked : List ℕ) (a : Answer) : Type 0 where
  pub prefix : List ℕ
  pub puts : Appends old.held new.held asked
  pub took : Consumes old.left new.left prefix
  pub is : IsAnswer (old.ahead ++ prefix) a new.ahead

-- what of the responses is a wrong answer, where their bytes end so
abbrev pub IsHeadWrong : Wrong → List ℕ → Option (List ℕ) → Type 0
IsHeadWrong wrong.Cut bytes left = EndsAs ending.Cut bytes × IsAtEnd left
IsHeadWrong wrong.BadHead bytes left = EndsAs ending.BadHead bytes
IsHeadWrong (wrong.TooLong n) bytes left = EndsAs (ending.TooLong n) bytes
IsHeadWrong (wrong.Status code) bytes left = EndsAs (ending.Status code) bytes
IsHeadWrong wrong.BadBody bytes left = ⊥
IsHeadWrong (wrong.OtherTask task) bytes left = ⊥

-- where a response is wanted: none can be given, for this cause
abbrev pub IfHeadWrong : Option Wrong → List ℕ → Option (List ℕ) → Type 0
IfHeadWrong None bytes left = ⊤
IfHeadWrong (Some w) bytes left = IsHeadWrong w bytes left

-- a prefix of a request was put, and no response taken
pub record Stopped (old new : Line) (asked : List ℕ) (w : Option Wrong) : Type 0 where
  pub put : List ℕ
  pub rest : List ℕ
  pub whole : asked ≡ put ++ rest
  pub prefix : List ℕ
  pub puts : Appends old.held new.held put
  pub took : Consumes old.left new.left prefix
  pub ahead : new.ahead ≡ old.ahead ++ prefix
  pub why : IfHeadWrong w new.ahead new.left

-- Since the start these requests were put and these responses taken, and whatever comes, the talk goes on with `next`.
-- So many of the requests asked for a task, and so many posted a result.
pub record Stands (who : Caller) (start now : Line) (claims fetched posted : ℕ) (next : ℕ → List Answer → Talk) : Type 0 where
  pub asks : List Ask
  pub answers : List Answer
  pub puts : Appends start.held now.held (spelled who asks)
  pub took : Took start now answers
  pub goes : (n : ℕ) (more : List Answer) → talk who (claims + n) (answers ++ more) ≡ after asks (next n more)
  pub fetches_are : fetches_in asks ≡ fetched
  pub posts_are : posts_in asks ≡ posted

-- the talk has come to a wrong answer
abbrev pub IfWronged : Caller → Option Wrong → (claims : ℕ) → List Answer → Line → Type 0
IfWronged who None claims answers now = ⊤
IfWronged who (Some w) claims answers now =
    -- a response whose head or length is wrong, or one whose body is
    (IsHeadWrong w now.ahead now.left × ((n : ℕ) → (talk who (claims + n) answers).end ≡ end.Wants))
    ⊎ ((n : ℕ) (more : List Answer) → (talk who (claims + n) (answers ++ more)).end ≡ end.Wronged w)

-- Since the start a prefix of the talk's requests was put.
pub record Breaks (who : Caller) (start now : Line) (claims : ℕ) (w : Option Wrong) : Type 0 where
  pub answers : List Answer
  pub put : List ℕ
  pub puts : Appends start.held now.held put
  pub took : Took start now answers
  pub prefix : (n : ℕ) (more : List Answer)
      → (rest : List ℕ) × (spelled who (talk who (claims + n) (answers ++ more)).asks ≡ put ++ rest)
  pub wronged : IfWronged who w claims answers now

-- a request was asked from where the talk stood, and its response taken
abbrev pub Asked : Caller → Line → Line → ℕ → ℕ → ℕ → (ℕ → Answer → List Answer → Talk) → Option Wrong
    → List ℕ → Result (Unit {0}) BenchFault → Type 0
Asked who start now claims fetched posted f w body (Ok u) =
    (r : Answer) × (r.body ≡ body) × Stands who start now claims fetched posted (λ n more. f n r more)
Asked who start now claims fetched posted f w body (Err e) = Breaks who start now claims w

abbrev pub EnteredAt : Caller → Line → Line → ℕ → ℕ → ℕ → Option Wrong → Result (Unit {0}) BenchFault → Type 0
EnteredAt who start now claims fetched posted w (Ok u) = Stands who start now claims fetched posted (λ n more. turns who n None more)
EnteredAt who start now claims fetched posted w (Err e) = Breaks who start now claims w

abbrev pub FetchedAt : Caller → Line → Line → ℕ → ℕ → ℕ → Option Kept → Option Wrong
    → Result Fetched BenchFault → Type 0
FetchedAt who start now claims fetched posted kept w (Ok said) =
    Stands who start now claims fetched posted (λ n more. fetch_next who (turns who n) kept more (Some said))
FetchedAt who start now claims fetched posted kept w (Err e) = Breaks who start now claims w

abbrev pub JobAt : Caller → Line → Line → ℕ → ℕ → ℕ → Option Wrong → Task → Result JobValue BenchFault → Type 0
JobAt who start now claims fetched posted w task (Ok j) =
    Stands who start now claims fetched posted (λ n more. job_next (turns who n) task more (Ok j.case))
JobAt who start now claims fetched posted w task (Err e) = Breaks who start now claims w

abbrev pub PostedAt : Caller → Line → Line → ℕ → ℕ → ℕ → Option Kept → Option Wrong
    → Result (Option Reply) BenchFault → Type 0
PostedAt who start now claims fetched posted kept w (Ok said) =
    Stands who start now claims fetched posted (λ n more. post_next (turns who n kept) more (Some said))
PostedAt who start now claims fetched posted kept w (Err e) = Breaks who start now claims w

-- how the talk stands where the host was refused so
abbrev pub RefusedAt : Caller → Line → Line → ℕ → ℕ → ℕ → Option Wrong → BenchFault → Type 0
RefusedAt who start now claims fetched posted w fault.Link = Breaks who start now claims w
RefusedAt who start now claims fetched posted w fault.Holding = Stands who start now claims fetched posted (λ n more. ended end.Holding)
RefusedAt who start now claims fetched posted w fault.NoHost = Stands who start now claims fetched posted (λ n more. ended end.NoHost)
RefusedAt who start now claims fetched posted w (fault.NoCase task) = ⊥
RefusedAt who start now claims fetched posted w fault.NoMemory = Breaks who start now claims w

abbrev pub TurnedAt : Caller → Line → Line → ℕ → ℕ → ℕ → Option Kept → Option Wrong
    → Result (Option JobValue) BenchFault → Type 0
TurnedAt who start now claims fetched posted kept w (Ok None) =
    (w ≡ None) × Stands who start now claims fetched posted (λ n more. idle_next who (turns who n kept) more)
TurnedAt who start now claims fetched posted kept w (Ok (Some j)) =
    (w ≡ None) × Stands who start now claims fetched posted (λ n more. job_next (turns who n) j.task more (Ok j.case))
TurnedAt who start now claims fetched posted kept w (Err e) = RefusedAt who start now claims fetched posted w e

-- where nothing was heard: the next turn is to come, or the result of the pending task
abbrev pub GoesOnAt : Caller → Line → Line → ℕ → ℕ → ℕ → Option Kept → Option (Task × TestCase) → Type 0
GoesOnAt who start now claims fetched posted kept None = Stands who start now claims fetched posted (λ n more. turns who n kept more)
GoesOnAt who start now claims fetched posted kept (Some p) =
    Stands who start now claims fetched posted (λ n more. job_next (turns who n) p.0 more (Ok p.1))

-- how the talk stands of a host that keeps this, by what it has heard
abbrev pub IsAt : Caller → Line → Line → (claims posts : ℕ) → Option Kept → Option (Task × TestCase) → Option Wrong
    → Option Heard → Type 0
IsAt who start now claims posts kept pending w None = (w ≡ None) × GoesOnAt who start now claims claims posts kept pending
IsAt who start now claims posts kept pending w (Some Nothing) =
    (w ≡ None) × (pending ≡ None) × Stands who start now claims claims posts (λ n more. idle_next who (turns who n kept) more)
IsAt who start now claims posts kept pending w (Some (Refused e)) = RefusedAt who start now claims claims posts w e

-- what the bench met first
abbrev pub first_wrong : Option Wrong → Wrong → Option Wrong
first_wrong None w = Some w
first_wrong (Some v) w = Some v

-- the link failed, or memory was wanting
abbrev pub IsPlain : BenchFault → Type 0
IsPlain fault.Link = ⊤
IsPlain fault.Holding = ⊥
IsPlain fault.NoHost = ⊥
IsPlain (fault.NoCase task) = ⊥
IsPlain fault.NoMemory = ⊤
