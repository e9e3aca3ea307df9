-- The talk of a remote host: what it asks, as a function of the responses that it takes.
use Rattle.std.specs.Prelude.{◌+◌, ◌==◌, ℕ, zero, suc, List, [], ◌∷◌, if◌then◌else◌, Option, None, Some, Result, Ok, Err}
use Rattle.farm_kinds.specs.declared.outcomes.Task.{Task}
use Rattle.farm_kinds.specs.declared.events.Reply.{Reply}
use Rattle.case_run.specs.Cases.{TestCase}
use Rattle.case_run.specs.Values.{case_value}
use Rattle.http_door.specs.Answers.{Answer}
use Rattle.remote_host.specs.declared.asks.Caller.{Caller}
use Rattle.remote_host.specs.declared.asks.Kept.{Kept}
use Rattle.remote_host.specs.declared.asks.Ask.{Ask}
use Rattle.remote_host.specs.declared.asks.Ask.TheVariants as ask
use Rattle.remote_host.specs.declared.asks.Wrong.{Wrong}
use Rattle.remote_host.specs.declared.asks.Wrong.TheVariants as wrong
use Rattle.remote_host.specs.declared.asks.TalkEnd.{TalkEnd}
use Rattle.remote_host.specs.declared.asks.TalkEnd.TheVariants as end
use Rattle.remote_host.specs.declared.asks.Fetched.{Fetched}
use Rattle.remote_host.specs.declared.asks.Fetched.TheVariants as fetched
use Rattle.remote_host.specs.Bodies.{enters, fetch_said, job_said, post_said}

-- the requests of a talk, in order, and how it stands behind them
pub record Talk : Type 0 where
  pub asks : List Ask
  pub end : TalkEnd

-- one more, where the request asks for a task
abbrev pub count_fetch : Ask → ℕ → ℕ
count_fetch ask.Enter n = n
count_fetch ask.Fetch n = n + 1
count_fetch (ask.Job task) n = n
count_fetch (ask.JobRest task) n = n
count_fetch (ask.Post task kind) n = n

-- one more, where the request posts a result
abbrev pub count_post : Ask → ℕ → ℕ
count_post ask.Enter n = n
count_post ask.Fetch n = n
count_post (ask.Job task) n = n
count_post (ask.JobRest task) n = n
count_post (ask.Post task kind) n = n + 1

-- how many of the requests ask for a task
abbrev pub fetches_in : List Ask → ℕ
fetches_in [] = 0
fetches_in (a ∷ us) = count_fetch a (fetches_in us)

-- how many of the requests post a result
abbrev pub posts_in : List Ask → ℕ
posts_in [] = 0
posts_in (a ∷ us) = count_post a (posts_in us)

abbrev pub ended : TalkEnd → Talk
ended e = record { asks = []; end = e }

abbrev pub onto : Ask → Talk → Talk
onto a t = record { asks = a ∷ t.asks; end = t.end }

-- behind these requests
abbrev pub after : List Ask → Talk → Talk
after [] t = t
after (a ∷ us) t = onto a (after us t)

-- what comes behind the response to a request, or the response is wanted
abbrev pub answered : (Answer → List Answer → Talk) → List Answer → Talk
answered f [] = ended end.Wants
answered f (a ∷ us) = f a us

-- what comes behind a post that was answered so: the further turns
abbrev pub post_next : (List Answer → Talk) → List Answer → Option (Option Reply) → Talk
post_next turns us None = ended (end.Wronged wrong.BadBody)
post_next turns us (Some None) = ended end.NoHost
post_next turns us (Some (Some reply)) = turns us

-- what is kept behind the job of a task: its judging and its image
abbrev pub kept_of : Task → TestCase → Option Kept
kept_of task c = Some (record { judging = task.judging; image = c.image })

-- the image that is kept, where it is of the task's judging
abbrev pub image_for : Option Kept → Task → Option (List ℕ)
image_for None task = None
image_for (Some kept) task = if kept.judging == task.judging then Some kept.image else None

-- what asks for the case of a task, by whether its image is there
abbrev pub case_ask : Option (List ℕ) → Task → Ask
case_ask None task = ask.Job task
case_ask (Some image) task = ask.JobRest task

-- behind the job of a task: its result, which is the value of the job's case, and then the turns that keep its image
abbrev pub job_next : (Option Kept → List Answer → Talk) → Task → List Answer → Result TestCase Wrong → Talk
job_next turns task us (Err w) = ended (end.Wronged w)
job_next turns task us (Ok c) =
    onto (ask.Post task (case_value c)) (answered (λ a more. post_next (turns (kept_of task c)) more (post_said a.body)) us)

-- the case of a task is asked for, with its image or to be run with this one
abbrev pub case_next : (Option Kept → List Answer → Talk) → Option (List ℕ) → Task → List Answer → Talk
case_next turns has task us =
    onto (case_ask has task) (answered (λ a more. job_next turns task more (job_said has task a.body)) us)

-- where no task is open: the talk ends, or goes on where the host waits for one
abbrev pub idle_next : Caller → (List Answer → Talk) → List Answer → Talk
idle_next who turns us = if who.waits then turns us else ended end.Idle

-- behind `fetch-work`: the job of the task that was handed out, for which the image that is kept may serve
abbrev pub fetch_next : Caller → (Option Kept → List Answer → Talk) → Option Kept → List Answer → Option Fetched → Talk
fetch_next who turns kept us None = ended (end.Wronged wrong.BadBody)
fetch_next who turns kept us (Some fetched.Nothing) = idle_next who (turns kept) us
fetch_next who turns kept us (Some fetched.NoHost) = ended end.NoHost
fetch_next who turns kept us (Some fetched.Holding) = ended end.Holding
fetch_next who turns kept us (Some (fetched.Task task)) = case_next turns (image_for kept task) task us

-- so many turns at most, of a host that keeps this
abbrev pub turns : Caller → ℕ → Option Kept → List Answer → Talk
turns who zero kept us = ended end.Spent
turns who (suc n) kept us =
    onto ask.Fetch (answered (λ a more. fetch_next who (turns who n) kept more (fetch_said a.body)) us)

abbrev pub enter_next : (List Answer → Talk) → List Answer → Option (Unit {0}) → Talk
enter_next turns us None = ended (end.Wronged wrong.BadBody)
enter_next turns us (Some u) = turns us

-- the host enters its name, and then come so many turns at most
abbrev pub talk : Caller → ℕ → List Answer → Talk
talk who fuel us = onto ask.Enter (answered (λ a more. enter_next (turns who fuel None) more (enters a.body)) us)
