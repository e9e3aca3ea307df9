-- A turn, by what it heard.
use Rattle.std.proofs.Common.{ℕ, suc, ◌≡◌, ◌+◌, List, Option, None, Some, Result, Ok, Err, true, refl, sym, ap, subst}
use Rattle.farm_kinds.specs.declared.outcomes.Task.{Task}
use Rattle.farm_kinds.specs.declared.kinds.Kind.{Kind}
use Rattle.farm_kinds.specs.declared.events.Reply.{Reply}
use Rattle.case_run.specs.Cases.{TestCase}
use Rattle.case_run.specs.Values.{case_value}
use Rattle.judgehost.specs.declared.bench.BenchFault.{BenchFault}
use Rattle.judgehost.specs.declared.bench.BenchFault.TheVariants as fault
use Rattle.judgehost.specs.Benches.{Heard, Nothing, Refused}
use Rattle.wire_job.specs.JobValue.{JobValue}
use Rattle.http_door.specs.Answers.{Answer}
use Rattle.remote_host.specs.declared.asks.Ask.TheVariants as ask
use Rattle.remote_host.specs.declared.asks.Fetched.{Fetched}
use Rattle.remote_host.specs.declared.asks.Fetched.TheVariants as says
use Rattle.remote_host.specs.declared.asks.Caller.{Caller}
use Rattle.remote_host.specs.declared.asks.Kept.{Kept}
use Rattle.remote_host.specs.declared.asks.Wrong.{Wrong}
use Rattle.remote_host.specs.Bodies.{post_said}
use Rattle.remote_host.specs.Talk.{Talk, turns, onto, answered, idle_next, image_for, kept_of, job_next, case_next, post_next}
use Rattle.remote_host.specs.Standing.{Line, Stands, Breaks, FetchedAt, PostedAt, RefusedAt, TurnedAt, GoesOnAt, IsAt, IsPlain}
use Rattle.remote_host.specs.Benches.{pending_job, kept_behind}
use Rattle.remote_host.proofs.Talking.{stands_turn, stands_as}

pub plain_refused : (who : Caller) (start now : Line) (claims fetched posted : ℕ) (w : Option Wrong) (e : BenchFault) → IsPlain e → Breaks who start now claims w → RefusedAt who start now claims fetched posted w e
plain_refused who start now claims fetched posted w fault.Link p b = b
plain_refused who start now claims fetched posted w fault.Holding p b = absurd p
plain_refused who start now claims fetched posted w fault.NoHost p b = absurd p
plain_refused who start now claims fetched posted w (fault.NoCase task) p b = absurd p
plain_refused who start now claims fetched posted w fault.NoMemory p b = b

-- what was fetched, by its variant
pub said_is : (who : Caller) (start now : Line) (claims fetched posted : ℕ) (kept : Option Kept) (w : Option Wrong) (said want : Fetched) → said ≡ want → FetchedAt who start now claims fetched posted kept w (Ok said) → FetchedAt who start now claims fetched posted kept w (Ok want)
said_is who start now claims fetched posted kept w said want is x = subst (λ (z : Fetched). FetchedAt who start now claims fetched posted kept w (Ok z)) is x

-- before the request for the case of a task that was fetched
pub fetched_case : (who : Caller) (start now : Line) (claims fetched posted : ℕ) (kept : Option Kept) (w : Option Wrong) (said : Fetched) (task : Task) (has : Option (List ℕ)) → said ≡ says.Task task → has ≡ image_for kept task
    → FetchedAt who start now claims fetched posted kept w (Ok said) → Stands who start now claims fetched posted (λ n more. case_next (turns who n) has task more)
fetched_case who start now claims fetched posted kept w said task has is e x =
    subst (λ (z : Option (List ℕ)). Stands who start now claims fetched posted (λ n more. case_next (turns who n) z task more)) (sym e)
    (said_is who start now claims fetched posted kept w said (says.Task task) is x)

-- what a turn gave, by whether it gave a job
pub turned_is : (who : Caller) (start now : Line) (claims fetched made posted : ℕ) (kept : Option Kept) (w : Option Wrong) (said want : Option JobValue) → fetched ≡ made → said ≡ want
    → TurnedAt who start now claims fetched posted kept w (Ok said) → TurnedAt who start now claims made posted kept w (Ok want)
turned_is who start now claims fetched made posted kept w said want m is x =
    subst (λ (z : ℕ). TurnedAt who start now claims z posted kept w (Ok want)) m (subst (λ (z : Option JobValue). TurnedAt who start now claims fetched posted kept w (Ok z)) is x)

-- a turn that was refused
pub turned_refused : (who : Caller) (start now : Line) (claims fetched made posted : ℕ) (w : Option Wrong) (e : BenchFault) → fetched ≡ made
    → RefusedAt who start now claims fetched posted w e → RefusedAt who start now claims made posted w e
turned_refused who start now claims fetched made posted w e m x = subst (λ (z : ℕ). RefusedAt who start now claims z posted w e) m x

-- what a post gave, by whether it gave a reply
pub posted_is : (who : Caller) (start now : Line) (claims fetched posted : ℕ) (kept : Option Kept) (w : Option Wrong) (said want : Option Reply) → said ≡ want → PostedAt who start now claims fetched posted kept w (Ok said) → PostedAt who start now claims fetched posted kept w (Ok want)
posted_is who start now claims fetched posted kept w said want is x = subst (λ (z : Option Reply). PostedAt who start now claims fetched posted kept w (Ok z)) is x

pub job_turned : (who : Caller) (start now : Line) (claims fetched posted : ℕ) (task : Task) (j : JobValue) → j.task ≡ task
    → Stands who start now claims fetched posted (λ n more. job_next (turns who n) task more (Ok j.case)) → Stands who start now claims fetched posted (λ n more. job_next (turns who n) j.task more (Ok j.case))
job_turned who start now claims fetched posted task j e s =
    subst (λ (t : Task). Stands who start now claims fetched posted (λ n more. job_next (turns who n) t more (Ok j.case))) (sym e) s

-- before a claim
pub claim_from : (who : Caller) (start now : Line) (claims next posts : ℕ) (kept : Option Kept) (p : Option (Task × TestCase)) (w : Option Wrong) (h : Option Heard) → next ≡ claims + 1 → IsAt who start now claims posts kept p w h → h ≡ None → p ≡ None
    → (w ≡ None) × Stands who start now next claims posts (λ n more. turns who (suc n) kept more)
claim_from who start now claims next posts kept p w h e s hn pn =
    let t = subst (IsAt who start now claims posts kept p w) hn s in
    (t.0, subst (λ (z : ℕ). Stands who start now z claims posts (λ n more. turns who (suc n) kept more)) (sym e) (stands_turn who start now claims claims posts kept (subst (GoesOnAt who start now claims claims posts kept) pn t.1)))

idle_on : (who : Caller) (f : List Answer → Talk) (us : List Answer) → who.waits ≡ true → idle_next who f us ≡ f us
idle_on who f us h = rw h refl

-- the host that waits asks again
pub resumed : (who : Caller) (start now : Line) (claims next posts : ℕ) (kept : Option Kept) (p : Option (Task × TestCase)) (w : Option Wrong) (h : Option Heard) → next ≡ claims → who.waits ≡ true → IsAt who start now claims posts kept p w h → h ≡ Some Nothing
    → IsAt who start now next posts kept p w None
resumed who start now claims next posts kept p w h e on s is =
    let t = subst (IsAt who start now claims posts kept p w) is s in
    let g = stands_as who start now claims claims posts (λ n more. idle_next who (turns who n kept) more) (λ n more. turns who n kept more) (λ n more. idle_on who (turns who n kept) more on) t.2 in
    (t.0, subst (λ (z : Option (Task × TestCase)). GoesOnAt who start now next next posts kept z) (sym t.1) (subst (λ (z : ℕ). Stands who start now z z posts (λ n more. turns who n kept more)) (sym e) g))

-- the refusal that was heard is the one that was answered
pub refused_is : {A : Type 0} (e f : BenchFault) → ◌≡◌ {A = Option Heard} (Some (Refused e)) (Some (Refused f)) → ◌≡◌ {A = Result A BenchFault} (Err e) (Err f)
refused_is {A} e f q = let same : e ≡ f = cc in ap Err same

pub heard_is : {A : Type 0} (e f : BenchFault) → ◌≡◌ {A = Result A BenchFault} (Err e) (Err f) → ◌≡◌ {A = Option Heard} (Some (Refused e)) (Some (Refused f))
heard_is {A} e f q = let same : e ≡ f = cc in ap (λ (z : BenchFault). Some (Refused z)) same

-- what is kept behind a pending job
pub kept_pending : (j : Option JobValue) (task : Task) (c : TestCase) → pending_job j ≡ Some (task, c) → kept_behind j ≡ kept_of task c
kept_pending None task c e = let no' : ⊥ = cc in absurd no'
kept_pending (Some j) task c e =
    let same : ◌≡◌ {A = Task × TestCase} (j.task, j.case) (task, c) = cc in
    ap (λ (z : Task × TestCase). kept_of z.0 z.1) same

-- before a post, where this is kept of the pending job
pub post_from : (who : Caller) (start now : Line) (claims posts : ℕ) (kept next : Option Kept) (p : Option (Task × TestCase)) (w : Option Wrong) (h : Option Heard) (task : Task) (kind : Kind) (c : TestCase) → IsAt who start now claims posts kept p w h → h ≡ None
    → p ≡ Some (task, c) → kind ≡ case_value c → next ≡ kept_of task c
    → (w ≡ None) × Stands who start now claims claims posts (λ n more. onto (ask.Post task kind) (answered (λ a later. post_next (turns who n next) later (post_said a.body)) more))
post_from who start now claims posts kept next p w h task kind c s hn pn k keeps =
    let t = subst (IsAt who start now claims posts kept p w) hn s in
    let g = subst (GoesOnAt who start now claims claims posts kept) pn t.1 in
    let made = subst (λ (z : Kind). Stands who start now claims claims posts (λ n more. onto (ask.Post task z) (answered (λ a later. post_next (turns who n (kept_of task c)) later (post_said a.body)) more))) (sym k) g in
    (t.0, subst (λ (z : Option Kept). Stands who start now claims claims posts (λ n more. onto (ask.Post task kind) (answered (λ a later. post_next (turns who n z) later (post_said a.body)) more))) (sym keeps) made)
