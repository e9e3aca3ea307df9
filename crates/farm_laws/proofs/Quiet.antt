-- Replies that hand out no task and count no result.
use Rattle.std.proofs.Common.{ℕ, ◌≡◌, ◌+◌, List, [], ◌∷◌, Option, Some, None, Bool, true, false, refl, length, inl, inr, ◌⊎◌, ◌&&◌}
use Rattle.std.specs.Prelude.{is_none, not, nat_le, nat_lt, map, find, ◌==◌}
use Rattle.std.specs.Option.{option_map, is_some}
use Rattle.farm_kinds.specs.declared.outcomes.AskEnd.{AskEnd}
use Rattle.farm_kinds.specs.declared.outcomes.AskEnd.TheVariants as ask
use Rattle.farm_kinds.specs.declared.outcomes.Renewed.{Renewed}
use Rattle.farm_kinds.specs.declared.outcomes.Renewed.TheVariants as lease
use Rattle.farm_kinds.specs.declared.events.Event.{Event}
use Rattle.farm_kinds.specs.declared.events.Event.TheVariants as event
use Rattle.farm_kinds.specs.declared.events.Reply.{Reply}
use Rattle.farm_kinds.specs.declared.events.Reply.TheVariants as reply
use Rattle.farm_model.specs.declared.records.Host.{Host}
use Rattle.farm_model.specs.declared.records.Problem.{Problem}
use Rattle.farm_model.specs.declared.records.Rejudging.{Rejudging}
use Rattle.farm_model.specs.Numbered.{item_of, number_or_0}
use Rattle.farm_model.specs.Refusing.{when, unless, first_of, refused_or}
use Rattle.farm_model.specs.Judgings.{is_judging, is_dropped}
use Rattle.farm_model.specs.Judge.{renew_refusal, judge_renew, ask_refusal}
use Rattle.farm_model.specs.State.{State, problem_number, host_number, up_number, answer_at, is_final, is_verified}
use Rattle.farm_model.specs.Rejudgings.{first_twice, is_busy, busy_with, closed_how, members_in, new_judgings}
use Rattle.farm_model.specs.Refusals.{is_full, is_test_count, is_problem, problem_refusal, version_of, replace_refusal, host_refusal, submit_refusal, no_host, renewed_reply, refuse_first, is_submission, has_final, rejudge_refusal, no_rejudging, close_refusal, apply_refusal, verify_refusal, ask_reply, refusal_of}
use Rattle.farm_model.specs.Changes.{accepted}
use Rattle.farm_model.specs.Replay.{reply_to}

-- the reply hands out tasks, or says that a result counts
abbrev pub hands_or_counts : Reply → Bool
hands_or_counts (reply.Handed task until) = true
hands_or_counts (reply.Batch judging tests until) = true
hands_or_counts reply.Counted = true
hands_or_counts r = false

-- a refusal that is neither, or none
abbrev Quiet : Option Reply → Type 0
Quiet None = Unit {0}
Quiet (Some r) = hands_or_counts r ≡ false

first_quiet : (o : Option Reply) (others : List (Option Reply)) → Quiet o → Quiet (first_of others) → Quiet (first_of (o ∷ others))
first_quiet None others h k = k
first_quiet (Some r) others h k = h

unless_quiet : (b : Bool) (r : Reply) → hands_or_counts r ≡ false → Quiet (unless b r)
unless_quiet true r h = tt
unless_quiet false r h = h

when_quiet : (b : Bool) (r : Reply) → hands_or_counts r ≡ false → Quiet (when b r)
when_quiet true r h = h
when_quiet false r h = tt

map_quiet : {R : Type 0} (f : R → Reply) → ((x : R) → hands_or_counts (f x) ≡ false) → (o : Option R) → Quiet (option_map f o)
map_quiet f h None = tt
map_quiet f h (Some x) = h x

two_quiet : (a b : Option Reply) → Quiet a → Quiet b → Quiet (first_of (a ∷ b ∷ []))
two_quiet a b h k = first_quiet a (b ∷ []) h (first_quiet b [] k tt)

three_quiet : (a b c : Option Reply) → Quiet a → Quiet b → Quiet c → Quiet (first_of (a ∷ b ∷ c ∷ []))
three_quiet a b c h k l = first_quiet a (b ∷ c ∷ []) h (two_quiet b c k l)

firsts_quiet : {X : Type 0} (f : X → Option Reply) → ((x : X) → Quiet (f x)) → (xs : List X) → Quiet (first_of (map f xs))
firsts_quiet f h [] = tt
firsts_quiet f h (x ∷ xs) = first_quiet (f x) (map f xs) (h x) (firsts_quiet f h xs)

-- Refusals of events

no_host_quiet : (hosts : List Host) (host : List ℕ) → Quiet (no_host hosts host)
no_host_quiet hosts host = unless_quiet (is_some (up_number hosts host)) (reply.NoHost host) refl

problem_quiet : (problems : List Problem) (name : List ℕ) (tests : ℕ) → Quiet (problem_refusal problems name tests)
problem_quiet problems name tests =
    let bad = unless (is_test_count tests) (reply.BadTests tests) in
    let known = when (is_problem problems name) (reply.Known name) in
    let full = when (is_full problems 1000) (reply.Full 1000) in
    three_quiet bad known full (unless_quiet (is_test_count tests) (reply.BadTests tests) refl)
    (when_quiet (is_problem problems name) (reply.Known name) refl) (when_quiet (is_full problems 1000) (reply.Full 1000) refl)

replace_quiet : (problems : List Problem) (name : List ℕ) (tests : ℕ) → Quiet (replace_refusal problems name tests)
replace_quiet problems name tests =
    let last = nat_le 1000 (version_of problems (number_or_0 (problem_number problems name))) in
    let bad = unless (is_test_count tests) (reply.BadTests tests) in
    let none = unless (is_problem problems name) (reply.NoProblem name) in
    three_quiet bad none (when last (reply.Full 1000)) (unless_quiet (is_test_count tests) (reply.BadTests tests) refl)
    (unless_quiet (is_problem problems name) (reply.NoProblem name) refl) (when_quiet last (reply.Full 1000) refl)

host_quiet : (hosts : List Host) (name : List ℕ) → Quiet (host_refusal hosts name)
host_quiet hosts name =
    let up = is_some (up_number hosts name) in
    let new = is_none (host_number hosts name) && is_full hosts 1000 in
    two_quiet (when up (reply.Known name)) (when new (reply.Full 1000)) (when_quiet up (reply.Known name) refl) (when_quiet new (reply.Full 1000) refl)

submit_quiet : (s : State) (problem : List ℕ) → Quiet (submit_refusal s problem)
submit_quiet s problem =
    let none = unless (is_problem s.problems problem) (reply.NoProblem problem) in
    let submissions = when (is_full s.submissions 100000) (reply.Full 100000) in
    let judgings = when (is_full s.judge.judgings 400000) (reply.Full 400000) in
    three_quiet none submissions judgings (unless_quiet (is_problem s.problems problem) (reply.NoProblem problem) refl)
    (when_quiet (is_full s.submissions 100000) (reply.Full 100000) refl) (when_quiet (is_full s.judge.judgings 400000) (reply.Full 400000) refl)

-- Refusals of rejudgings

busy_quiet : (rejudgings : List Rejudging) (submission : ℕ) → Quiet (is_busy reply.Busy rejudgings submission)
busy_quiet rejudgings submission = map_quiet (reply.Busy submission) (λ r. refl) (busy_with rejudgings submission)

first_fails_quiet : (passes : ℕ → Bool) (refusal : ℕ → Reply) → ((n : ℕ) → hands_or_counts (refusal n) ≡ false) → (list : List ℕ) → Quiet (refuse_first passes refusal list)
first_fails_quiet passes refusal h list = map_quiet refusal h (find (λ n. not (passes n)) list)

rejudge_quiet : (s : State) (list : List ℕ) → Quiet (rejudge_refusal s list)
rejudge_quiet s list =
    let none = length list == 0 in
    let wanting = refuse_first (is_submission s) reply.NoSubmission list in
    let pending = refuse_first (has_final s) reply.NotFinal list in
    let full = is_full s.rejudgings 10000 in
    let many = nat_lt 400000 (length s.judge.judgings + length list) in
    let twice = option_map reply.Twice (first_twice list) in
    let busy = first_of (map (is_busy reply.Busy s.rejudgings) list) in
    first_quiet (when none reply.EmptySet) _ (when_quiet none reply.EmptySet refl)
    (first_quiet wanting _ (first_fails_quiet (is_submission s) reply.NoSubmission (λ n. refl) list)
    (first_quiet pending _ (first_fails_quiet (has_final s) reply.NotFinal (λ n. refl) list)
    (first_quiet (when full (reply.Full 10000)) _ (when_quiet full (reply.Full 10000) refl)
    (three_quiet (when many (reply.Full 400000)) twice busy (when_quiet many (reply.Full 400000) refl) (map_quiet reply.Twice (λ n. refl) (first_twice list))
    (firsts_quiet (is_busy reply.Busy s.rejudgings) (busy_quiet s.rejudgings) list)))))

no_rejudging_quiet : (rejudgings : List Rejudging) (r : ℕ) → Quiet (no_rejudging rejudgings r)
no_rejudging_quiet rejudgings r = unless_quiet (is_some (item_of rejudgings r)) (reply.NoRejudging r) refl

close_quiet : (rejudgings : List Rejudging) (r : ℕ) → Quiet (close_refusal rejudgings r)
close_quiet rejudgings r =
    let done = option_map reply.Closed (closed_how rejudgings r) in
    two_quiet (no_rejudging rejudgings r) done (no_rejudging_quiet rejudgings r) (map_quiet reply.Closed (λ h. refl) (closed_how rejudgings r))

apply_quiet : (s : State) (r : ℕ) → Quiet (apply_refusal s r)
apply_quiet s r =
    let judgings = new_judgings (members_in s.rejudgings r) in
    let unfinished = refuse_first (λ j. is_final (answer_at s j)) reply.Unfinished judgings in
    two_quiet (close_refusal s.rejudgings r) unfinished (close_quiet s.rejudgings r) (first_fails_quiet (λ j. is_final (answer_at s j)) reply.Unfinished (λ n. refl) judgings)

verify_quiet : (s : State) (j : ℕ) → Quiet (verify_refusal s j)
verify_quiet s j =
    let judging = is_judging s.judge.judgings j in
    let final = is_final (answer_at s j) in
    let known = is_verified s.details j in
    first_quiet (unless judging (reply.NoJudging j)) _ (unless_quiet judging (reply.NoJudging j) refl) (
    three_quiet (when (is_dropped s.judge.judgings j) reply.Dropped) (unless final (reply.NotFinal j)) (when known (reply.Already j))
    (when_quiet (is_dropped s.judge.judgings j) reply.Dropped refl) (unless_quiet final (reply.NotFinal j) refl) (when_quiet known (reply.Already j) refl))

ask_quiet : (s : State) (j : ℕ) → (e : AskEnd) → hands_or_counts (ask_reply s j e) ≡ false
ask_quiet s j ask.NoJudging = refl
ask_quiet s j ask.Dropped = refl
ask_quiet s j ask.Already = refl
ask_quiet s j ask.Done = refl

refused_quiet : (s : State) (refusal : Option Reply) (done : State × Reply) → Quiet refusal → hands_or_counts done.1 ≡ false → hands_or_counts (refused_or s refusal done).1 ≡ false
refused_quiet s None done h k = k
refused_quiet s (Some r) done h k = h

renewed_quiet : (j t : ℕ) (r : Renewed) → hands_or_counts (renewed_reply j t r) ≡ false
renewed_quiet j t lease.NoJudging = refl
renewed_quiet j t lease.NoTest = refl
renewed_quiet j t lease.NoLease = refl
renewed_quiet j t (lease.Until until) = refl

-- Whatever the event

-- what is refused without a task, or done without one, is answered without one
quiet : (s : State) (e : Event) → Quiet (refusal_of s e) → hands_or_counts (accepted s e).1 ≡ false → hands_or_counts (reply_to s e) ≡ false
quiet s e h k = refused_quiet s (refusal_of s e) (accepted s e) h k

renew_quiet : (s : State) (host : List ℕ) (j t : ℕ) (refusal : Option Renewed) → Quiet (first_of (no_host s.hosts host ∷ option_map (renewed_reply j t) refusal ∷ []))
renew_quiet s host j t refusal =
    two_quiet (no_host s.hosts host) (option_map (renewed_reply j t) refusal) (no_host_quiet s.hosts host) (map_quiet (renewed_reply j t) (renewed_quiet j t) refusal)

-- only a claim or a fetch hands out tasks, and only a result counts
abbrev pub IsClaimOrResult : Event → Type 0
IsClaimOrResult (event.Claim host) = Unit {0}
IsClaimOrResult (event.Fetch host most) = Unit {0}
IsClaimOrResult (event.Result host j t kind) = Unit {0}
IsClaimOrResult (event.Entry j t kind) = Unit {0}
IsClaimOrResult e = ⊥

pub quiet_or_not : (s : State) (e : Event) → IsClaimOrResult e ⊎ (hands_or_counts (reply_to s e) ≡ false)
quiet_or_not s (event.Problem who name tests) = inr (quiet s (event.Problem who name tests) (problem_quiet s.problems name tests) refl)
quiet_or_not s (event.Replace who name tests) = inr (quiet s (event.Replace who name tests) (replace_quiet s.problems name tests) refl)
quiet_or_not s (event.Host name) = inr (quiet s (event.Host name) (host_quiet s.hosts name) refl)
quiet_or_not s (event.Submit problem class broken) = inr (quiet s (event.Submit problem class broken) (submit_quiet s problem) refl)
quiet_or_not s (event.Claim host) = inl tt
quiet_or_not s (event.Fetch host most) = inl tt
quiet_or_not s (event.Result host j t kind) = inl tt
quiet_or_not s (event.Entry j t kind) = inl tt
quiet_or_not s (event.Renew host j t) =
    let n = number_or_0 (up_number s.hosts host) in
    inr (quiet s (event.Renew host j t) (renew_quiet s host j t (renew_refusal s.judge n j t)) (renewed_quiet j t (judge_renew s.judge n j t).1))
quiet_or_not s (event.Tick moment) = inr refl
quiet_or_not s (event.Down host) = inr (quiet s (event.Down host) (no_host_quiet s.hosts host) refl)
quiet_or_not s (event.Show j) = inr (quiet s (event.Show j) (unless_quiet (is_judging s.judge.judgings j) (reply.NoJudging j) refl) refl)
quiet_or_not s (event.Owner j) = inr (quiet s (event.Owner j) (unless_quiet (is_judging s.judge.judgings j) (reply.NoJudging j) refl) refl)
quiet_or_not s event.Board = inr refl
quiet_or_not s (event.Rejudge who list) = inr (quiet s (event.Rejudge who list) (rejudge_quiet s list) refl)
quiet_or_not s (event.Matrix r) = inr (quiet s (event.Matrix r) (no_rejudging_quiet s.rejudgings r) refl)
quiet_or_not s (event.Apply who r) = inr (quiet s (event.Apply who r) (apply_quiet s r) refl)
quiet_or_not s (event.Cancel who r) = inr (quiet s (event.Cancel who r) (close_quiet s.rejudgings r) refl)
quiet_or_not s (event.Verify who j) = inr (quiet s (event.Verify who j) (verify_quiet s j) refl)
quiet_or_not s (event.Ask who j) = inr (quiet s (event.Ask who j) (map_quiet (ask_reply s j) (ask_quiet s j) (ask_refusal s.judge.judgings j)) refl)
quiet_or_not s event.Audit = inr refl
