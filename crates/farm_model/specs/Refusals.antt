-- The refusals of each event, in their order.
use Rattle.std.specs.Prelude.{ℕ, ◌+◌, List, [], ◌∷◌, ◌++◌, length, find, Option, None, is_some, is_none, Bool, ◌&&◌, ◌==◌, not, nat_le, nat_lt}
use Rattle.std.specs.Option.{option_map}
use Rattle.farm_kinds.specs.declared.outcomes.AskEnd.{AskEnd}
use Rattle.farm_kinds.specs.declared.outcomes.AskEnd.TheVariants as ask
use Rattle.farm_kinds.specs.declared.outcomes.Claim.{Claim}
use Rattle.farm_kinds.specs.declared.outcomes.Claim.TheVariants as claim
use Rattle.farm_kinds.specs.declared.outcomes.Fetched.{Fetched}
use Rattle.farm_kinds.specs.declared.outcomes.Fetched.TheVariants as fetch
use Rattle.farm_kinds.specs.declared.outcomes.Count.{Count}
use Rattle.farm_kinds.specs.declared.outcomes.Count.TheVariants as count
use Rattle.farm_kinds.specs.declared.outcomes.Renewed.{Renewed}
use Rattle.farm_kinds.specs.declared.outcomes.Renewed.TheVariants as lease
use Rattle.farm_kinds.specs.declared.events.Event.{Event}
use Rattle.farm_kinds.specs.declared.events.Event.TheVariants as event
use Rattle.farm_kinds.specs.declared.events.Reply.{Reply}
use Rattle.farm_kinds.specs.declared.events.Reply.TheVariants as reply
use Rattle.farm_kinds.specs.Rules.{remap_of}
use Rattle.farm_model.specs.declared.records.Problem.{Problem}
use Rattle.farm_model.specs.declared.records.Host.{Host}
use Rattle.farm_model.specs.declared.records.Rejudging.{Rejudging}
use Rattle.farm_model.specs.Numbered.{item_of, number_or_0}
use Rattle.farm_model.specs.Limits.{max_problems, max_versions, max_tests, max_hosts, max_held, max_submissions, max_judgings, max_rejudgings}
use Rattle.farm_model.specs.Refusing.{when, unless, first_of}
use Rattle.farm_model.specs.Judgings.{entry_refusal, result_refusal, is_judging, is_dropped}
use Rattle.farm_model.specs.Judge.{claim_refusal, fetch_refusal, ask_refusal, renew_refusal}
use Rattle.farm_model.specs.Rejudgings.{twice_refusal, busy_refusal, absent_refusal, closing_refusal, members_in, new_judgings}
use Rattle.farm_model.specs.State.{State, problem_number, host_number, up_number, answer_at, is_final, current_of, is_verified}

-- as many as the limit are there
abbrev pub is_full : {X : Type 0} → List X → ℕ → Bool
is_full xs limit = nat_le limit (length xs)

-- a problem has from 1 to 1,000 tests
abbrev pub is_test_count : ℕ → Bool
is_test_count tests = nat_le 1 tests && nat_le tests max_tests

abbrev pub is_problem : List Problem → List ℕ → Bool
is_problem problems name = is_some (problem_number problems name)

abbrev pub problem_refusal : List Problem → List ℕ → ℕ → Option Reply
problem_refusal problems name tests = first_of (
    unless (is_test_count tests) (reply.BadTests tests)
    ∷ when (is_problem problems name) (reply.Known name)
    ∷ when (is_full problems max_problems) (reply.Full max_problems) ∷ [])

-- the version of the problem of this number
abbrev pub version_of : List Problem → ℕ → ℕ
version_of problems n = number_or_0 (option_map (λ problem. problem.version) (item_of problems n))

-- a problem has at most 1,000 versions
abbrev pub replace_refusal : List Problem → List ℕ → ℕ → Option Reply
replace_refusal problems name tests = first_of (
    unless (is_test_count tests) (reply.BadTests tests)
    ∷ unless (is_problem problems name) (reply.NoProblem name)
    ∷ when (nat_le max_versions (version_of problems (number_or_0 (problem_number problems name))))
    (reply.Full max_versions) ∷ [])

-- a host is known while it is up, and a new name needs a place
abbrev pub host_refusal : List Host → List ℕ → Option Reply
host_refusal hosts name = first_of (
    when (is_some (up_number hosts name)) (reply.Known name)
    ∷ when (is_none (host_number hosts name) && is_full hosts max_hosts) (reply.Full max_hosts) ∷ [])

abbrev pub submit_refusal : State → List ℕ → Option Reply
submit_refusal s problem = first_of (
    unless (is_problem s.problems problem) (reply.NoProblem problem)
    ∷ when (is_full s.submissions max_submissions) (reply.Full max_submissions)
    ∷ when (is_full s.judge.judgings max_judgings) (reply.Full max_judgings) ∷ [])

-- a host that is down, or was never entered, is none
abbrev pub no_host : List Host → List ℕ → Option Reply
no_host hosts host = unless (is_some (up_number hosts host)) (reply.NoHost host)

-- what a claim is answered, as a reply
abbrev pub claim_reply : Claim → Reply
claim_reply claim.Holding = reply.Holding max_held
claim_reply claim.Nothing = reply.Nothing
claim_reply (claim.Handed task until) = reply.Handed task until

-- what a fetch is answered, as a reply
abbrev pub fetch_reply : Fetched → Reply
fetch_reply fetch.Holding = reply.Holding max_held
fetch_reply fetch.Nothing = reply.Nothing
fetch_reply (fetch.Batch judging tests until) = reply.Batch judging tests until

-- what becomes of a result of this test, as a reply
abbrev pub count_reply : ℕ → ℕ → Count → Reply
count_reply j test count.NoJudging = reply.NoJudging j
count_reply j test count.NoTest = reply.NoTest test
count_reply j test count.NotHanded = reply.NotHanded
count_reply j test (count.Repeat kept) = reply.Repeat kept
count_reply j test (count.Differs kept given) = reply.Differs kept given
count_reply j test count.Dropped = reply.Dropped
count_reply j test count.Counted = reply.Counted

-- what becomes of the lease on this test, as a reply
abbrev pub renewed_reply : ℕ → ℕ → Renewed → Reply
renewed_reply j test lease.NoJudging = reply.NoJudging j
renewed_reply j test lease.NoTest = reply.NoTest test
renewed_reply j test lease.NoLease = reply.NoLease
renewed_reply j test (lease.Until until) = reply.Until until

-- Rejudgings

-- a refusal that names the first number of the list that fails the test
abbrev pub refuse_first : (ℕ → Bool) → (ℕ → Reply) → List ℕ → Option Reply
refuse_first passes refusal list = option_map refusal (find (λ n. not (passes n)) list)

abbrev pub is_submission : State → ℕ → Bool
is_submission s n = is_some (item_of s.submissions n)

-- the current judging of the submission is final
abbrev pub has_final : State → ℕ → Bool
has_final s submission = is_final (answer_at s (current_of s.submissions submission))

-- Each is looked for over the whole list, and names its first member.

-- the refusals of a list but for those of submissions that stand in it twice or are busy
abbrev pub list_refusals : State → List ℕ → List (Option Reply)
list_refusals s list =
    when (length list == 0) reply.EmptySet
    ∷ refuse_first (is_submission s) reply.NoSubmission list
    ∷ refuse_first (has_final s) reply.NotFinal list
    ∷ when (is_full s.rejudgings max_rejudgings) (reply.Full max_rejudgings)
    ∷ when (nat_lt max_judgings (length s.judge.judgings + length list)) (reply.Full max_judgings) ∷ []

abbrev pub rejudge_refusal : State → List ℕ → Option Reply
rejudge_refusal s list = first_of (list_refusals s list
    ++ twice_refusal reply.Twice list
    ∷ busy_refusal reply.Busy s.rejudgings list ∷ [])

abbrev pub no_rejudging : List Rejudging → ℕ → Option Reply
no_rejudging rejudgings r = absent_refusal (reply.NoRejudging r) rejudgings r

abbrev pub close_refusal : List Rejudging → ℕ → Option Reply
close_refusal rejudgings r = closing_refusal (reply.NoRejudging r) reply.Closed rejudgings r

abbrev pub apply_refusal : State → ℕ → Option Reply
apply_refusal s r = first_of (
    close_refusal s.rejudgings r
    ∷ refuse_first (λ j. is_final (answer_at s j)) reply.Unfinished (new_judgings (members_in s.rejudgings r)) ∷ [])

abbrev pub verify_refusal : State → ℕ → Option Reply
verify_refusal s j = first_of (
    unless (is_judging s.judge.judgings j) (reply.NoJudging j)
    ∷ when (is_dropped s.judge.judgings j) reply.Dropped
    ∷ unless (is_final (answer_at s j)) (reply.NotFinal j)
    ∷ when (is_verified s.details j) (reply.Already j) ∷ [])

-- what becomes of a judging that is asked for, as a reply: where it can be, what is reported of it
abbrev pub ask_reply : State → ℕ → AskEnd → Reply
ask_reply s j ask.NoJudging = reply.NoJudging j
ask_reply s j ask.Dropped = reply.Dropped
ask_reply s j ask.Already = reply.Already j
ask_reply s j ask.Done = reply.Shown (answer_at s j)

-- no judging has the number
abbrev pub no_judging : State → ℕ → Option Reply
no_judging s j = unless (is_judging s.judge.judgings j) (reply.NoJudging j)

-- the refusal of an event, where it is refused
abbrev pub refusal_of : State → Event → Option Reply
refusal_of s (event.Problem who name tests) = problem_refusal s.problems name tests
refusal_of s (event.Replace who name tests) = replace_refusal s.problems name tests
refusal_of s (event.Host name) = host_refusal s.hosts name
refusal_of s (event.Submit problem class broken) = submit_refusal s problem
refusal_of s (event.Claim host) = first_of (
    no_host s.hosts host
    ∷ option_map claim_reply (claim_refusal s.judge.leases (number_or_0 (up_number s.hosts host))) ∷ [])
refusal_of s (event.Fetch host most) = first_of (
    no_host s.hosts host
    ∷ option_map fetch_reply (fetch_refusal s.judge.leases (number_or_0 (up_number s.hosts host))) ∷ [])
refusal_of s (event.Result host j test kind) = first_of (
    no_host s.hosts host
    ∷ option_map (count_reply j test) (result_refusal s.judge.judgings j test (remap_of s.judge.rule kind)) ∷ [])
refusal_of s (event.Entry j test kind) =
    option_map (count_reply j test) (entry_refusal s.judge.judgings j test (remap_of s.judge.rule kind))
refusal_of s (event.Renew host j test) = first_of (
    no_host s.hosts host
    ∷ option_map (renewed_reply j test) (renew_refusal s.judge (number_or_0 (up_number s.hosts host)) j test) ∷ [])
refusal_of s (event.Tick moment) = None
refusal_of s (event.Down host) = no_host s.hosts host
refusal_of s (event.Show j) = no_judging s j
refusal_of s (event.Owner j) = no_judging s j
refusal_of s event.Board = None
refusal_of s (event.Rejudge who list) = rejudge_refusal s list
refusal_of s (event.Matrix r) = no_rejudging s.rejudgings r
refusal_of s (event.Apply who r) = apply_refusal s r
refusal_of s (event.Cancel who r) = close_refusal s.rejudgings r
refusal_of s (event.Verify who j) = verify_refusal s j
refusal_of s (event.Ask who j) = option_map (ask_reply s j) (ask_refusal s.judge.judgings j)
refusal_of s event.Audit = None
