-- What each accepted event changes, and its reply.
use Rattle.std.specs.Prelude.{ℕ, ◌+◌, List, [], ◌∷◌, ◌++◌, map, length, fold, find, Option, Some, None, Bool, true, false, if◌then◌else◌, unwrap_or}
use Rattle.std.specs.Option.{option_map, option_map_or}
use Rattle.std.specs.Str.{bytes_eq}
use Rattle.farm_kinds.specs.declared.outcomes.Answer.{Answer}
use Rattle.farm_kinds.specs.declared.outcomes.AskEnd.TheVariants as ask
use Rattle.farm_kinds.specs.declared.outcomes.Class.{Class}
use Rattle.farm_kinds.specs.declared.outcomes.Class.TheVariants.{Low}
use Rattle.farm_kinds.specs.declared.outcomes.How.TheVariants as how
use Rattle.farm_kinds.specs.declared.outcomes.Mode.{Mode}
use Rattle.farm_kinds.specs.declared.outcomes.Mode.TheVariants.{Lazy, Full}
use Rattle.farm_kinds.specs.declared.outcomes.ProblemMode.{ProblemMode}
use Rattle.farm_kinds.specs.declared.outcomes.ProblemMode.TheVariants as problem
use Rattle.farm_kinds.specs.declared.outcomes.NamedMode.{NamedMode}
use Rattle.farm_kinds.specs.declared.events.Event.{Event}
use Rattle.farm_kinds.specs.declared.events.Event.TheVariants as event
use Rattle.farm_kinds.specs.declared.events.Reply.{Reply}
use Rattle.farm_kinds.specs.declared.events.Reply.TheVariants as reply
use Rattle.farm_model.specs.declared.records.JudgingDetails.{JudgingDetails}
use Rattle.farm_model.specs.declared.records.Problem.{Problem}
use Rattle.farm_model.specs.declared.records.Host.{Host}
use Rattle.farm_model.specs.declared.records.Submission.{Submission}
use Rattle.farm_model.specs.declared.records.Member.{Member}
use Rattle.farm_model.specs.Numbered.{item_of, with_item, with_change, number_or_0}
use Rattle.farm_model.specs.Judgings.{Judging, empty_judging}
use Rattle.farm_model.specs.Judge.{JudgeState, add_judgings, drop_judging, judge_claim, judge_fetch, judge_result, judge_enter, judge_renew, judge_tick, judge_down, judge_ask}
use Rattle.farm_model.specs.Rejudgings.{prepared, closed, members_in, new_judgings}
use Rattle.farm_model.specs.Matrix.{matrix_of}
use Rattle.farm_model.specs.Chain.{chain_head}
use Rattle.farm_model.specs.Texts.{logged_text}
use Rattle.farm_model.specs.State.{State, problem_number, host_number, up_number, answer_at, current_of, owner_of, public_answers}
use Rattle.farm_model.specs.Refusals.{version_of, claim_reply, fetch_reply, count_reply, renewed_reply, ask_reply}

-- an accepted event of the jury is entered in the audit log
abbrev pub logged : State → Event → State
logged s e = record s { texts = s.texts ++ logged_text e ∷ [] }

-- how far judgings of a problem of this mode are judged
abbrev pub judged_mode : ProblemMode → Mode
judged_mode problem.Lazy = Lazy
judged_mode problem.Full = Full
judged_mode problem.OnDemand = Lazy

-- whether they are asked for from the start
abbrev pub is_asked_at_once : ProblemMode → Bool
is_asked_at_once problem.Lazy = true
is_asked_at_once problem.Full = true
is_asked_at_once problem.OnDemand = false

-- the mode that the first entry of the name gives a problem
abbrev pub mode_named : List NamedMode → List ℕ → Option ProblemMode
mode_named modes name =
    option_map (λ (entry : NamedMode). entry.mode) (find (λ (entry : NamedMode). bytes_eq entry.name name) modes)

-- how far the judgings of a new problem of this name are judged
abbrev pub new_mode : State → List ℕ → Mode
new_mode s name = option_map_or judged_mode (mode_named s.modes name) s.mode

-- whether the judgings of a problem of this name are asked for from the start
abbrev pub asked_named : List NamedMode → List ℕ → Bool
asked_named modes name = option_map_or is_asked_at_once (mode_named modes name) true

-- a problem of version 1
abbrev pub new_problem : State → List ℕ → ℕ → Problem
new_problem s name tests =
    record { name = name; version = 1; tests = tests; mode = new_mode s name; asked = asked_named s.modes name }

abbrev pub with_problem : State → List ℕ → ℕ → State
with_problem s name tests = record s { problems = s.problems ++ new_problem s name tests ∷ [] }

abbrev pub next_version : ℕ → Problem → Problem
next_version tests problem = record problem { version = problem.version + 1; tests = tests }

-- the next version of the problem of this number
abbrev pub with_version : State → ℕ → ℕ → State
with_version s n tests = record s { problems = with_change s.problems n (next_version tests) }

abbrev pub host_as : List ℕ → Bool → Host
host_as name up = record { name = name; up = up }

-- the host is up, at the place that it has, or at the end
abbrev pub hosts_with : List Host → List ℕ → Option ℕ → List Host
hosts_with hosts name None = hosts ++ host_as name true ∷ []
hosts_with hosts name (Some n) = with_item hosts n (host_as name true)

abbrev pub with_host : State → List ℕ → State
with_host s name = record s { hosts = hosts_with s.hosts name (host_number s.hosts name) }

-- the host of this number is down
abbrev pub with_host_down : State → List ℕ → ℕ → State
with_host_down s name n = record s { hosts = with_item s.hosts n (host_as name false) }

-- how many tests a problem has now
abbrev pub tests_of : List Problem → ℕ → ℕ
tests_of problems problem = number_or_0 (option_map (λ p. p.tests) (item_of problems problem))

-- how far the judgings of a problem are judged
abbrev pub mode_for : List Problem → ℕ → Mode
mode_for problems problem = unwrap_or (option_map (λ p. p.mode) (item_of problems problem)) Lazy

-- whether a new judging of the problem is asked for at once
abbrev pub asked_for : List Problem → ℕ → Bool
asked_for problems problem = unwrap_or (option_map (λ p. p.asked) (item_of problems problem)) true

-- a judging of a broken submission has no cells
abbrev pub cells_for : List Problem → ℕ → Bool → ℕ
cells_for problems problem broken = if broken then 0 else tests_of problems problem

abbrev pub details_of : ℕ → Option ℕ → JudgingDetails
details_of submission rejudging = record { submission = submission; rejudging = rejudging; verified = false }

abbrev pub with_new_judging : State → Judging → JudgingDetails → State
with_new_judging s judging judged =
    record s { judge = add_judgings s.judge (judging ∷ []); details = s.details ++ judged ∷ [] }

abbrev pub submission_as : ℕ → Bool → ℕ → Submission
submission_as problem broken current = record { problem = problem; broken = broken; current = current }

-- a submission whose current judging is the next one
abbrev pub with_submission : State → ℕ → Bool → State
with_submission s problem broken = record s {
  submissions = s.submissions ++ submission_as problem broken (length s.judge.judgings + 1) ∷ [];
}

-- the current judging of a new submission
abbrev pub judging_of_new : State → ℕ → Class → Bool → Judging
judging_of_new s problem class broken =
    empty_judging class (cells_for s.problems problem broken) (mode_for s.problems problem)
    (asked_for s.problems problem)

-- a submission and its current judging
abbrev pub submitted : State → ℕ → Class → Bool → State
submitted s problem class broken =
    with_new_judging (with_submission s problem broken) (judging_of_new s problem class broken)
    (details_of (length s.submissions + 1) None)

abbrev pub submitted_reply : State → Reply
submitted_reply s = reply.Submitted (length s.submissions + 1) (length s.judge.judgings + 1)

-- Rejudgings

-- how many cells a new judging of a submission has
abbrev pub cells_of_item : List Problem → Option Submission → ℕ
cells_of_item problems None = 0
cells_of_item problems (Some submission) = cells_for problems submission.problem submission.broken

-- the details of judgings that belong to the rejudging of this number
abbrev pub details_for : ℕ → List ℕ → List JudgingDetails
details_for r list = map (λ submission. details_of submission (Some r)) list

-- how far it is judged
abbrev pub mode_of_item : List Problem → Option Submission → Mode
mode_of_item problems None = Lazy
mode_of_item problems (Some submission) = mode_for problems submission.problem

-- a new judging of a submission, of a rejudging: it is asked for at once
abbrev pub judging_again : List Problem → Option Submission → Judging
judging_again problems submission =
    empty_judging Low (cells_of_item problems submission) (mode_of_item problems submission) true

abbrev pub rejudging_of : State → ℕ → Judging
rejudging_of s submission = judging_again s.problems (item_of s.submissions submission)

-- a judging of each submission of the list, which the public does not see, and a rejudging of them
abbrev pub rejudged : State → List ℕ → State
rejudged s list = record s {
  judge = add_judgings s.judge (map (rejudging_of s) list);
  details = s.details ++ details_for (length s.rejudgings + 1) list;
  rejudgings = prepared s.rejudgings list (map (current_of s.submissions) list) (length s.judge.judgings + 1);
}

abbrev pub rejudging_reply : State → List ℕ → Reply
rejudging_reply s list =
    reply.Rejudging (length s.rejudgings + 1) (length s.judge.judgings + 1) (length s.judge.judgings + length list)

abbrev pub make_current : ℕ → Submission → Submission
make_current j submission = record submission { current = j }

-- the member's new judging is the current one of its submission
abbrev pub with_current : List Submission → Member → List Submission
with_current submissions member = with_change submissions member.submission (make_current member.new)

-- the new judging of every member is current, and the rejudging is applied
abbrev pub applied : State → ℕ → State
applied s r = record s {
  submissions = fold with_current s.submissions (members_in s.rejudgings r);
  rejudgings = closed s.rejudgings r how.Applied;
}

-- the new judging of every member is dropped, and the rejudging is cancelled
abbrev pub cancelled : State → ℕ → State
cancelled s r = record s {
  judge = fold drop_judging s.judge (new_judgings (members_in s.rejudgings r));
  rejudgings = closed s.rejudgings r how.Cancelled;
}

-- what the jury sees of the old and of the new judging of each member
abbrev pub answer_pairs : State → ℕ → List (Answer × Answer)
answer_pairs s r = map (λ member. (answer_at s member.old, answer_at s member.new)) (members_in s.rejudgings r)

abbrev pub mark_verified : JudgingDetails → JudgingDetails
mark_verified judged = record judged { verified = true }

abbrev pub verified : State → ℕ → State
verified s j = record s { details = with_change s.details j mark_verified }

-- hosts are given the judging's tasks from now on
abbrev pub asked : State → ℕ → State
asked s j = record s { judge = (judge_ask s.judge j).0 }

-- the judge did this, and nothing else changed
abbrev pub by_judge : {R : Type 0} → State → (R → Reply) → JudgeState × R → State × Reply
by_judge s replied r = (record s { judge = r.0 }, replied r.1)

-- what an accepted event does, and its reply
abbrev pub accepted : State → Event → State × Reply
accepted s (event.Problem who name tests) =
    (logged (with_problem s name tests) (event.Problem who name tests), reply.Problem name 1)
accepted s (event.Replace who name tests) = let n = number_or_0 (problem_number s.problems name) in
    (logged (with_version s n tests) (event.Replace who name tests), reply.Problem name (version_of s.problems n + 1))
accepted s (event.Host name) = (with_host s name, reply.Host name)
accepted s (event.Submit problem class broken) =
    (submitted s (number_or_0 (problem_number s.problems problem)) class broken, submitted_reply s)
accepted s (event.Claim host) = by_judge s claim_reply (judge_claim s.judge (number_or_0 (up_number s.hosts host)))
accepted s (event.Fetch host most) =
    by_judge s fetch_reply (judge_fetch s.judge (number_or_0 (up_number s.hosts host)) most)
accepted s (event.Result host j test kind) = by_judge s (count_reply j test) (judge_result s.judge j test kind)
accepted s (event.Entry j test kind) = by_judge s (count_reply j test) (judge_enter s.judge j test kind)
accepted s (event.Renew host j test) =
    by_judge s (renewed_reply j test) (judge_renew s.judge (number_or_0 (up_number s.hosts host)) j test)
accepted s (event.Tick moment) = by_judge s reply.Ended (judge_tick s.judge moment)
accepted s (event.Down host) = let n = number_or_0 (up_number s.hosts host) in
    by_judge (with_host_down s host n) reply.Ended (judge_down s.judge n)
accepted s (event.Show j) = (s, reply.Shown (answer_at s j))
accepted s (event.Owner j) = (s, reply.Owned (owner_of s.details j))
accepted s event.Board = (s, reply.Board (public_answers s))
accepted s (event.Rejudge who list) = (logged (rejudged s list) (event.Rejudge who list), rejudging_reply s list)
accepted s (event.Matrix r) = (s, reply.Matrix (matrix_of (answer_pairs s r)) (length (members_in s.rejudgings r)))
accepted s (event.Apply who r) =
    (logged (applied s r) (event.Apply who r), reply.Applied (length (members_in s.rejudgings r)))
accepted s (event.Cancel who r) =
    (logged (cancelled s r) (event.Cancel who r), reply.Cancelled (length (members_in s.rejudgings r)))
accepted s (event.Verify who j) = (logged (verified s j) (event.Verify who j), reply.Verified j)
accepted s (event.Ask who j) = (logged (asked s j) (event.Ask who j), ask_reply s j ask.Done)
accepted s event.Audit = (s, reply.Audit (length s.texts) (chain_head s.texts))
