-- What the judge keeps, and what each of its calls does.
use Rattle.std.specs.Prelude.{ℕ, ◌+◌, ◌-◌, ◌^◌, min, max, List, [], ◌∷◌, ◌++◌, length, slice_get, take, filter, map, Option, Some, None, Bool, ◌&&◌, ◌==◌, not, nat_le, unwrap_or}
use Rattle.std.specs.List.{fold}
use Rattle.std.specs.Option.{option_map}
use Rattle.farm_kinds.specs.declared.kinds.Kind.{Kind}
use Rattle.farm_kinds.specs.declared.outcomes.Answer.{Answer}
use Rattle.farm_kinds.specs.declared.outcomes.Class.{Class}
use Rattle.farm_kinds.specs.declared.outcomes.Mode.{Mode}
use Rattle.farm_kinds.specs.declared.outcomes.AskEnd.{AskEnd}
use Rattle.farm_kinds.specs.declared.outcomes.AskEnd.TheVariants as ask
use Rattle.farm_kinds.specs.declared.outcomes.Task.{Task}
use Rattle.farm_kinds.specs.declared.outcomes.Claim.{Claim}
use Rattle.farm_kinds.specs.declared.outcomes.Claim.TheVariants as claim
use Rattle.farm_kinds.specs.declared.outcomes.Fetched.{Fetched}
use Rattle.farm_kinds.specs.declared.outcomes.Fetched.TheVariants as fetch
use Rattle.farm_kinds.specs.declared.outcomes.Count.{Count}
use Rattle.farm_kinds.specs.declared.outcomes.Count.TheVariants as count
use Rattle.farm_kinds.specs.declared.outcomes.Renewed.{Renewed}
use Rattle.farm_kinds.specs.declared.outcomes.Renewed.TheVariants as lease
use Rattle.farm_kinds.specs.RuleValue.{RuleValue}
use Rattle.farm_kinds.specs.Rules.{remap_of}
use Rattle.farm_model.specs.declared.records.Lease.{Lease}
use Rattle.farm_model.specs.Limits.{max_held, max_batch}
use Rattle.farm_model.specs.Refusing.{when, unless, first_of, refused_or}
use Rattle.farm_model.specs.Leases.{is_held_by, held_count, with_lease, without_task, without_host, without_judging, renewed_of, ended_at, left_after}
use Rattle.farm_model.specs.Judgings.{Judging, empty_judging, task_of, answer_in, is_judging, has_test, is_dropped, is_asked, entry_refusal, result_refusal, with_result, with_handed, with_asked, with_dropped}
use Rattle.farm_model.specs.Open.{is_empty_cell, is_wanted, open_in, open_tasks}
use Rattle.farm_model.specs.Numbered.{item_of}

-- judgings are numbered from 1
pub record JudgeState : Type 0 where
  pub rule : RuleValue
  -- how long a lease lasts, in seconds
  pub lease : ℕ
  -- the moment, in seconds
  pub now : ℕ
  pub judgings : List Judging
  pub leases : List Lease

-- nothing to judge, at moment 0
abbrev pub first_state : RuleValue → ℕ → JudgeState
first_state rule lease = record { rule = rule; lease = lease; now = 0; judgings = []; leases = [] }

abbrev pub add_judgings : JudgeState → List Judging → JudgeState
add_judgings s judgings = record s { judgings = s.judgings ++ judgings }

abbrev pub add_judging : JudgeState → Class → ℕ → Mode → Bool → JudgeState
add_judging s class tests mode asked = add_judgings s (empty_judging class tests mode asked ∷ [])

-- what is reported of the judging of this number, where there is one
abbrev pub answer_of_judging : JudgeState → ℕ → Option Answer
answer_of_judging s j = answer_in s.rule s.judgings j

-- Claims

-- a host holds at most 64 leases
abbrev pub claim_refusal : List Lease → ℕ → Option Claim
claim_refusal leases host = when (nat_le max_held (held_count leases host)) claim.Holding

-- the end of a lease that is granted or renewed now
abbrev pub lease_end : JudgeState → ℕ
lease_end s = s.now + s.lease

abbrev pub hand_out : JudgeState → ℕ → Task → JudgeState
hand_out s host task = record s {
  judgings = with_handed s.judgings task;
  leases = with_lease s.leases host task (lease_end s);
}

-- the task, where there is one, is handed out
abbrev pub claimed : JudgeState → ℕ → Option Task → JudgeState × Claim
claimed s host None = (s, claim.Nothing)
claimed s host (Some task) = (hand_out s host task, claim.Handed task (lease_end s))

-- the least open task by class, judging and test
abbrev pub first_open : JudgeState → Option Task
first_open s = slice_get (open_tasks s.rule s.judgings s.leases) 0

abbrev pub judge_claim : JudgeState → ℕ → JudgeState × Claim
judge_claim s host = refused_or s (claim_refusal s.leases host) (claimed s host (first_open s))

-- Fetches

-- the open tasks of the judging of this number, in rank order
abbrev pub open_of : JudgeState → ℕ → List Task
open_of s j = unwrap_or (option_map (λ judging. open_in s.rule s.leases (j, judging)) (item_of s.judgings j)) []

-- how many tasks a host that holds `held` tasks is given at most: the `most` that it asks for, from 1 to 16, and at most 64 in
-- all
abbrev pub batch_size : ℕ → ℕ → ℕ
batch_size most held = min (min (max most 1) max_batch) (max_held - held)

-- the tests of tasks, by their ranks
abbrev pub ranks_of : List Task → List ℕ
ranks_of tasks = map (λ task. task.test) tasks

abbrev pub hand_out_all : JudgeState → ℕ → List Task → JudgeState
hand_out_all s host tasks = fold (λ state task. hand_out state host task) s tasks

-- the tasks of the judging are handed out
abbrev pub handed_batch : JudgeState → ℕ → ℕ → List Task → JudgeState × Fetched
handed_batch s host j tasks = (hand_out_all s host tasks, fetch.Batch j (ranks_of tasks) (lease_end s))

-- the task, where there is one, and the next open ones of its judging are handed out, at most `size` in all
abbrev pub batch_from : JudgeState → ℕ → ℕ → Option Task → JudgeState × Fetched
batch_from s host size None = (s, fetch.Nothing)
batch_from s host size (Some task) = handed_batch s host task.judging (take size (open_of s task.judging))

abbrev pub fetch_refusal : List Lease → ℕ → Option Fetched
fetch_refusal leases host = when (nat_le max_held (held_count leases host)) fetch.Holding

-- the least open task by class, judging and test, and the next open ones of its judging
abbrev pub judge_fetch : JudgeState → ℕ → ℕ → JudgeState × Fetched
judge_fetch s host most = refused_or s (fetch_refusal s.leases host)
    (batch_from s host (batch_size most (held_count s.leases host)) (first_open s))

-- Asking

abbrev pub ask_refusal : List Judging → ℕ → Option AskEnd
ask_refusal judgings j = first_of (
    unless (is_judging judgings j) ask.NoJudging
    ∷ when (is_dropped judgings j) ask.Dropped
    ∷ when (is_asked judgings j) ask.Already ∷ [])

-- hosts are given the judging's tasks from now on
abbrev pub judge_ask : JudgeState → ℕ → JudgeState × AskEnd
judge_ask s j =
    refused_or s (ask_refusal s.judgings j) (record s { judgings = with_asked s.judgings j }, ask.Done)

-- Results

-- the lease is on an empty cell of this judging that is not to be judged any more: lazily one that does not matter
abbrev pub is_in_vain : RuleValue → ℕ → Judging → Lease → Bool
is_in_vain rule j judging held = held.task.judging == j
    && is_empty_cell judging.row held.task.test && not (is_wanted rule judging.mode judging.row held.task.test)

abbrev pub without_vain_in : RuleValue → ℕ → List Lease → Option Judging → List Lease
without_vain_in rule j leases None = leases
without_vain_in rule j leases (Some judging) = filter (λ held. not (is_in_vain rule j judging held)) leases

-- the leases without those on empty cells of this judging that are not to be judged any more
abbrev pub without_vain : RuleValue → List Judging → ℕ → List Lease → List Lease
without_vain rule judgings j leases = without_vain_in rule j leases (item_of judgings j)

-- The cell holds the kind. The lease on the task goes, and so do those on cells that do not matter any more.
abbrev pub with_counted : JudgeState → ℕ → ℕ → List Judging → JudgeState
with_counted s j test judgings = record s {
  judgings = judgings;
  leases = without_vain s.rule judgings j (without_task s.leases (task_of j test));
}

abbrev pub counted : JudgeState → ℕ → ℕ → Kind → JudgeState × Count
counted s j test kind = (with_counted s j test (with_result s.judgings j test kind), count.Counted)

-- a result from outside counts as its remapped kind
abbrev pub judge_enter : JudgeState → ℕ → ℕ → Kind → JudgeState × Count
judge_enter s j test kind = let given = remap_of s.rule kind in
    refused_or s (entry_refusal s.judgings j test given) (counted s j test given)

-- a host's result, of a task that was handed out, counts as its remapped kind
abbrev pub judge_result : JudgeState → ℕ → ℕ → Kind → JudgeState × Count
judge_result s j test kind = let given = remap_of s.rule kind in
    refused_or s (result_refusal s.judgings j test given) (counted s j test given)

-- Leases

abbrev pub renew_refusal : JudgeState → ℕ → ℕ → ℕ → Option Renewed
renew_refusal s host j test = first_of (
    unless (is_judging s.judgings j) lease.NoJudging
    ∷ unless (has_test s.judgings j test) lease.NoTest
    ∷ unless (is_held_by s.leases host (task_of j test)) lease.NoLease ∷ [])

abbrev pub renew_leases : JudgeState → ℕ → ℕ → JudgeState × Renewed
renew_leases s host j = (record s { leases = renewed_of s.leases host j (lease_end s) }, lease.Until (lease_end s))

-- the host holds the task, and the other tasks of the judging that it holds, until a lease from now ends
abbrev pub judge_renew : JudgeState → ℕ → ℕ → ℕ → JudgeState × Renewed
judge_renew s host j test = refused_or s (renew_refusal s host j test) (renew_leases s host j)

-- time does not go on past this moment
abbrev pub last_moment : ℕ
last_moment = 10 ^ 18 - 1

-- time goes on to the moment, and never back
abbrev pub later_moment : ℕ → ℕ → ℕ
later_moment now moment = max now (min moment last_moment)

abbrev pub at_moment : JudgeState → ℕ → JudgeState × ℕ
at_moment s now = (record s { now = now; leases = left_after s.leases now }, length (ended_at s.leases now))

-- the leases that end by then go, and are counted
abbrev pub judge_tick : JudgeState → ℕ → JudgeState × ℕ
judge_tick s moment = at_moment s (later_moment s.now moment)

-- the host's leases go, and are counted
abbrev pub judge_down : JudgeState → ℕ → JudgeState × ℕ
judge_down s host = (record s { leases = without_host s.leases host }, held_count s.leases host)

-- the judging is dropped, and the leases on its tasks go
abbrev pub drop_judging : JudgeState → ℕ → JudgeState
drop_judging s j = record s { judgings = with_dropped s.judgings j; leases = without_judging s.leases j }
