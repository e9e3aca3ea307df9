-- How a judge lies in memory.
use Rattle.std.specs.Prelude.{◌≡◌, ◌≤◌, ◌<◌, ◌+◌, ◌^◌, length, vec_len, vec_capacity}
use Rattle.farm_model.specs.Limits.{max_hosts, max_judgings}
use Rattle.farm_model.specs.Judge.{JudgeState}
use Rattle.lease_book.specs.Book.{room}
use Rattle.judging_core.specs.JudgeValue.{JudgeValue}
use Rattle.judging_core.specs.JudgeShape.{judging_values, answers_by, AreWellKept, AreRuledBy, cells_in, reserved_of, ArePrepared}
use Rattle.judging_core.specs.Holding.{IsHeldWell, AreOnEmptyCells, most_held}
use Rattle.judging_core.specs.Listed.{IsListed, HasRoom}
use Rattle.judging_core.specs.declared.judge.Judge.TheInside.{Inside}

abbrev pub judge_state : Inside → JudgeState
judge_state a =
    record {
      rule = a.rule;
      lease = a.lease;
      now = a.moment;
      judgings = judging_values a.judgings.items;
      leases = a.leases.leases;
    }

abbrev pub judge_value : Inside → JudgeValue
judge_value a = record { state = judge_state a; hosts = a.hosts; reserved = reserved_of a.prepared.items }

pub record IsJudgeLayout (a : Inside) : Type 0 where
  pub some : 1 ≤ a.lease
  pub short : a.lease ≤ 1000000
  pub moment : a.moment < 10 ^ 18
  pub few : length a.judgings.items ≤ max_judgings
  pub rows : AreWellKept a.judgings.items
  -- each row is judged by the judge's rule
  pub ruled : AreRuledBy a.rule a.judgings.items
  -- what is reported of each judging
  pub answered : a.answers.items ≡ answers_by a.rule (judging_values a.judgings.items)
  pub few_hosts : a.hosts ≤ max_hosts
  pub held : IsHeldWell a.hosts a.leases.leases
  pub cells : AreOnEmptyCells (judging_values a.judgings.items) a.leases.leases
  -- how many tests the judgings have together
  pub counted : a.cells ≡ cells_in a.judgings.items
  -- room for as many leases as can be held: 64 by each host, one on a test
  pub roomy : most_held a.hosts (a.cells + cells_in a.prepared.items) ≤ room a.leases
  -- what is made ahead
  pub prepared : ArePrepared a.prepared.items
  pub prepared_ruled : AreRuledBy a.rule a.prepared.items
  -- room for all that is made ahead
  pub spare : vec_len a.judgings + vec_len a.prepared ≤ vec_capacity a.judgings
  pub spare_answers : vec_len a.answers + vec_len a.prepared ≤ vec_capacity a.answers
  -- the open tasks are listed, and no others
  pub listed : IsListed a.rule (judging_values a.judgings.items) a.leases.leases a.tasks
  -- the list has room for the tests of all that is made ahead, as far as there can be judgings
  pub ahead : HasRoom (length a.judgings.items) (reserved_of a.prepared.items) a.tasks
