-- How a contest lies in memory.
use Rattle.std.specs.Prelude.{◌≡◌, ◌≤◌, [], length, map}
use Rattle.farm_model.specs.Limits.{max_problems, max_hosts, max_submissions}
use Rattle.farm_model.specs.State.{State}
use Rattle.farm_core.specs.FarmShape.{AreShort, AreKept}
use Rattle.farm_core.specs.declared.contest.ContestState.TheInside.{Inside}

-- a farm whose audit log is empty
abbrev pub contest_value : Inside → State
contest_value a = record {
  judge = a.judge.state;
  mode = a.mode;
  modes = a.modes;
  verification = a.verification;
  problems = a.problems.items;
  hosts = a.hosts.items;
  submissions = a.submissions.items;
  details = a.details.items;
  rejudgings = a.book.rejudgings;
  texts = [];
}

pub record IsContestLayout (a : Inside) : Type 0 where
  pub short : AreShort a.problems.items
  pub problems : length a.problems.items ≤ max_problems
  pub problem_names : a.problem_names.names ≡ map (λ problem. problem.name) a.problems.items
  -- the judge numbers them as they stand
  pub hosts : length a.hosts.items ≡ a.judge.hosts
  pub few_hosts : length a.hosts.items ≤ max_hosts
  pub host_names : a.host_names.names ≡ map (λ host. host.name) a.hosts.items
  pub submissions : length a.submissions.items ≤ max_submissions
  -- so does the book of rejudgings
  pub booked : a.book.submissions ≡ length a.submissions.items
  pub rejudgings : AreKept (length a.submissions.items) (length a.judge.state.judgings) a.book.rejudgings
