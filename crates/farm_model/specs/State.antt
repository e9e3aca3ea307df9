-- What the farm keeps.
use Rattle.std.specs.Prelude.{ℕ, List, [], map, ◌&&◌, Option, Bool, true, false, not, if◌then◌else◌, unwrap_or}
use Rattle.std.specs.Option.{option_map}
use Rattle.std.specs.Str.{bytes_eq}
use Rattle.farm_kinds.specs.declared.outcomes.Answer.{Answer}
use Rattle.farm_kinds.specs.declared.outcomes.Answer.TheVariants.{Final, Pending}
use Rattle.farm_kinds.specs.declared.outcomes.Mode.{Mode}
use Rattle.farm_kinds.specs.declared.outcomes.Mode.TheVariants.{Lazy}
use Rattle.farm_kinds.specs.declared.outcomes.NamedMode.{NamedMode}
use Rattle.farm_kinds.specs.RuleValue.{RuleValue}
use Rattle.farm_kinds.specs.Rules.{standard}
use Rattle.farm_model.specs.declared.records.Problem.{Problem}
use Rattle.farm_model.specs.declared.records.Host.{Host}
use Rattle.farm_model.specs.declared.records.Submission.{Submission}
use Rattle.farm_model.specs.declared.records.JudgingDetails.{JudgingDetails}
use Rattle.farm_model.specs.declared.records.Rejudging.{Rejudging}
use Rattle.farm_model.specs.Numbered.{item_of, number_where, number_or_0}
use Rattle.farm_model.specs.Judge.{JudgeState, first_state, answer_of_judging}

-- what a contest sets
pub record SettingsValue : Type 0 where
  pub rule : RuleValue
  pub mode : Mode
  -- how long a lease lasts, in seconds
  pub lease : ℕ
  -- whether the public sees a judging only once it is verified
  pub verification : Bool
  -- how many instructions a second of a time limit stands for
  pub ips : ℕ
  -- the problems that are judged otherwise than the others
  pub modes : List NamedMode

abbrev pub standard_settings : SettingsValue
standard_settings =
    record { rule = standard; mode = Lazy; lease = 60; verification = false; ips = 10000000; modes = [] }

-- problems, hosts, submissions, judgings and rejudgings are numbered from 1
pub record State : Type 0 where
  -- judgings with their rows, leases, and the moment
  pub judge : JudgeState
  -- how far judgings are judged, but for those of the problems that are judged otherwise
  pub mode : Mode
  pub modes : List NamedMode
  -- whether the public sees a judging only once it is verified
  pub verification : Bool
  pub problems : List Problem
  pub hosts : List Host
  pub submissions : List Submission
  -- one for each judging
  pub details : List JudgingDetails
  pub rejudgings : List Rejudging
  -- the audit log's texts
  pub texts : List (List ℕ)

-- the empty farm
abbrev pub start : SettingsValue → State
start s = record {
  judge = first_state s.rule s.lease;
  mode = s.mode;
  modes = s.modes;
  verification = s.verification;
  problems = [];
  hosts = [];
  submissions = [];
  details = [];
  rejudgings = [];
  texts = [];
}

abbrev pub problem_number : List Problem → List ℕ → Option ℕ
problem_number problems name = number_where (λ problem. bytes_eq problem.name name) problems

abbrev pub host_number : List Host → List ℕ → Option ℕ
host_number hosts name = number_where (λ host. bytes_eq host.name name) hosts

-- the number of the host of this name, where it is up
abbrev pub up_number : List Host → List ℕ → Option ℕ
up_number hosts name = number_where (λ host. bytes_eq host.name name && host.up) hosts

-- what the jury sees of a judging; pending where there is none
abbrev pub answer_at : State → ℕ → Answer
answer_at s j = unwrap_or (answer_of_judging s.judge j) Pending

abbrev pub is_final : Answer → Bool
is_final (Final verdict) = true
is_final Pending = false

-- the current judging of the submission of this number
abbrev pub current_of : List Submission → ℕ → ℕ
current_of submissions n = number_or_0 (option_map (λ submission. submission.current) (item_of submissions n))

-- the submission that a judging is of
abbrev pub owner_of : List JudgingDetails → ℕ → ℕ
owner_of details j = number_or_0 (option_map (λ judged. judged.submission) (item_of details j))

abbrev pub is_verified : List JudgingDetails → ℕ → Bool
is_verified details j = unwrap_or (option_map (λ judged. judged.verified) (item_of details j)) false

-- the judging waits to be verified
abbrev pub is_withheld : State → ℕ → Bool
is_withheld s j = s.verification && not (is_verified s.details j)

-- what the public sees of a current judging: pending while it waits to be verified
abbrev pub public_answer : State → ℕ → Answer
public_answer s j = if is_withheld s j then Pending else answer_at s j

-- what the public sees of each submission
abbrev pub public_answers : State → List Answer
public_answers s = map (λ submission. public_answer s submission.current) s.submissions

-- what the public sees of the submission of this number, where there is one
abbrev pub public_of : State → ℕ → Option Answer
public_of s n = option_map (λ submission. public_answer s submission.current) (item_of s.submissions n)
