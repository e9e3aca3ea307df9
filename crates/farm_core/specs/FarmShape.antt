-- What is true of the problems and of the rejudgings that a farm keeps, and the refusals of a list.
use Rattle.std.specs.Prelude.{◌≢◌, ℕ, ◌≤◌, List, length, All, Option}
use Rattle.farm_kinds.specs.declared.events.Reply.{Reply}
use Rattle.farm_kinds.specs.declared.events.Reply.TheVariants as reply
use Rattle.farm_model.specs.declared.records.Member.{Member}
use Rattle.farm_model.specs.declared.records.Problem.{Problem}
use Rattle.farm_model.specs.declared.records.Rejudging.{Rejudging}
use Rattle.farm_model.specs.Limits.{max_tests, max_judgings}
use Rattle.farm_model.specs.Refusing.{first_of}
use Rattle.farm_model.specs.Refusals.{list_refusals}
use Rattle.farm_model.specs.State.{State}
use Rattle.rejudge_book.specs.declared.faults.BookFault.{BookFault}
use Rattle.rejudge_book.specs.declared.faults.BookFault.TheVariants as fault

-- no problem has more than 1,000 tests
abbrev pub AreShort : List Problem → Type 0
AreShort problems = All (λ problem. problem.tests ≤ max_tests) problems

-- Rejudgings

-- the member's submission is one of `submissions` submissions
pub record HasSubmission (submissions : ℕ) (member : Member) : Type 0 where
  pub numbered : 1 ≤ member.submission
  pub within : member.submission ≤ submissions

-- the member's new judging is one of `judgings` judgings
pub record HasJudging (judgings : ℕ) (member : Member) : Type 0 where
  pub numbered : 1 ≤ member.new
  pub within : member.new ≤ judgings

-- its submissions and its new judgings are there
pub record IsKept (submissions judgings : ℕ) (rejudging : Rejudging) : Type 0 where
  pub known : All (HasSubmission submissions) rejudging.members
  pub judged : All (HasJudging judgings) rejudging.members
  pub few : length rejudging.members ≤ max_judgings

abbrev pub AreKept : ℕ → ℕ → List Rejudging → Type 0
AreKept submissions judgings rejudgings = All (IsKept submissions judgings) rejudgings

-- Replies

-- memory was not wanting
abbrev pub HadMemory : Reply → Type 0
HadMemory r = r ≢ reply.NoMemory

-- the first refusal of a list but for those of submissions that stand in it twice or are busy
abbrev pub list_refusal : State → List ℕ → Option Reply
list_refusal s list = first_of (list_refusals s list)

-- why a rejudging is not prepared, as a reply
abbrev pub fault_reply : BookFault → Reply
fault_reply fault.EmptySet = reply.EmptySet
fault_reply (fault.Twice submission) = reply.Twice submission
fault_reply (fault.Busy submission rejudging) = reply.Busy submission rejudging
fault_reply fault.NoMemory = reply.NoMemory
