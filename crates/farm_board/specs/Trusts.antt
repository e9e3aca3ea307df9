-- What a board's trust admits, and what it keeps.
use Rattle.std.specs.Prelude.{◌≡◌, ◌≢◌, ℕ, Bool, true, false, Option, Some, None, List, All}
use Rattle.farm_kinds.specs.Rules.{remap_of}
use Rattle.farm_kinds.specs.declared.kinds.Kind.{Kind}
use Rattle.farm_kinds.specs.declared.outcomes.Task.{Task}
use Rattle.farm_kinds.specs.declared.events.Event.{Event}
use Rattle.farm_kinds.specs.declared.events.Reply.{Reply}
use Rattle.farm_kinds.specs.declared.events.Reply.TheVariants as reply
use Rattle.farm_model.specs.Rows.{same_kind}
use Rattle.farm_model.specs.Judgings.{task_of, cell_of}
use Rattle.farm_model.specs.State.{State}
use Rattle.farm_model.specs.Replay.{given_by}
use Rattle.case_run.specs.Cases.{TestCase}
use Rattle.case_run.specs.Values.{case_value}
use Rattle.farm_board.specs.BoardState.{BoardState}
use Rattle.farm_board.specs.declared.entries.Call.{Call}

-- which kinds are admitted for a task
abbrev pub Admits : Type 0
Admits = Task → Kind → Bool

-- the kind is what the run of the case gives
abbrev pub is_value_of : Option TestCase → Kind → Bool
is_value_of None kind = false
is_value_of (Some c) kind = same_kind (case_value c) kind

-- a result in the event is admitted
abbrev pub IsAdmitted : Admits → Event → Type 0
IsAdmitted admits e = (task : Task) (kind : Kind) → given_by e ≡ Some (task, kind) → admits task kind ≡ true

-- the kind is what some admitted kind counts as
abbrev pub IsBacked : Admits → State → Task → Kind → Type 0
IsBacked admits s task kind =
    ∥ ((given : Kind) × (admits task given ≡ true) × (kind ≡ remap_of s.judge.rule given)) ∥₁

-- each filled cell is the remap of an admitted kind
abbrev pub AreBacked : Admits → State → Type 0
AreBacked admits s =
    (j t : ℕ) (kind : Kind) → cell_of s.judge.judgings j t ≡ Some (Some kind) → IsBacked admits s (task_of j t) kind

-- each result in the calls of the journal is admitted
abbrev pub AreAdmitted : Admits → Option (List Call) → Type 0
AreAdmitted admits journal =
    (calls : List Call) → journal ≡ Some calls → All (λ call. IsAdmitted admits call.event) calls

-- what a board's trust keeps of it
pub record IsTrusted (admits : Admits) (s : BoardState) : Type 0 where
  pub cells : AreBacked admits s.state
  pub journal : AreAdmitted admits s.journal

-- at most one kind is admitted for each task, as where it is the value of the task's case
abbrev pub AdmitsOne : Admits → Type 0
AdmitsOne admits = (task : Task) (a b : Kind) → admits task a ≡ true → admits task b ≡ true → a ≡ b

-- a result in the event is not answered that another kind is kept
abbrev pub NeverDiffers : Event → Reply → Type 0
NeverDiffers e r =
    (task : Task) (kind kept given : Kind) → given_by e ≡ Some (task, kind) → r ≢ reply.Differs kept given
