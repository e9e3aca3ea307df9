-- What the caller enters once the board is closed.
use Rattle.std.specs.Prelude.{◌≡◌, ◌≢◌, ℕ}
use Rattle.farm_kinds.specs.declared.outcomes.Task.{Task}
use Rattle.farm_kinds.specs.declared.events.Event.{Event}
use Rattle.farm_kinds.specs.declared.events.Reply.{Reply}
use Rattle.farm_kinds.specs.declared.events.Reply.TheVariants as reply
use Rattle.std.specs.Prelude.{Option}
use Rattle.farm_model.specs.State.{SettingsValue}
use Rattle.farm_model.specs.Farm.{farm_step}
use Rattle.case_run.specs.Cases.{TestCase}
use Rattle.farm_board.specs.Histories.{journal_with_call}
use Rattle.farm_board.specs.Passes.{call_of}
use Rattle.parallel_judge.specs.declared.noted.NotedFarm.{NotedFarm}
use Rattle.parallel_judge.specs.Journal.{KeepsJournal}

-- the event was answered and the call noted, or memory ran out and nothing changed
pub record Notes (old new : NotedFarm) (event : Event) (r : Reply) : Type 0 where
  pub unchanged : r ≡ reply.NoMemory → new ≡ old
  pub state : r ≢ reply.NoMemory → new.farm ≡ (farm_step old.farm event).0
  pub answer : r ≢ reply.NoMemory → r ≡ (farm_step old.farm event).1
  pub noted : r ≢ reply.NoMemory → new.history ≡ journal_with_call old.history (call_of 0 event r)

-- the journal is still that of the farm
abbrev pub StillKeeps : (Task → Option TestCase) → NotedFarm → NotedFarm → Type 0
StillKeeps case_at old new =
    (settings : SettingsValue) (hosts : ℕ) → KeepsJournal settings case_at hosts old.farm old.history
    → KeepsJournal settings case_at hosts new.farm new.history
