-- A farm at which a host works off the tasks that are open.
use Rattle.std.specs.Prelude.{◌≡◌, ℕ, ◌+◌, ◌<◌, ◌≤◌, true, false, if◌then◌else◌, is_none, List, [], ◌∷◌, map, length, Option, Some, None, IsSome}
use Rattle.std.specs.Option.{option_map}
use Rattle.farm_kinds.specs.declared.kinds.Kind.{Kind}
use Rattle.farm_kinds.specs.declared.outcomes.Task.{Task}
use Rattle.farm_kinds.specs.declared.events.Event.{Event}
use Rattle.farm_model.specs.Numbered.{item_of, number_or_0}
use Rattle.farm_model.specs.Rows.{Row}
use Rattle.farm_model.specs.Judgings.{Judging, task_of, judging_rows}
use Rattle.farm_model.specs.Judge.{hand_out, first_open}
use Rattle.farm_model.specs.State.{State, SettingsValue, start, up_number}
use Rattle.farm_model.specs.Replay.{Truth, IsHonest}
use Rattle.farm_laws.specs.Laws.{reached}
use Rattle.case_run.specs.Cases.{TestCase}
use Rattle.case_run.specs.Values.{case_value}

-- each task truly gives the value of its case
abbrev pub truth_of : (Task → Option TestCase) → Truth
truth_of case_at task = option_map case_value (case_at task)

-- a judging that can be run: it takes results, it was asked for, and each of its tests has a case
pub record IsRunnable (case_at : Task → Option TestCase) (j : ℕ) (judging : Judging) : Type 0 where
  pub undropped : judging.dropped ≡ false
  pub asked : judging.asked ≡ true
  pub handed : length judging.handed ≡ length judging.row
  pub cases : (test : ℕ) → 1 ≤ test → test ≤ length judging.row → IsSome (case_at (task_of j test))

abbrev pub AreRunnable : (Task → Option TestCase) → List Judging → Type 0
AreRunnable case_at judgings =
    (j : ℕ) (judging : Judging) → item_of judgings j ≡ Some judging → IsRunnable case_at j judging

-- the host is up, no task is held, and each judging can be run
pub record IsReady (case_at : Task → Option TestCase) (host : List ℕ) (s : State) : Type 0 where
  pub up : IsSome (up_number s.hosts host)
  pub free : s.judge.leases ≡ []
  pub runnable : AreRunnable case_at s.judge.judgings

-- some events led from the empty farm to this one, and each result that was counted is the value of its case
pub record IsHonestRun (settings : SettingsValue) (case_at : Task → Option TestCase) (s : State) : Type 0 where
  pub events : List Event
  pub stands : s ≡ reached settings events
  pub honest : IsHonest (start settings) events (truth_of case_at)

-- how many cells each judging has
abbrev pub row_lengths : State → List ℕ
row_lengths s = map (λ judging. length judging.row) s.judge.judgings

-- a farm that a contest has entered, whose judgings have so many cells each, and at which the host can work
pub record IsEntered (settings : SettingsValue) (case_at : Task → Option TestCase) (cells host : List ℕ) (s : State)
    : Type 0 where
  pub ready : IsReady case_at host s
  pub honest : IsHonestRun settings case_at s
  pub lengths : row_lengths s ≡ cells

-- the same, once no task is open any more
pub record IsFinished (settings : SettingsValue) (case_at : Task → Option TestCase) (cells : List ℕ) (s : State)
    : Type 0 where
  pub host : List ℕ
  pub entered : IsEntered settings case_at cells host s
  pub ended : first_open s.judge ≡ None

-- the sum of what each item counts for
abbrev pub sum_of : {X : Type 0} → (X → ℕ) → List X → ℕ
sum_of count [] = 0
sum_of count (x ∷ xs) = count x + sum_of count xs

abbrev pub empty_cells : Row → ℕ
empty_cells row = sum_of (λ (cell : Option Kind). if is_none cell then 1 else 0) row

-- how many tests have no result
abbrev pub unjudged : List Judging → ℕ
unjudged judgings = sum_of empty_cells (judging_rows judgings)

-- the task is handed out to the host
abbrev pub with_task : State → List ℕ → Task → State
with_task s host task = record s { judge = hand_out s.judge (number_or_0 (up_number s.hosts host)) task }

-- a test was run, and its result counts
pub record IsTurned (case_at : Task → Option TestCase) (host : List ℕ) (old new : State) : Type 0 where
  pub ready : IsReady case_at host new
  pub honest : (settings : SettingsValue) → IsHonestRun settings case_at old → IsHonestRun settings case_at new
  pub lengths : row_lengths new ≡ row_lengths old
  pub fewer : unjudged new.judge.judgings < unjudged old.judge.judgings
