-- Which tasks a judge lists for claims: the open ones.
use Rattle.std.specs.Prelude.{◌≡◌, ◌≢◌, ℕ, ◌+◌, ◌-◌, ◌<◌, ◌≤◌, ◌⊎◌, nat_le, List, [], ◌∷◌, map, length, get_or, slice_get, Option, Some, None, Bool, true, false, ◌&&◌}
use Rattle.std.specs.Option.{option_map_or}
use Rattle.farm_kinds.specs.declared.kinds.Kind.{Kind}
use Rattle.farm_kinds.specs.declared.outcomes.Class.{Class}
use Rattle.farm_kinds.specs.declared.outcomes.Mode.{Mode}
use Rattle.farm_kinds.specs.declared.outcomes.Task.{Task}
use Rattle.farm_kinds.specs.RuleValue.{RuleValue}
use Rattle.farm_model.specs.Limits.{max_judgings}
use Rattle.farm_model.specs.declared.records.Lease.{Lease}
use Rattle.farm_model.specs.Numbered.{item_of}
use Rattle.farm_model.specs.Leases.{same_task}
use Rattle.farm_model.specs.Rows.{Row}
use Rattle.farm_model.specs.Judgings.{Judging, task_of}
use Rattle.farm_model.specs.Open.{is_free, is_wanted, is_active}
use Rattle.task_tree.specs.Shown.{JudgingTasks, tests_listed, is_shown}

-- the cell is there, empty and wanted, in a judging that was asked for and takes results
abbrev pub is_open_cell : RuleValue → Judging → ℕ → Option (Option Kind) → Bool
is_open_cell rule judging test None = false
is_open_cell rule judging test (Some (Some kind)) = false
is_open_cell rule judging test (Some None) = is_active judging && is_wanted rule judging.mode judging.row test

abbrev pub is_open_in : RuleValue → ℕ → Option Judging → Bool
is_open_in rule test None = false
is_open_in rule test (Some judging) = is_open_cell rule judging test (item_of judging.row test)

-- the task is open
abbrev pub is_open : RuleValue → List Judging → List Lease → Task → Bool
is_open rule judgings leases task =
    is_open_in rule task.test (item_of judgings task.judging) && is_free leases task

abbrev pub judging_classes : List Judging → List Class
judging_classes judgings = map (λ judging. judging.class) judgings

abbrev pub listed_classes : List JudgingTasks → List Class
listed_classes tasks = map (λ judging. judging.class) tasks

-- how many tests each judging has room for
abbrev pub widths : List JudgingTasks → List ℕ
widths tasks = map (λ judging. length judging.shown) tasks

-- how many tests the judging of this number has
abbrev pub tests_judged : List Judging → ℕ → ℕ
tests_judged judgings n = option_map_or (λ judging. length judging.row) (item_of judgings n) 0

-- each judging has room on the list for its tests
pub record AreWide (judgings : List Judging) (tasks : List JudgingTasks) : Type 0 where
  pub each : (n : ℕ) → tests_judged judgings n ≤ tests_listed tasks n

-- the second list begins with the first
abbrev pub Begins : List Class → List Class → Type 0
Begins [] others = Unit {0}
Begins (class ∷ classes) [] = ⊥
Begins (class ∷ classes) (other ∷ others) = (other ≡ class) × Begins classes others

-- the open tasks are listed and no others, by the classes of their judgings
pub record IsListed (rule : RuleValue) (judgings : List Judging) (leases : List Lease)
    (tasks : List JudgingTasks) : Type 0 where
  pub shown : (task : Task) → is_open rule judgings leases task ≡ true → is_shown tasks task ≡ true
  pub open_ : (task : Task) → is_shown tasks task ≡ true → is_open rule judgings leases task ≡ true
  pub classes : Begins (judging_classes judgings) (listed_classes tasks)
  pub wide : AreWide judgings tasks

-- up to this rank the row's empty cells are to be judged, and behind it none is
abbrev pub IsWantedUpTo : RuleValue → Mode → Row → ℕ → Type 0
IsWantedUpTo rule mode row last =
    (rank : ℕ) → 1 ≤ rank → slice_get row (rank - 1) ≡ Some None → is_wanted rule mode row rank ≡ nat_le rank last

-- up to this rank the empty cells of the judging of this number are to be judged, and behind it none is
pub record IsLastWanted (rule : RuleValue) (judgings : List Judging) (n last : ℕ) : Type 0 where
  pub each : (judging : Judging) → item_of judgings n ≡ Some judging → IsWantedUpTo rule judging.mode judging.row last

-- the task is listed if it is open; what else is listed, the classes and the room are as they were
pub record IsShownIfOpen (rule : RuleValue) (judgings : List Judging) (leases : List Lease) (task : Task)
    (old new : List JudgingTasks) : Type 0 where
  pub shown : is_open rule judgings leases task ≡ true → is_shown new task ≡ true
  pub open_ : is_shown new task ≡ true → (is_shown old task ≡ true) ⊎ (is_open rule judgings leases task ≡ true)
  pub others : (t : Task) → same_task t task ≡ false → is_shown new t ≡ is_shown old t
  pub classes : listed_classes new ≡ listed_classes old
  pub widths : widths new ≡ widths old

-- of the judging the open tasks of the first tests are listed and no others; what else is listed, the classes and the
-- room are as they were
pub record AreOpenShown (rule : RuleValue) (judgings : List Judging) (leases : List Lease) (judging tests : ℕ)
    (old new : List JudgingTasks) : Type 0 where
  pub shown : (test : ℕ) → 1 ≤ test → test ≤ tests → is_open rule judgings leases (task_of judging test) ≡ true
      → is_shown new (task_of judging test) ≡ true
  pub open_ : (test : ℕ) → is_shown new (task_of judging test) ≡ true
      → is_open rule judgings leases (task_of judging test) ≡ true
  pub others : (task : Task) → task.judging ≢ judging → is_shown new task ≡ is_shown old task
  pub classes : listed_classes new ≡ listed_classes old
  pub widths : widths new ≡ widths old

-- the first tests of a judging are listed; what else is listed, the classes and the room are as they were
pub record AreTestsShown (judging tests : ℕ) (old new : List JudgingTasks) : Type 0 where
  pub shown : (test : ℕ) → 1 ≤ test → test ≤ tests → is_shown new (task_of judging test) ≡ true
  pub rest : (test : ℕ) → tests < test → is_shown new (task_of judging test) ≡ is_shown old (task_of judging test)
  pub others : (task : Task) → task.judging ≢ judging → is_shown new task ≡ is_shown old task
  pub classes : listed_classes new ≡ listed_classes old
  pub widths : widths new ≡ widths old

-- behind so many judgings the list has room for judgings of these numbers of tests, the next one first, as far as
-- there can be judgings
pub record HasRoom (count : ℕ) (tests : List ℕ) (tasks : List JudgingTasks) : Type 0 where
  pub known : (k : ℕ) → k ≤ count + length tests → k ≤ max_judgings → k ≤ length tasks
  pub wide : (i : ℕ) → count + i + 1 ≤ max_judgings → get_or tests i 0 ≤ tests_listed tasks (count + i + 1)

-- the list has the room that it had, and may have more; the tasks that are listed and the classes are as they were
pub record IsWider (old new : List JudgingTasks) : Type 0 where
  pub count : length old ≤ length new
  pub wide : (n : ℕ) → tests_listed old n ≤ tests_listed new n
  pub shown : (task : Task) → is_shown new task ≡ is_shown old task
  pub classes : (classes : List Class) → Begins classes (listed_classes old) → Begins classes (listed_classes new)
