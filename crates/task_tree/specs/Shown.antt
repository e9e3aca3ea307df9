-- Tasks that are shown, of judgings that are numbered from 1, and their order: by class, judging and test.
use Rattle.std.specs.Prelude.{ℕ, zero, suc, ◌-◌, ◌≤◌, List, ◌∷◌, ◌++◌, length, map, filter, flat_map, slice_get, slice_index_or, unwrap_or, Option, Bool, false, [], replicate}
use Rattle.std.specs.List.{enumerate_from}
use Rattle.std.specs.Option.{option_map_or}
use Rattle.farm_kinds.specs.declared.outcomes.Class.{Class}
use Rattle.farm_kinds.specs.declared.outcomes.Class.TheVariants.{High, Normal, Low}
use Rattle.farm_kinds.specs.declared.outcomes.Task.{Task}
use Rattle.farm_model.specs.Numbered.{item_of, with_item, with_change, numbers_to}
use Rattle.farm_model.specs.Judgings.{task_of}
use Rattle.farm_model.specs.Open.{same_class}

pub record JudgingTasks : Type 0 where
  pub class : Class
  -- for each test whether its task is shown
  pub shown : List Bool

-- a judging of this many tests, of which none is shown
abbrev pub hidden : Class → ℕ → JudgingTasks
hidden class tests = record { class = class; shown = replicate tests false }

-- how many tests the judging of this number has
abbrev pub tests_listed : List JudgingTasks → ℕ → ℕ
tests_listed judgings n = option_map_or (λ j. length j.shown) (item_of judgings n) 0

-- the task is there: its judging has a test of its rank
pub record HasTask (judgings : List JudgingTasks) (task : Task) : Type 0 where
  pub low : 1 ≤ task.test
  pub high : task.test ≤ tests_listed judgings task.judging

-- the task is shown, or hidden
abbrev pub with_shown : List JudgingTasks → Task → Bool → List JudgingTasks
with_shown judgings task shown =
    with_change judgings task.judging (λ j. record j { shown = with_item j.shown task.test shown })

-- the judging, and those of its tasks that are shown, in another class
abbrev pub with_class : List JudgingTasks → ℕ → Class → List JudgingTasks
with_class judgings n class = with_change judgings n (λ j. record j { class = class })

-- the judging with as many tests more as it takes to have at least `tests`; their tasks are hidden
abbrev pub widened : ℕ → JudgingTasks → JudgingTasks
widened tests j = record j { shown = j.shown ++ replicate (tests - length j.shown) false }

-- the judging, and those of its tasks that are shown, with at least this many tests
abbrev pub with_room : List JudgingTasks → ℕ → ℕ → List JudgingTasks
with_room judgings n tests = with_change judgings n (widened tests)

-- the tests up to this rank as they are, and those behind it hidden
abbrev pub hidden_behind : ℕ → List Bool → List Bool
hidden_behind zero shown = replicate (length shown) false
hidden_behind (suc rank) [] = []
hidden_behind (suc rank) (first ∷ shown) = first ∷ hidden_behind rank shown

-- the tasks of the judging of this number are hidden behind this rank
abbrev pub with_hidden_behind : List JudgingTasks → ℕ → ℕ → List JudgingTasks
with_hidden_behind judgings n rank = with_change judgings n (λ j. record j { shown = hidden_behind rank j.shown })

-- for each test of the judging of this number whether its task is shown
abbrev pub shown_of : List JudgingTasks → ℕ → List Bool
shown_of judgings n = option_map_or (λ j. j.shown) (item_of judgings n) []

-- the task is there, and shown
abbrev pub is_shown : List JudgingTasks → Task → Bool
is_shown judgings task = unwrap_or (item_of (shown_of judgings task.judging) task.test) false

abbrev pub is_shown_test : List Bool → ℕ → Bool
is_shown_test shown test = slice_index_or shown (test - 1) false

-- the shown tasks of the judging of this number
abbrev pub shown_in : ℕ × JudgingTasks → List Task
shown_in p = map (task_of p.0) (filter (is_shown_test p.1.shown) (numbers_to (length p.1.shown)))

abbrev pub shown_in_class : List JudgingTasks → Class → List Task
shown_in_class judgings class = flat_map shown_in (filter (λ p. same_class p.1.class class) (enumerate_from 1 judgings))

-- the shown tasks, by class, judging and test
abbrev pub shown_tasks : List JudgingTasks → List Task
shown_tasks judgings = shown_in_class judgings High ++ shown_in_class judgings Normal ++ shown_in_class judgings Low

-- the least shown task
abbrev pub first_shown : List JudgingTasks → Option Task
first_shown judgings = slice_get (shown_tasks judgings) 0
