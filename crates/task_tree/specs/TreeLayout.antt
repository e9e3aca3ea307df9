-- How a task tree lies in memory.
use Rattle.std.specs.Prelude.{◌≡◌, ℕ, zero, suc, ◌+◌, ◌*◌, ◌/◌, ◌<◌, ◌≤◌, List, [], ◌∷◌, map, length, get_or, Bool, ◌==◌}
use Rattle.farm_kinds.specs.declared.outcomes.Class.{Class}
use Rattle.farm_kinds.specs.declared.outcomes.Class.TheVariants.{High}
use Rattle.farm_model.specs.Limits.{max_tests}
use Rattle.task_tree.specs.Bits.{bit}
use Rattle.task_tree.specs.Shown.{JudgingTasks}
use Rattle.task_tree.specs.Tree.{of_class}
use Rattle.task_tree.specs.declared.classes.Classes.{Classes}
use Rattle.task_tree.specs.declared.tree.KeptTasks.{KeptTasks}

-- whether each of n numbers from i on is in the set
abbrev pub shown_from : List ℕ → ℕ → ℕ → List Bool
shown_from words i zero = []
shown_from words i (suc n) = (bit words i == 1) ∷ shown_from words (i + 1) n

abbrev pub tasks_value : KeptTasks → JudgingTasks
tasks_value kept = record { class = kept.class; shown = shown_from kept.shown 0 kept.tests }

abbrev pub tasks_values : List KeptTasks → List JudgingTasks
tasks_values judgings = map tasks_value judgings

-- what stands for a judging where there is none
abbrev pub no_tasks : KeptTasks
no_tasks = record { class = High; tests = 0; shown = [] }

abbrev pub kept_at : List KeptTasks → ℕ → KeptTasks
kept_at judgings i = get_or judgings i no_tasks

-- at most 16 words, with room for each test and no other number in
pub record IsSized (kept : KeptTasks) : Type 0 where
  pub tests : kept.tests ≤ max_tests
  pub words : length kept.shown ≤ 16
  pub room : kept.tests ≤ 64 * length kept.shown
  pub bound : (k : ℕ) → bit kept.shown k ≡ 1 → k < kept.tests

-- each judging is
pub record AreSized (judgings : List KeptTasks) : Type 0 where
  pub each : (i : ℕ) → i < length judgings → IsSized (kept_at judgings i)

-- the set has the places of the judgings of the class of which a task is shown
pub record IsIndexOf (class : Class) (judgings : List KeptTasks) (numbers : List ℕ) : Type 0 where
  pub listed : (i k : ℕ) → i < length judgings → (kept_at judgings i).class ≡ class
      → bit (kept_at judgings i).shown k ≡ 1 → bit numbers i ≡ 1
  pub known : (i : ℕ) → bit numbers i ≡ 1 → i < length judgings
  pub class_is : (i : ℕ) → bit numbers i ≡ 1 → (kept_at judgings i).class ≡ class
  pub some : (i : ℕ) → bit numbers i ≡ 1 → (k : ℕ) × (bit (kept_at judgings i).shown k ≡ 1)

-- each class has its judgings, room for all judgings, and no more words at the top than the bound on steps allows
pub record IsIndexed (judgings : List KeptTasks) (classes : Classes) : Type 0 where
  pub each : (c : Class) → IsIndexOf c judgings (of_class classes c).numbers
  pub room : (c : Class) → length judgings ≤ 64 * length (of_class classes c).numbers
  pub top_words : (c : Class) → (of_class classes c).top_words ≤ 2
  pub few_top_words : (c : Class) → (of_class classes c).top_words ≤ 1 + length judgings / 64
