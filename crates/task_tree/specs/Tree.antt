-- For each class the judgings of which a task is shown, and what each judging keeps.
use Rattle.std.specs.Prelude.{◌≡◌, ℕ, ◌+◌, ◌*◌, ◌/◌, ◌≤◌, ◌⊎◌, length}
use Rattle.farm_kinds.specs.declared.outcomes.Class.{Class}
use Rattle.farm_kinds.specs.declared.outcomes.Class.TheVariants.{High, Normal, Low}
use Rattle.task_tree.specs.Bits.{bit}
use Rattle.task_tree.specs.Numbers.{Numbers}
use Rattle.task_tree.specs.declared.classes.Classes.{Classes}

abbrev pub of_class : Classes → Class → Numbers
of_class classes High = classes.high
of_class classes Normal = classes.normal
of_class classes Low = classes.low

-- each class has room for `count` judgings
pub record HasRoom (classes : Classes) (count : ℕ) : Type 0 where
  pub room : (c : Class) → count ≤ 64 * length (of_class classes c).numbers

-- the same judgings are in
pub record IsReserved (old new : Classes) (place : ℕ) : Type 0 where
  pub same : (c : Class) (i : ℕ) → bit (of_class new c).numbers i ≡ bit (of_class old c).numbers i
  pub grows : (c : Class) → length (of_class old c).numbers ≤ length (of_class new c).numbers
  pub top_words : (c : Class)
      → ((of_class new c).top_words ≡ (of_class old c).top_words)
      ⊎ ((of_class new c).top_words ≡ place / 64 / 64 / 64 + 1)
