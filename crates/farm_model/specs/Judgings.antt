-- Judgings: their rows, and what becomes of results (DOMjudge manual, "Judging").
use Rattle.std.specs.Prelude.{ℕ, ◌-◌, List, [], ◌∷◌, replicate, slice_set, map, Option, Some, None, is_some, Bool, true, false, if◌then◌else◌, unwrap_or}
use Rattle.std.specs.Option.{option_map, option_and_then}
use Rattle.farm_kinds.specs.declared.kinds.Kind.{Kind}
use Rattle.farm_kinds.specs.declared.outcomes.Answer.{Answer}
use Rattle.farm_kinds.specs.declared.outcomes.Class.{Class}
use Rattle.farm_kinds.specs.declared.outcomes.Mode.{Mode}
use Rattle.farm_kinds.specs.declared.outcomes.Task.{Task}
use Rattle.farm_kinds.specs.declared.outcomes.Count.{Count}
use Rattle.farm_kinds.specs.declared.outcomes.Count.TheVariants as count
use Rattle.farm_kinds.specs.RuleValue.{RuleValue}
use Rattle.farm_model.specs.Numbered.{item_of, with_change}
use Rattle.farm_model.specs.Refusing.{when, unless, first_of}
use Rattle.farm_model.specs.Rows.{Row, answer_of, same_kind}

pub record Judging : Type 0 where
  pub class : Class
  -- how far it is judged
  pub mode : Mode
  -- whether it was asked for: hosts are given no task of another
  pub asked : Bool
  pub row : Row
  -- which of its tasks were ever handed out, in rank order
  pub handed : List Bool
  -- whether it takes no more results
  pub dropped : Bool

-- a judging of `tests` tests, none of which was handed out or judged
abbrev pub empty_judging : Class → ℕ → Mode → Bool → Judging
empty_judging class tests mode asked = record {
  class = class;
  mode = mode;
  asked = asked;
  row = replicate tests None;
  handed = replicate tests false;
  dropped = false;
}

abbrev pub task_of : ℕ → ℕ → Task
task_of judging test = record { judging = judging; test = test }

-- the rows of the judgings, in order
abbrev pub judging_rows : List Judging → List Row
judging_rows judgings = map (λ judging. judging.row) judgings

-- what is reported of a judging
abbrev pub judging_answer : RuleValue → Judging → Answer
judging_answer rule judging = answer_of rule judging.mode judging.row

-- what is reported of the judging of this number, where there is one
abbrev pub answer_in : RuleValue → List Judging → ℕ → Option Answer
answer_in rule judgings j = option_map (judging_answer rule) (item_of judgings j)

abbrev pub is_judging : List Judging → ℕ → Bool
is_judging judgings j = is_some (item_of judgings j)

-- the cell of this test of this judging, where there is one
abbrev pub cell_of : List Judging → ℕ → ℕ → Option (Option Kind)
cell_of judgings j test = option_and_then (λ judging. item_of judging.row test) (item_of judgings j)

abbrev pub has_test : List Judging → ℕ → ℕ → Bool
has_test judgings j test = is_some (cell_of judgings j test)

-- what a result is answered whose cell keeps a kind
abbrev pub kept_count : Kind → Kind → Count
kept_count given kept = if same_kind kept given then count.Repeat kept else count.Differs kept given

-- the cell is filled: its kind stays
abbrev pub kept_refusal : List Judging → ℕ → ℕ → Kind → Option Count
kept_refusal judgings j test given = option_map (kept_count given) (unwrap_or (cell_of judgings j test) None)

abbrev pub is_dropped : List Judging → ℕ → Bool
is_dropped judgings j = unwrap_or (option_map (λ judging. judging.dropped) (item_of judgings j)) false

abbrev pub is_asked : List Judging → ℕ → Bool
is_asked judgings j = unwrap_or (option_map (λ judging. judging.asked) (item_of judgings j)) false

-- whether the task was ever handed out
abbrev pub was_handed : List Judging → ℕ → ℕ → Bool
was_handed judgings j test =
    unwrap_or (option_and_then (λ judging. item_of judging.handed test) (item_of judgings j)) false

-- why a result from outside does not count
abbrev pub entry_refusal : List Judging → ℕ → ℕ → Kind → Option Count
entry_refusal judgings j test given = first_of (
    unless (is_judging judgings j) count.NoJudging
    ∷ unless (has_test judgings j test) count.NoTest
    ∷ kept_refusal judgings j test given
    ∷ when (is_dropped judgings j) count.Dropped ∷ [])

-- why a host's result does not count; a late one counts like any other
abbrev pub result_refusal : List Judging → ℕ → ℕ → Kind → Option Count
result_refusal judgings j test given = first_of (
    unless (is_judging judgings j) count.NoJudging
    ∷ unless (has_test judgings j test) count.NoTest
    ∷ unless (was_handed judgings j test) count.NotHanded
    ∷ kept_refusal judgings j test given
    ∷ when (is_dropped judgings j) count.Dropped ∷ [])

abbrev pub fill_cell : ℕ → Kind → Judging → Judging
fill_cell test kind judging = record judging { row = slice_set judging.row (test - 1) (Some kind) }

-- the cell of this test of this judging holds the kind
abbrev pub with_result : List Judging → ℕ → ℕ → Kind → List Judging
with_result judgings j test kind = with_change judgings j (fill_cell test kind)

abbrev pub mark_handed : ℕ → Judging → Judging
mark_handed test judging = record judging { handed = slice_set judging.handed (test - 1) true }

-- the task was handed out
abbrev pub with_handed : List Judging → Task → List Judging
with_handed judgings task = with_change judgings task.judging (mark_handed task.test)

abbrev pub mark_asked : Judging → Judging
mark_asked judging = record judging { asked = true }

-- the judging was asked for
abbrev pub with_asked : List Judging → ℕ → List Judging
with_asked judgings j = with_change judgings j mark_asked

abbrev pub mark_dropped : Judging → Judging
mark_dropped judging = record judging { dropped = true }

-- the judging takes no more results; its cells stay
abbrev pub with_dropped : List Judging → ℕ → List Judging
with_dropped judgings j = with_change judgings j mark_dropped
