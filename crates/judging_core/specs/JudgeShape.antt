-- How judgings lie in memory.
use Rattle.std.specs.Prelude.{◌≡◌, ℕ, ◌≤◌, List, Some, map, reverse, length, sum_by, All}
use Rattle.farm_kinds.specs.declared.kinds.Kind.{Kind}
use Rattle.farm_kinds.specs.declared.outcomes.Answer.{Answer}
use Rattle.farm_kinds.specs.RuleValue.{RuleValue}
use Rattle.farm_model.specs.Limits.{max_tests}
use Rattle.farm_model.specs.Numbered.{item_of}
use Rattle.farm_model.specs.Judgings.{Judging, empty_judging, judging_answer}
use Rattle.lazy_stop.specs.Matters.{IsPossible}
use Rattle.judging_core.specs.declared.judgings.KeptJudging.{KeptJudging}

abbrev pub judging_value : KeptJudging → Judging
judging_value kept = record {
  class = kept.class;
  mode = kept.mode;
  asked = kept.asked;
  row = kept.row.cells;
  handed = kept.handed;
  dropped = kept.dropped;
}

abbrev pub judging_values : List KeptJudging → List Judging
judging_values judgings = map judging_value judgings

-- what is reported of each judging, in order
abbrev pub answers_by : RuleValue → List Judging → List Answer
answers_by rule judgings = map (judging_answer rule) judgings

-- this is what is reported of the judging of this number
pub record IsReported (rule : RuleValue) (judgings : List Judging) (n : ℕ) (answer : Answer) : Type 0 where
  pub each : (judging : Judging) → item_of judgings n ≡ Some judging → answer ≡ judging_answer rule judging

-- at most 1,000 cells, and for each whether its task was ever handed out
pub record IsWellKept (kept : KeptJudging) : Type 0 where
  pub cells : length kept.row.cells ≤ max_tests
  pub marks : length kept.handed ≡ length kept.row.cells

abbrev pub AreWellKept : List KeptJudging → Type 0
AreWellKept judgings = All IsWellKept judgings

-- its row is judged by this rule
abbrev pub IsRuledBy : RuleValue → KeptJudging → Type 0
IsRuledBy rule kept = kept.row.rule ≡ rule

abbrev pub AreRuledBy : RuleValue → List KeptJudging → Type 0
AreRuledBy rule judgings = All (IsRuledBy rule) judgings

-- by the rule of its row a result can count as this kind
abbrev pub CanHold : Kind → KeptJudging → Type 0
CanHold kind kept = IsPossible kept.row.rule kind

abbrev pub CanAllHold : Kind → List KeptJudging → Type 0
CanAllHold kind judgings = All (CanHold kind) judgings

-- how many cells the row has
abbrev pub row_length : Judging → ℕ
row_length judging = length judging.row

abbrev pub cell_count : KeptJudging → ℕ
cell_count kept = length kept.row.cells

-- how many cells they have together
abbrev pub cells_in : List KeptJudging → ℕ
cells_in judgings = sum_by cell_count judgings

-- Judgings that are made ahead, the next one last

-- their numbers of tests, the next one first
abbrev pub reserved_of : List KeptJudging → List ℕ
reserved_of prepared = reverse (map cell_count prepared)

-- nothing of it was handed out or judged
pub record IsPrepared (kept : KeptJudging) : Type 0 where
  pub empty : judging_value kept ≡ empty_judging kept.class (cell_count kept) kept.mode kept.asked
  pub short : IsWellKept kept

abbrev pub ArePrepared : List KeptJudging → Type 0
ArePrepared prepared = All IsPrepared prepared
