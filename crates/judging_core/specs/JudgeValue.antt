-- What a judge is.
use Rattle.std.specs.Prelude.{ℕ, List, [], ◌∷◌, Bool, false, ◌==◌, if◌then◌else◌}
use Rattle.farm_kinds.specs.declared.outcomes.Class.{Class}
use Rattle.farm_kinds.specs.declared.outcomes.Mode.{Mode}
use Rattle.farm_kinds.specs.RuleValue.{RuleValue}
use Rattle.farm_model.specs.Judge.{JudgeState, first_state, add_judging}

-- hosts are numbered from 1
pub record JudgeValue : Type 0 where
  -- judgings with their rows, leases, and the moment
  pub state : JudgeState
  -- how many hosts there are
  pub hosts : ℕ
  -- the numbers of tests of the judgings that are made ahead, in the order in which they are added
  pub reserved : List ℕ

-- no judgings and no hosts, and nothing is made ahead
abbrev pub first_judge : RuleValue → ℕ → JudgeValue
first_judge rule lease = record { state = first_state rule lease; hosts = 0; reserved = [] }

-- the judge in another state, with the hosts and the judgings made ahead that it has
abbrev pub in_state : JudgeValue → JudgeState → JudgeValue
in_state judge state = record judge { state = state }

-- whether the next judging that is made ahead has this number of tests
abbrev pub starts_with : List ℕ → ℕ → Bool
starts_with [] tests = false
starts_with (next ∷ reserved) tests = next == tests

-- what stays reserved once a judging of this number of tests is added: nothing where another was reserved
abbrev pub left_reserved : List ℕ → ℕ → List ℕ
left_reserved [] tests = []
left_reserved (next ∷ reserved) tests = if next == tests then reserved else []

-- the judge with one judging more
abbrev pub with_judging : JudgeValue → Class → ℕ → Mode → Bool → JudgeValue
with_judging judge class tests mode asked = record judge {
  state = add_judging judge.state class tests mode asked;
  reserved = left_reserved judge.reserved tests;
}
