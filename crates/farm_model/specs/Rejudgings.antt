-- Rejudgings, numbered from 1: their members, their states, and which of them a submission is in.
use Rattle.std.specs.Prelude.{ℕ, ◌+◌, List, [], ◌∷◌, ◌++◌, map, Option, Some, None, is_some, Bool, true, false, ◌&&◌, ◌==◌, if◌then◌else◌, unwrap_or}
use Rattle.std.specs.List.{list_any}
use Rattle.std.specs.Option.{option_map, option_and_then}
use Rattle.farm_kinds.specs.declared.outcomes.How.{How}
use Rattle.farm_kinds.specs.declared.outcomes.How.TheVariants as how
use Rattle.farm_model.specs.declared.records.Member.{Member}
use Rattle.farm_model.specs.declared.records.Rejudging.{Rejudging}
use Rattle.farm_model.specs.declared.records.RejudgeState.{RejudgeState}
use Rattle.farm_model.specs.declared.records.RejudgeState.TheVariants as state
use Rattle.farm_model.specs.Numbered.{item_of, with_change, number_where}
use Rattle.farm_model.specs.Refusing.{unless, first_of}

abbrev pub is_open_state : RejudgeState → Bool
is_open_state state.Open = true
is_open_state state.Applied = false
is_open_state state.Cancelled = false

abbrev pub has_member : ℕ → List Member → Bool
has_member submission members = list_any (λ member. member.submission == submission) members

-- the rejudging is neither applied nor cancelled, and the submission is in it
abbrev pub holds_open : ℕ → Rejudging → Bool
holds_open submission rejudging = is_open_state rejudging.state && has_member submission rejudging.members

-- the number of the rejudging, neither applied nor cancelled, that the submission is in
abbrev pub busy_with : List Rejudging → ℕ → Option ℕ
busy_with rejudgings submission = number_where (holds_open submission) rejudgings

-- the first member that stood earlier in the list, after those before it
abbrev pub first_twice_after : List ℕ → List ℕ → Option ℕ
first_twice_after earlier [] = None
first_twice_after earlier (m ∷ list) =
    if list_any (λ n. n == m) earlier then Some m else first_twice_after (m ∷ earlier) list

abbrev pub first_twice : List ℕ → Option ℕ
first_twice list = first_twice_after [] list

-- the members, whose new judgings are numbered from first
abbrev pub members_from : ℕ → List ℕ → List ℕ → List Member
members_from first (submission ∷ list) (old ∷ olds) =
    record { submission = submission; old = old; new = first } ∷ members_from (first + 1) list olds
members_from first list olds = []

-- one more rejudging, which is open
abbrev pub prepared : List Rejudging → List ℕ → List ℕ → ℕ → List Rejudging
prepared rejudgings list olds first =
    rejudgings ++ (record { members = members_from first list olds; state = state.Open }) ∷ []

abbrev pub members_of : List Rejudging → ℕ → Option (List Member)
members_of rejudgings number = option_map (λ r. r.members) (item_of rejudgings number)

-- the members of the rejudging of this number; none where no rejudging has it
abbrev pub members_in : List Rejudging → ℕ → List Member
members_in rejudgings number = unwrap_or (members_of rejudgings number) []

-- the judgings that were made for the members
abbrev pub new_judgings : List Member → List ℕ
new_judgings members = map (λ member. member.new) members

abbrev pub state_of : List Rejudging → ℕ → Option RejudgeState
state_of rejudgings number = option_map (λ r. r.state) (item_of rejudgings number)

abbrev pub how_closed : RejudgeState → Option How
how_closed state.Open = None
how_closed state.Applied = Some how.Applied
how_closed state.Cancelled = Some how.Cancelled

abbrev pub state_when : How → RejudgeState
state_when how.Applied = state.Applied
state_when how.Cancelled = state.Cancelled

abbrev pub closed_how : List Rejudging → ℕ → Option How
closed_how rejudgings number = option_and_then how_closed (state_of rejudgings number)

abbrev pub close_as : How → Rejudging → Rejudging
close_as h rejudging = record rejudging { state = state_when h }

-- the rejudging of this number is closed
abbrev pub closed : List Rejudging → ℕ → How → List Rejudging
closed rejudgings number h = with_change rejudgings number (close_as h)

-- Refusals, which each caller tells in its own type

-- the list has a submission that stood earlier in it
abbrev pub twice_refusal : {R : Type 0} → (ℕ → R) → List ℕ → Option R
twice_refusal twice list = option_map twice (first_twice list)

-- the submission is in an open rejudging
abbrev pub is_busy : {R : Type 0} → (ℕ → ℕ → R) → List Rejudging → ℕ → Option R
is_busy busy rejudgings submission = option_map (busy submission) (busy_with rejudgings submission)

-- the list has a submission that is in an open rejudging
abbrev pub busy_refusal : {R : Type 0} → (ℕ → ℕ → R) → List Rejudging → List ℕ → Option R
busy_refusal busy rejudgings list = first_of (map (is_busy busy rejudgings) list)

-- no rejudging has the number
abbrev pub absent_refusal : {R : Type 0} → R → List Rejudging → ℕ → Option R
absent_refusal absent rejudgings number = unless (is_some (item_of rejudgings number)) absent

-- no rejudging has the number, or the one that has it is closed
abbrev pub closing_refusal : {R : Type 0} → R → (How → R) → List Rejudging → ℕ → Option R
closing_refusal absent done rejudgings number = first_of (
    absent_refusal absent rejudgings number
    ∷ option_map done (closed_how rejudgings number) ∷ [])
