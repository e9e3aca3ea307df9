-- Rows of results, their completions, and what is reported of them. Priorities, remapping and lazy evaluation are
-- DOMjudge's (its manual, `results_prio`, `results_remap`, `lazy_eval_results`); where lazy judging stops, and that
-- the earliest rank decides on equal priority, are this project's own profile.
use Rattle.std.specs.Prelude.{ℕ, ◌-◌, List, [], ◌∷◌, map, slice_set, Option, Some, None, Bool, true, false, not, ◌==◌, find, flat_map}
use Rattle.std.specs.List.{list_all, list_any}
use Rattle.std.specs.Option.{option_map}
use Rattle.farm_kinds.specs.declared.kinds.Kind.{Kind}
use Rattle.farm_kinds.specs.declared.outcomes.Verdict.TheVariants.{Tests, CompilerError}
use Rattle.farm_kinds.specs.declared.outcomes.Answer.{Answer}
use Rattle.farm_kinds.specs.declared.outcomes.Answer.TheVariants.{Final, Pending}
use Rattle.farm_kinds.specs.declared.outcomes.Mode.{Mode}
use Rattle.farm_kinds.specs.declared.outcomes.Mode.TheVariants.{Lazy, Full}
use Rattle.farm_kinds.specs.RuleValue.{RuleValue}
use Rattle.farm_kinds.specs.Kinds.{every_kind}
use Rattle.farm_kinds.specs.Rules.{verdict_of, possible_kinds, place_of}
use Rattle.farm_model.specs.Numbered.{item_of}

-- one cell per test in rank order: empty, or the kind of its result after remapping
abbrev pub Row : Type 0
Row = List (Option Kind)

abbrev pub same_kind : Kind → Kind → Bool
same_kind a b = place_of a == place_of b

-- the verdict of a list is this kind
abbrev pub is_verdict : Kind → Option Kind → Bool
is_verdict kind None = false
is_verdict kind (Some verdict) = same_kind kind verdict

-- what a cell may hold in the end: a possible kind where it is empty, else what it holds
abbrev pub choices_of : RuleValue → Option Kind → List Kind
choices_of rule None = possible_kinds rule
choices_of rule (Some kind) = kind ∷ []

-- each of the kinds before each of the lists
abbrev pub each_before : List Kind → List (List Kind) → List (List Kind)
each_before kinds lists = flat_map (λ kind. map (λ list. kind ∷ list) lists) kinds

-- every way to fill the row
abbrev pub completions_of : RuleValue → Row → List (List Kind)
completions_of rule [] = [] ∷ []
completions_of rule (cell ∷ row) = each_before (choices_of rule cell) (completions_of rule row)

-- every completion has this verdict
abbrev pub is_settled : RuleValue → Row → Kind → Bool
is_settled rule row kind = list_all (λ kinds. is_verdict kind (verdict_of rule kinds)) (completions_of rule row)

-- the kind that settles the row, where there is one
abbrev pub settled_kind : RuleValue → Row → Option Kind
settled_kind rule row = find (is_settled rule row) every_kind

-- the kinds of a row whose cells are all filled
abbrev pub kinds_of : Row → Option (List Kind)
kinds_of [] = Some []
kinds_of (None ∷ row) = None
kinds_of (Some kind ∷ row) = option_map (λ kinds. kind ∷ kinds) (kinds_of row)

-- the verdict of the kinds, where they are all there
abbrev pub full_kind : RuleValue → Option (List Kind) → Option Kind
full_kind rule None = None
full_kind rule (Some kinds) = verdict_of rule kinds

-- the kind that the row is known to end with: lazily once it is settled, in full once it is full
abbrev pub known_kind : RuleValue → Mode → Row → Option Kind
known_kind rule Lazy row = settled_kind rule row
known_kind rule Full row = full_kind rule (kinds_of row)

abbrev pub answer_with : Option Kind → Answer
answer_with None = Pending
answer_with (Some kind) = Final (Tests kind)

-- what is reported of a row; one without cells is a broken submission's
abbrev pub answer_of : RuleValue → Mode → Row → Answer
answer_of rule mode [] = Final CompilerError
answer_of rule mode (cell ∷ row) = answer_with (known_kind rule mode (cell ∷ row))

-- Cells that matter

abbrev pub same_verdict : Option Kind → Option Kind → Bool
same_verdict None None = true
same_verdict None (Some b) = false
same_verdict (Some a) other = is_verdict a other

-- another possible kind for this test alone gives the kinds another verdict
abbrev pub depends_on : RuleValue → List Kind → ℕ → Bool
depends_on rule kinds test =
    list_any (λ kind. not (same_verdict (verdict_of rule kinds) (verdict_of rule (slice_set kinds (test - 1) kind))))
    (possible_kinds rule)

abbrev pub matters_at : RuleValue → Row → ℕ → Option (Option Kind) → Bool
matters_at rule row test None = false
matters_at rule row test (Some None) = list_any (λ kinds. depends_on rule kinds test) (completions_of rule row)
matters_at rule row test (Some (Some kind)) = false

-- the cell of this test is empty, and two completions that differ there alone have different verdicts
abbrev pub matters : RuleValue → Row → ℕ → Bool
matters rule row test = matters_at rule row test (item_of row test)
