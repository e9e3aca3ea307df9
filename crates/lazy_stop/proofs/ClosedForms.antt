-- What the code computes: the closed forms, which the lemmas tie to the definitions.
use Rattle.std.specs.Prelude.{ℕ, Option, Some, None, Bool, true, false, ◌==◌, nat_lt, ◌&&◌, ◌||◌, if◌then◌else◌}
use Rattle.farm_kinds.specs.declared.kinds.Kind.{Kind}
use Rattle.farm_kinds.specs.RuleValue.{RuleValue}
use Rattle.farm_kinds.specs.Rules.{prio_of}
use Rattle.lazy_stop.specs.declared.row.Best.{Best}
use Rattle.lazy_stop.specs.declared.extremes.Extremes.{Extremes}

-- whether another possible kind has the greatest priority
abbrev pub has_rival : Option Kind → Bool
has_rival None = false
has_rival (Some rival) = true

-- whether an empty cell at this place, whose kind may be above or beside the best, may change the verdict
abbrev pub passes_best : RuleValue → Extremes → Option Best → ℕ → Bool
passes_best rule extremes None at = true
passes_best rule extremes (Some best) at = nat_lt (prio_of rule best.kind) (prio_of rule extremes.greatest) || (nat_lt at best.at && has_rival extremes.rival)

-- whether an empty cell at this place may change the verdict
abbrev pub may_change_verdict : RuleValue → Extremes → Option Best → ℕ → Bool
may_change_verdict rule extremes best at =
    if prio_of rule extremes.least == prio_of rule extremes.greatest then at == 0 && has_rival extremes.rival
    else passes_best rule extremes best at

-- the place before which an empty cell, whose kind may be above or beside the best, may change the verdict
abbrev pub place_of_best : RuleValue → Extremes → Option Best → ℕ → ℕ
place_of_best rule extremes None tests = tests
place_of_best rule extremes (Some best) tests =
    if nat_lt (prio_of rule best.kind) (prio_of rule extremes.greatest) then tests
    else (if has_rival extremes.rival then best.at else 0)

-- the place before which an empty cell may change the verdict
abbrev pub matters_before : RuleValue → Extremes → Option Best → ℕ → ℕ
matters_before rule extremes best tests =
    if prio_of rule extremes.least == prio_of rule extremes.greatest then (if has_rival extremes.rival then 1 else 0)
    else place_of_best rule extremes best tests

-- the verdict, where it is settled
abbrev pub deciding_kind : Extremes → Option Best → Kind
deciding_kind extremes None = extremes.greatest
deciding_kind extremes (Some best) = best.kind

-- the better of two filled cells, the earlier one where both are as high
abbrev pub is_better : RuleValue → Kind → ℕ → Best → Bool
is_better rule kind at best =
    nat_lt (prio_of rule best.kind) (prio_of rule kind) || (prio_of rule best.kind == prio_of rule kind && nat_lt at best.at)

-- the best filled cell after one more is filled
abbrev pub best_with : RuleValue → Option Best → Kind → ℕ → Best
best_with rule None kind at = record { kind = kind; at = at }
best_with rule (Some best) kind at = if is_better rule kind at best then record { kind = kind; at = at } else best
