-- Why a result does not count, part by part.
use Rattle.std.specs.Prelude.{Option, Some, None, Bool}
use Rattle.farm_kinds.specs.declared.kinds.Kind.{Kind}
use Rattle.farm_kinds.specs.declared.outcomes.Count.{Count}
use Rattle.farm_kinds.specs.declared.outcomes.Count.TheVariants as count
use Rattle.farm_model.specs.Refusing.{when}
use Rattle.farm_model.specs.Judgings.{kept_count}

-- the cell holds a kind, or its judging was dropped
abbrev pub cell_refusal : Option Kind → Bool → Kind → Option Count
cell_refusal (Some kept) dropped given = Some (kept_count given kept)
cell_refusal None dropped given = when dropped count.Dropped
