-- The order of tasks.
use Rattle.std.specs.Prelude.{◌≡◌, ◌<◌, ◌⊎◌}
use Rattle.farm_kinds.specs.declared.outcomes.Task.{Task}

-- of a lesser judging, or of the same judging and a lesser test
abbrev pub IsLesserTask : Task → Task → Type 0
IsLesserTask a b = (a.judging < b.judging) ⊎ ((a.judging ≡ b.judging) × (a.test < b.test))
