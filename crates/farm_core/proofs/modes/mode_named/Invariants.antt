use Rattle.std.proofs.Common.{◌≡◌, drop}
use Rattle.farm_model.specs.Changes.{mode_named}
use Rattle.farm_core.proofs.modes.mode_named.Given as goal

abbrev pub invariant-loop-entry : goal.invariant-loop-entry
invariant-loop-entry l = mode_named (drop l.entry-index l.modes) l.name ≡ mode_named l.modes l.name
