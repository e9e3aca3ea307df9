-- What stands behind the records that were read.
use Rattle.std.specs.Prelude.{◌≡◌, ℕ, ◌+◌, ◌<◌, List, [], length, drop, Some, None}
use Rattle.record_store.specs.Held.{held, IsNext}
use Rattle.farm_model.specs.State.{State}
use Rattle.stored_events.specs.Opening.{stored_step}
use Rattle.farm_journal.specs.declared.opening.Next.{Next}
use Rattle.farm_journal.specs.declared.opening.Next.TheVariants as next

-- what stands at the offset, where the farm was in the first state and is in the second one now
abbrev pub Meets : List ℕ → ℕ → List ℕ → State → State → Next → Type 0
Meets file at line old new next.Played = IsNext file at line × (stored_step old line ≡ Some new)
Meets file at line old new next.Other =
    IsNext file at line × (stored_step old line ≡ None) × (at + 3 + length line < length file)
Meets file at line old new next.End = (held (drop at file) ≡ []) × (new ≡ old)
