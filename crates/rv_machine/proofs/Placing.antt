use Rattle.std.proofs.Common.{◌≡◌, ℕ, true, [], length, Option, Some, None, Result, refl, arith, inl, inr}
use Rattle.std.proofs.lemmas.Bool.{cases_Bool}
use Rattle.farm_kinds.specs.declared.NoMemory.{NoMemory}
use Rattle.rv_memory.specs.Paged as memory
use Rattle.rv_machine.specs.declared.ending.Ending.{Ending}
use Rattle.rv_machine.specs.Laws.{LoadsByPlacing, PlacesNothing}
use Rattle.rv_machine.specs.Running.{Run, placed_where}

pub loads_by_placing : LoadsByPlacing
loads_by_placing image limits inputs = elim (cases_Bool (memory.fits (record { limit = limits.pages; pages = [] }) 0x10000 (length image))) [
  | inl t ↦ rw t refl
  | inr t ↦ rw t refl
]

places_nothing_where : (answer : Option (Result Ending NoMemory)) (r : Run) (at : ℕ) → memory.fits r.state.hart.memory at 0 ≡ true → placed_where answer at [] r ≡ r
places_nothing_where None r at h = rw h refl
places_nothing_where (Some answer) r at h = refl

pub places_nothing : PlacesNothing
places_nothing r at h =
    let fits : memory.fits r.state.hart.memory at 0 ≡ true = grind arith in
    places_nothing_where r.answer r at fits
