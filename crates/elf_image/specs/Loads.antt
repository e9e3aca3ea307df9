use Rattle.std.specs.Prelude.{◌≡◌, ℕ, ◌≤◌, List, take}
use Rattle.elf_image.specs.declared.segment.Loads.{Loads}
use Rattle.elf_image.specs.Segments.{segments, load_count}

-- what was read of the first k entries of the program header table
pub record AreLoads (file : List ℕ) (k : ℕ) (l : Loads) : Type 0 where
  pub read : take l.count l.segments ≡ segments file k
  pub counted : l.index ≡ load_count file k
  pub count : l.count ≤ k
  pub index : l.index ≤ k
