use Rattle.std.specs.Prelude.{◌≡◌, None}
use Rattle.elf_image.specs.Segments.{first_fault}
use Rattle.elf_image.specs.Loads.{AreLoads}
use Rattle.elf_image.proofs.elf.read_entries.Given as goal

abbrev pub invariant-loop-k : goal.invariant-loop-k
invariant-loop-k l = record { read : AreLoads l.file l.k l.loads; sound : first_fault l.file l.k ≡ None }
