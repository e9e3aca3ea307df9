use Rattle.std.proofs.Common.{All, IsUtf8}
use Rattle.farm_tree.specs.declared.entries.Entry.{Entry}
use Rattle.farm_tree.proofs.disk.list_folder.Given as goal

abbrev pub invariant-loop-entry : goal.invariant-loop-entry
invariant-loop-entry g l = All (λ (entry : Entry). IsUtf8 entry.name) l.entries
