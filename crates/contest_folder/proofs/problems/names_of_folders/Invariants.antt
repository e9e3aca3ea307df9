use Rattle.std.proofs.Common.{◌≡◌, take}
use Rattle.contest_folder.specs.Problems.{folders_of}
use Rattle.contest_folder.proofs.problems.names_of_folders.Given as goal

abbrev pub invariant-loop-entry : goal.invariant-loop-entry
invariant-loop-entry l = l.names ≡ folders_of (take l.entry-index l.entries)
