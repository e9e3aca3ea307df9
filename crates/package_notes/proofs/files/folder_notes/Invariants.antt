use Rattle.std.proofs.Common.{◌≡◌}
use Rattle.std.specs.Prelude.{map}
use Rattle.package_notes.specs.declared.notes.Note.TheVariants as note
use Rattle.package_notes.proofs.files.folder_notes.Given as goal

abbrev pub invariant-loop-name : goal.invariant-loop-name
invariant-loop-name l = l.notes.items ≡ map note.OtherFolder l.yielded
