use Rattle.std.proofs.Common.{◌≡◌}
use Rattle.std.specs.Prelude.{map}
use Rattle.package_notes.specs.Notes.{ini_note}
use Rattle.package_notes.proofs.settings.notes_on.Given as goal

abbrev pub invariant-loop-skipped : goal.invariant-loop-skipped
invariant-loop-skipped l = l.notes.items ≡ map ini_note l.yielded
