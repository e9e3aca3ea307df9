use Rattle.std.proofs.Common.{◌≡◌}
use Rattle.std.specs.Prelude.{map}
use Rattle.package_notes.specs.Notes.{yaml_note}
use Rattle.package_notes.proofs.settings.yaml_notes.Given as goal

abbrev pub invariant-loop-skipped : goal.invariant-loop-skipped
invariant-loop-skipped l = l.notes.items ≡ map yaml_note l.yielded
