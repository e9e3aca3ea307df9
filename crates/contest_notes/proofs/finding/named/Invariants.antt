use Rattle.std.proofs.Common.{◌≡◌}
use Rattle.std.specs.Prelude.{map}
use Rattle.contest_notes.specs.declared.notes.ContestNote.TheVariants as note
use Rattle.contest_notes.proofs.finding.named.Given as goal

abbrev pub invariant-loop-note : goal.invariant-loop-note
invariant-loop-note l = l.all.items ≡ map (note.Package l.short) l.yielded
