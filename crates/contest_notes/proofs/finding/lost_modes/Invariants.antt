use Rattle.std.proofs.Common.{◌≡◌, filter_map, take}
use Rattle.package_folder.specs.Paths.{texts}
use Rattle.contest_notes.specs.Notes.{note_of_mode}
use Rattle.contest_notes.proofs.finding.lost_modes.Given as goal

abbrev pub invariant-loop-mode : goal.invariant-loop-mode
invariant-loop-mode l = l.notes.items ≡ filter_map (note_of_mode (texts l.shorts)) (take l.mode-index l.modes)
