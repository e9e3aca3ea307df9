use Rattle.std.proofs.Common.{◌≡◌, ◌++◌, [], List, sym, ap, ◌∙◌, rules}
use Rattle.std.specs.List.{cons_option}
use Rattle.package_folder.specs.Paths.{texts}
use Rattle.contest_notes.specs.declared.notes.ContestNote.{ContestNote}
use Rattle.contest_notes.specs.Notes.{note_of_mode}
use Rattle.contest_notes.proofs.Steps.{item_step}
use Rattle.contest_notes.proofs.finding.lost_modes.Goals as goal

pub loop-mode-preserved : goal.loop-mode-preserved
loop-mode-preserved c =
    let item = c.mode-item.result in
    let note = c.note_of_mode.result in
    let f = note_of_mode (texts c.args.shorts.now) in
    let found : f item ≡ note = sym c.note_of_mode.ensures in
    let is : c.push_some.new.notes.items ≡ c.loop-mode.notes.items ++ cons_option note [] = search rules in
    is ∙ ap (λ (ns : List ContestNote). ns ++ cons_option note []) c.loop-mode.invariant
    ∙ sym (item_step f c.args.modes.now c.loop-mode.mode-index item note c.loop-mode-test.true c.mode-item.is found)
