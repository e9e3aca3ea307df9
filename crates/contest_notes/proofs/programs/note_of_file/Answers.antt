use Rattle.std.proofs.Common.{◌≡◌, Ok, sym, ap, ◌∙◌, option_and_then, rules}
use Rattle.farm_tree.specs.Listing.{in_folder}
use Rattle.farm_tree.specs.Reading.{file_at, read_answer}
use Rattle.contest_notes.specs.Notes.{program_note}
use Rattle.contest_notes.proofs.ReadAnswers.{read_ok}
use Rattle.contest_notes.proofs.programs.note_of_file.Goals as goal

pub returns-in-Ok-clause-note : goal.returns-in-Ok-clause-note
returns-in-Ok-clause-note g c = λ files told.
    let path = c.as_str.result.now in
    let bytes = c.as_slice.result.now in
    let named : path ≡ in_folder c.args.folder.now c.args.file.now = search rules in
    let answer : Ok bytes ≡ read_answer (file_at files path) = search rules in
    let note : c.in_ok-program_note-in-Ok.field-0 ≡ program_note c.args.number.now c.args.file.now bytes = search rules in
    note ∙ sym (ap (option_and_then (program_note c.args.number.now c.args.file.now)) (ap (file_at files) (sym named) ∙ read_ok (file_at files path) bytes answer))

pub returns-in-Err-TooLarge-clause-note : goal.returns-in-Err-TooLarge-clause-note
returns-in-Err-TooLarge-clause-note c = search rules
