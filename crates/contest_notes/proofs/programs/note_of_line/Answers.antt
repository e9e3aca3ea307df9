use Rattle.std.proofs.Common.{◌≡◌, IfOk, false, Some, sym, subst, rules}
use Rattle.std.specs.Prelude.{Option}
use Rattle.problem_settings.specs.Lines.{parts}
use Rattle.contest_folder.specs.SubmissionLines.{is_comment}
use Rattle.contest_notes.specs.declared.notes.ContestNote.{ContestNote}
use Rattle.contest_notes.specs.Notes.{said_by}
use Rattle.contest_notes.proofs.Steps.{line_note}
use Rattle.contest_notes.proofs.programs.note_of_line.Goals as goal

pub returns-in-Some-clause-note : goal.returns-in-Some-clause-note
returns-in-Some-clause-note g c = λ files told.
    let number = c.in-Some.number.now in
    let file = c.in-Some.file.now in
    let plain : is_comment c.args.line.now ≡ false = search rules in
    let said : Some (number, file) ≡ said_by (parts 32 c.args.line.now) = c.in-Some.ensures.said in
    let is = line_note files c.args.folder.now c.args.line.now number file plain said in
    subst (λ (n : Option ContestNote). IfOk c.note_of_file.result (λ note. note ≡ n)) (sym is) (c.note_of_file.ensures.note files told)
