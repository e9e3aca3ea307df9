use Rattle.std.proofs.Common.{◌≡◌, ◌++◌, [], List, filter_map, sym, ap, ◌∙◌, arith, rules, append_assoc}
use Rattle.std.specs.List.{cons_option}
use Rattle.problem_settings.specs.Lines.{parts, parts_behind}
use Rattle.contest_notes.specs.declared.notes.ContestNote.{ContestNote}
use Rattle.contest_notes.specs.Notes.{note_of_line, notes_of_lines}
use Rattle.contest_notes.proofs.Steps.{cons_more}
use Rattle.contest_notes.proofs.programs.notes_of_lines.Goals as goal

pub loop-left-preserved : goal.loop-left-preserved
loop-left-preserved g c =
    let es = c.loop-left.notes.items in
    let line = c.cut.result.0.now in
    let rest = parts_behind 10 c.cut.result.1 in
    let note = c.in_ok-note.note in
    record {
      notes = λ files told.
          let f = note_of_line files c.args.folder.now in
          let said : es ++ filter_map f (parts 10 c.in-Some.text.now) ≡ notes_of_lines files c.args.folder.now c.args.text.now =
          rw c.in-Some.is at c.loop-left.invariant.notes files told in
          let found : f line ≡ note = sym (c.in_ok-note.ensures.note files (c.loop-left.invariant.same ∙ told)) in
          let step : filter_map f (parts 10 c.in-Some.text.now) ≡ cons_option note [] ++ filter_map f rest =
          ap (filter_map f) c.cut.ensures.parts ∙ ap (λ o. cons_option o (filter_map f rest)) found ∙ cons_more note (filter_map f rest) in
          let is : c.push_some.new.notes.items ≡ es ++ cons_option note [] = search rules in
          ap (λ (ns : List ContestNote). ns ++ filter_map f rest) is ∙ append_assoc es (cons_option note []) (filter_map f rest)
          ∙ ap (λ (ns : List ContestNote). es ++ ns) (sym step) ∙ said;
      same = c.in_ok-note.ensures.same ∙ c.loop-left.invariant.same;
      later = let a = c.loop-left.invariant.later in let b = c.in_ok-note.ensures.later in omega (arith, a, b);
    }
