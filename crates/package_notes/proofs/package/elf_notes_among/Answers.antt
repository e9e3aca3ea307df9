use Rattle.std.proofs.Common.{◌≡◌, ◌++◌, [], List, string_bytes, sym, ap, ◌∙◌, arith, rules}
use Rattle.std.proofs.lemmas.Grind.{common_steps}
use Rattle.std.specs.List.{cons_option}
use Rattle.package_notes.specs.declared.notes.Note.{Note}
use Rattle.package_notes.specs.Package.{elf_note}
use Rattle.package_notes.proofs.Paths.{note_step}
use Rattle.package_notes.proofs.package.elf_notes_among.Goals as goal

pub loop-file-preserved : goal.loop-file-preserved
loop-file-preserved g c =
    let item = c.file-item.result in
    let path = c.args.path.now in
    let note = c.in_ok-note.note in
    record {
      notes = λ held told.
          let f = elf_note held path in
          let named : c.as_str.result.now ≡ string_bytes item = c.as_str.ensures.value in
          let found : f (string_bytes item) ≡ note = sym (c.in_ok-note.ensures.note held (c.loop-file.invariant.same ∙ told) ∙ ap f named) in
          let is : c.push_some.new.notes.items ≡ c.loop-file.notes.items ++ cons_option note [] = search rules in
          is ∙ ap (λ (ns : List Note). ns ++ cons_option note []) (c.loop-file.invariant.notes held told)
          ∙ sym (note_step f c.args.files.now c.loop-file.file-index item note c.loop-file-test.true c.file-item.is found);
      same = c.in_ok-note.ensures.same ∙ c.loop-file.invariant.same;
      later = let a = c.loop-file.invariant.later in let b = c.in_ok-note.ensures.later in omega (arith, a, b);
    }

pub returns-clause-notes : goal.returns-clause-notes
returns-clause-notes g c = grind (arith, common_steps)
