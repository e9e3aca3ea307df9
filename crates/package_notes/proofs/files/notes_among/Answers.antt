use Rattle.std.proofs.Common.{◌≡◌, ◌++◌, [], string_bytes, sym, ap, ◌∙◌, List, rules, arith}
use Rattle.std.proofs.lemmas.Grind.{common_steps}
use Rattle.std.specs.List.{cons_option}
use Rattle.package_notes.specs.declared.notes.Note.{Note}
use Rattle.package_notes.specs.Files.{file_note}
use Rattle.package_notes.proofs.Paths.{note_step}
use Rattle.package_notes.proofs.files.notes_among.Goals as goal

pub loop-path-preserved : goal.loop-path-preserved
loop-path-preserved c =
    let item = c.path-item.result in
    let note = c.in_ok-note.note in
    let f = file_note c.args.folder.now c.args.all.now in
    let named : c.as_str.result.now ≡ string_bytes item = c.as_str.ensures.value in
    let found : f (string_bytes item) ≡ note = sym (c.in_ok-note.ensures ∙ ap f named) in
    let is : c.push_some.new.notes.items ≡ c.loop-path.notes.items ++ cons_option note [] = search rules in
    is ∙ ap (λ (ns : List Note). ns ++ cons_option note []) c.loop-path.invariant
    ∙ sym (note_step f c.args.paths.now c.loop-path.path-index item note c.loop-path-test.true c.path-item.is found)

pub returns : goal.returns
returns c = grind (arith, common_steps)
