use Rattle.std.proofs.Common.{◌≡◌, ◌++◌, List, string_bytes, sym, ap, ◌∙◌, arith, rules}
use Rattle.contest_notes.specs.declared.notes.ContestNote.{ContestNote}
use Rattle.contest_notes.specs.Notes.{notes_of_package}
use Rattle.contest_notes.proofs.Steps.{text_step}
use Rattle.contest_notes.proofs.finding.notes_of_packages.Goals as goal

pub loop-short-preserved : goal.loop-short-preserved
loop-short-preserved g c =
    let item = c.short-item.result in
    let more = c.in_ok-more.more.items in
    record {
      notes = λ files told.
          let f = notes_of_package files c.args.folder.now in
          let named : c.as_str.result.now ≡ string_bytes item = c.as_str.ensures.value in
          let found : f (string_bytes item) ≡ more = sym (c.in_ok-more.ensures.notes files (c.loop-short.invariant.same ∙ told) ∙ ap f named) in
          let is : c.append.new.notes.items ≡ c.loop-short.notes.items ++ more = search rules in
          is ∙ ap (λ (ns : List ContestNote). ns ++ more) (c.loop-short.invariant.notes files told)
          ∙ sym (text_step f c.args.shorts.now c.loop-short.short-index item more c.loop-short-test.true c.short-item.is found);
      same = c.in_ok-more.ensures.same ∙ c.loop-short.invariant.same;
      later = let a = c.loop-short.invariant.later in let b = c.in_ok-more.ensures.later in omega (arith, a, b);
    }
