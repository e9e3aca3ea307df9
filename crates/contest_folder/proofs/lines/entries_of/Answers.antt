use Rattle.std.proofs.Common.{◌≡◌, ◌≤◌, ◌||◌, ◌+◌, ◌∷◌, ◌++◌, [], List, Some, Ok, true, false, All, IsUtf8, sym, ap, subst, ◌∙◌, arith, rules}
use Rattle.std.proofs.lemmas.List.Elements.{All-push}
use Rattle.problem_settings.specs.Lines.{parts, parts_behind, size_behind}
use Rattle.contest_folder.specs.declared.lines.Entry.{Entry}
use Rattle.contest_folder.specs.Telling.{and_then, with_first}
use Rattle.contest_folder.specs.SubmissionLines.{is_blank, is_comment, entry_of, entry_or_fault, entries_from, entries_of}
use Rattle.contest_folder.proofs.Steps.{behind, behind_more}
use Rattle.contest_folder.proofs.SubmissionParts.{skipped_line, read_line}
use Rattle.contest_folder.proofs.lines.entries_of.Goals as goal
use Rattle.contest_folder.proofs.lines.entries_of.Goals.{then-not-is_skipped+in_ok-entry+in_ok-map_err, else-not-is_skipped}

pub loop-left-preserved : goal.loop-left-preserved
loop-left-preserved c =
    let es = c.loop-left.entries.items in
    let line = c.loop-left.line in
    let number = c.loop-left.number in
    let first = c.cut.result.0.now in
    let rest = parts_behind 10 c.cut.result.1 in
    let said : behind es (entries_from line number (parts 10 c.in-Some.text.now)) ≡ entries_of c.args.text.now = rw c.in-Some.is at c.loop-left.invariant.said in
    let short : line + (size_behind (Some c.in-Some.text)) ≤ 16777218 = rw c.in-Some.is at c.loop-left.invariant.short in
    elim c.if-not-is_skipped.branch [
      | then-not-is_skipped+in_ok-entry+in_ok-map_err w ↦
          let entry = w.in_ok-entry.entry in
          let kept : (is_blank first || is_comment first) ≡ false = search rules in
          let pushed : c.if-not-is_skipped.entries.items ≡ es ++ entry ∷ [] = search rules in
          let got : Ok entry ≡ entry_or_fault line (entry_of line number first) = w.in_ok-entry.ensures.entry (λ stop. stop) in
          let step = read_line line number c.in-Some.text.now first rest c.cut.ensures.parts kept ∙ ap (and_then (λ (e : Entry). with_first e (entries_from (line + 1) (number + 1) rest))) (sym got) in
          record {
            said = rw (pushed, w.number-is) (sym (behind_more es entry (entries_from (line + 1) (number + 1) rest)) ∙ ap (behind es) (sym step) ∙ said);
            files = subst (λ (xs : List Entry). All (λ (e : Entry). IsUtf8 e.file) xs) (sym pushed)
                (All-push (λ (e : Entry). IsUtf8 e.file) es entry c.loop-left.invariant.files w.in_ok-entry.ensures.file);
            short = omega (arith, short, c.cut.ensures.shorter);
            fewer = omega (arith, c.loop-left.invariant.fewer, w.number-is);
          }
      | else-not-is_skipped w ↦
          let skipped : (is_blank first || is_comment first) ≡ true = search rules in
          let step = skipped_line line number c.in-Some.text.now first rest c.cut.ensures.parts skipped in
          record {
            said = rw (w.entries-is, w.number-is) (ap (behind es) (sym step) ∙ said);
            files = rw w.entries-is c.loop-left.invariant.files;
            short = omega (arith, short, c.cut.ensures.shorter);
            fewer = omega (arith, c.loop-left.invariant.fewer, w.number-is);
          }
    ]
