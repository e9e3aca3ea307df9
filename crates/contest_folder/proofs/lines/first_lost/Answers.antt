use Rattle.std.proofs.Common.{◌≡◌, true, false, option_map, sym, ap, ◌∙◌, rules}
use Rattle.contest_folder.specs.declared.lines.Entry.{Entry}
use Rattle.contest_folder.specs.SubmissionLines.{lacks_problem}
use Rattle.contest_folder.proofs.Items.{find_item}
use Rattle.contest_folder.proofs.SubmissionParts.{none_behind}
use Rattle.contest_folder.proofs.lines.first_lost.Goals as goal

pub returns-then-is_none : goal.returns-then-is_none
returns-then-is_none c =
    let problems = c.args.problems.now in
    let item = c.entry-item.result in
    let lacks : lacks_problem problems item ≡ true = none_behind c.problem_named.result _ true (rw c.as_bytes.ensures.bytes at c.problem_named.ensures.problem) (search rules) in
    ap (option_map (λ (e : Entry). e.line)) (sym (find_item (lacks_problem problems) c.args.entries.now c.loop-entry.entry-index item true c.loop-entry-test.true c.entry-item.is lacks) ∙ c.loop-entry.invariant)

pub loop-entry-preserved : goal.loop-entry-preserved
loop-entry-preserved c =
    let problems = c.args.problems.now in
    let item = c.entry-item.result in
    let lacks : lacks_problem problems item ≡ false = none_behind c.problem_named.result _ false (rw c.as_bytes.ensures.bytes at c.problem_named.ensures.problem) (search rules) in
    sym (find_item (lacks_problem problems) c.args.entries.now c.loop-entry.entry-index item false c.loop-entry-test.true c.entry-item.is lacks) ∙ c.loop-entry.invariant
