use Rattle.std.proofs.Common.{◌≡◌, ◌∙◌, sym, ap, true, Err, rules, arith}
use Rattle.problem_settings.specs.Entries.{entries}
use Rattle.problem_settings.specs.Fields.{is_indented}
use Rattle.problem_settings.specs.Lines.{lines_from, parts_behind}
use Rattle.problem_settings.specs.Sizes.{is_deeper, block_from}
use Rattle.problem_settings.specs.Views.{line_value, lines_with, below}
use Rattle.problem_settings.proofs.EntryLemmas.{block_stop, block_step}
use Rattle.problem_settings.proofs.below.block.Goals as goal

pub returns-in-Err-clause-value : goal.returns-in-Err-clause-value
returns-in-Err-clause-value c =
    let others = lines_from c.loop-left.left.number (parts_behind 10 c.loop-left.left.behind) in
    let under : is_indented c.in-Some.line.text.now ≡ true = search rules in
    ap Err c.bad.ensures
    ∙ sym (block_stop c.args.depth c.loop-left.sizes c.in-Err.why (line_value c.in-Some.line) others under (sym c.in-Err.ensures.value))
    ∙ ap (λ first. block_from c.args.depth c.loop-left.sizes (entries is_deeper (below (lines_with first others)))) (sym c.in-Some.is)
    ∙ c.loop-left.invariant.said

pub loop-left-preserved : goal.loop-left-preserved
loop-left-preserved c = grind (arith, block_step, block_stop)
