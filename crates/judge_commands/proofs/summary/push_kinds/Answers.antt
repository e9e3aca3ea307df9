use Rattle.std.proofs.Common.{◌++◌, ◌∙◌, ap, sym, append_assoc, take}
use Rattle.judge_commands.specs.Making.{count_line, kind_lines}
use Rattle.judge_commands.proofs.Summaries.{kinds_more}
use Rattle.judge_commands.proofs.summary.push_kinds.Goals as goal

pub loop-kind-preserved : goal.loop-kind-preserved
loop-kind-preserved c =
    let rows = c.args.rows.now in
    let kinds = c.args.kinds.now in
    let before = c.args.text.now.items in
    let at = c.loop-kind.kind-index in
    c.in_ok-push_count.ensures ∙ ap (λ t. t ++ count_line rows c.name.result.now) c.loop-kind.invariant
    ∙ ap (λ n. before ++ kind_lines rows (take at kinds) ++ count_line rows n) c.name.ensures
    ∙ append_assoc before (kind_lines rows (take at kinds)) _
    ∙ ap (λ t. before ++ t) (sym (kinds_more rows kinds at _ c.loop-kind-test.true))
