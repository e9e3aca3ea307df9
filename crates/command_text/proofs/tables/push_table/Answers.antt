use Rattle.std.proofs.Common.{◌≡◌, ℕ, List, length, take, rules, subst, arith}
use Rattle.std.proofs.lemmas.Grind.{common_steps}
use Rattle.command_text.proofs.Joining.{front_stays}
use Rattle.command_text.proofs.tables.push_table.Goals as goal

pub returns-in_err-push_table_row-clause-err : goal.returns-in_err-push_table_row-clause-err
returns-in_err-push_table_row-clause-err c =
    let old = c.args.out.now.items in
    let new = c.push_table_row.new.out.items in
    let here : take (length c.loop-row.out.items) new ≡ c.loop-row.out.items = c.in_err-push_table_row.ensures.err in
    let stays : take (length old) new ≡ old = front_stays old _ new (subst (λ (xs : List ℕ). take (length xs) new ≡ xs) c.loop-row.invariant here) in
    search rules

pub loop-row-preserved : goal.loop-row-preserved
loop-row-preserved c = grind (arith, common_steps)

pub returns-clause-ok : goal.returns-clause-ok
returns-clause-ok c = grind (arith, common_steps)
