use Rattle.std.proofs.Common.{ℕ, ◌≡◌, List, subst, OnOk}
use Rattle.command_text.proofs.Joining.{list_pushed}
use Rattle.command_text.proofs.replies.push_ranks.Goals as goal

pub returns-clause-ok : goal.returns-clause-ok
returns-clause-ok c =
    let IsWritten : List ℕ → Type 0 = λ text. OnOk c.push_comma_ranks.result (c.push_comma_ranks.new.out.items ≡ text) in
    subst IsWritten (list_pushed c.args.out.now.items _ _ c.in-Some.first.now c.args.ranks.now c.in-Some.rest.now c.in_ok-push.ensures.ok c.in_ok-push_decimal.ensures.ok c.in-Some.ensures.cases.0)
    c.push_comma_ranks.ensures.ok
