use Rattle.std.proofs.Common.{ℕ, ◌≡◌, List, subst, OnOk}
use Rattle.command_text.proofs.Joining.{words_pushed}
use Rattle.command_text.proofs.texts.push_joined.Goals as goal

pub returns-clause-ok : goal.returns-clause-ok
returns-clause-ok c =
    let IsWritten : List ℕ → Type 0 = λ text. OnOk c.push_spaced.result (c.push_spaced.new.out.items ≡ text) in
    subst IsWritten (words_pushed c.args.out.now.items _ c.in-Some.first.now c.args.words.now c.in-Some.rest.now c.in_ok-push.ensures.ok c.in-Some.ensures.cases.0)
    c.push_spaced.ensures.ok
