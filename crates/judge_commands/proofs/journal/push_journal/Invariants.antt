use Rattle.std.proofs.Common.{◌≡◌, ◌++◌, take}
use Rattle.judge_commands.specs.Judged.{journal_text}
use Rattle.judge_commands.proofs.journal.push_journal.Given as goal

abbrev pub invariant-loop-call : goal.invariant-loop-call
invariant-loop-call l = l.out.items ≡ l.fn.out.items ++ journal_text (take l.call-index l.calls)
