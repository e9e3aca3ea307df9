use Rattle.std.proofs.Common.{◌≡◌, ◌++◌, take}
use Rattle.judge_commands.specs.Making.{kind_lines}
use Rattle.judge_commands.proofs.summary.push_kinds.Given as goal

abbrev pub invariant-loop-kind : goal.invariant-loop-kind
invariant-loop-kind l = l.text.items ≡ l.fn.text.items ++ kind_lines l.rows (take l.kind-index l.kinds)
