use Rattle.std.proofs.Common.{arith}
use Rattle.command_text.proofs.LineLemmas.{other_first, host_then, jury_last}
use Rattle.command_text.proofs.lines.unnamed_event_of.Goals as goal

pub returns-then-is_some-clause-read : goal.returns-then-is_some-clause-read
returns-then-is_some-clause-read c = grind (arith, other_first, host_then, jury_last)

pub returns-then-is_some-2-clause-read : goal.returns-then-is_some-2-clause-read
returns-then-is_some-2-clause-read c = grind (arith, other_first, host_then, jury_last)
