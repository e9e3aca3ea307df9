use Rattle.std.proofs.Common.{rules}
use Rattle.command_text.proofs.lines.read_line.Goals as goal

pub returns-then-eq-2-clause-read : goal.returns-then-eq-2-clause-read
returns-then-eq-2-clause-read c = search rules
