use Rattle.std.proofs.Common.{arith}
use Rattle.command_text.proofs.LineLemmas.{result_line_by}
use Rattle.command_text.proofs.hosts.result_line.Goals as goal

pub returns : goal.returns
returns c = grind (arith, result_line_by)
