use Rattle.std.proofs.Common.{rules}
use Rattle.command_text.proofs.numbers.read_moment.Goals as goal

pub returns : goal.returns
returns c = search rules
