use Rattle.std.proofs.Common.{rules}
use Rattle.command_text.proofs.fronts.ends_word.Goals as goal

pub returns-in-len1-up-clause-ends : goal.returns-in-len1-up-clause-ends
returns-in-len1-up-clause-ends c = search rules
