use Rattle.std.proofs.Common.{rules}
use Rattle.rv_word.proofs.encoding.base_of.Goals as goal

pub returns-in-Sub : goal.returns-in-Sub
returns-in-Sub c = search rules
