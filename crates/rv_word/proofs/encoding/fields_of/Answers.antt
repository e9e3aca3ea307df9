use Rattle.std.proofs.Common.{rules}
use Rattle.rv_word.proofs.encoding.fields_of.Goals as goal

pub returns-in-J : goal.returns-in-J
returns-in-J c = search rules
