use Rattle.std.proofs.Common.{rules}
use Rattle.command_text.proofs.texts.push_words.Goals as goal

pub returns-then-is_err-clause-err : goal.returns-then-is_err-clause-err
returns-then-is_err-clause-err c = search rules
