use Rattle.std.proofs.Common.{rules}
use Rattle.rv_machine.proofs.processor.ProgramCounter.word_at.Goals as goal

pub returns-then-offset-lt4096 : goal.returns-then-offset-lt4096
returns-then-offset-lt4096 c = search rules
