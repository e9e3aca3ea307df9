use Rattle.std.proofs.Common.{rules}
use Rattle.rv_machine.proofs.processor.Processor.operate.Goals as goal

pub returns-in-Jalr : goal.returns-in-Jalr
returns-in-Jalr c = search rules
