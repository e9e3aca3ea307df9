use Rattle.std.proofs.Common.{rules, arith}
use Rattle.rv_machine.proofs.machine.Machine.blank.Goals as goal

pub invariant_of-result : goal.invariant_of-result
invariant_of-result c = (omega (arith, c.requires), rw c.new-4.ensures.items (omega arith), c.new-3.ensures.code c.new-2.result.memory)

pub returns : goal.returns
returns c = search rules
