use Rattle.std.proofs.Common.{rules, arith}
use Rattle.std.proofs.lemmas.Grind.{common_steps}
use Rattle.rv_memory.specs.Paged as memory
use Rattle.rv_machine.proofs.Outputs.{output_fits}
use Rattle.rv_machine.proofs.machine.Machine.write_output.Goals as goal

pub invariant_of-self-in-Ok-touch : goal.invariant_of-self-in-Ok-touch
invariant_of-self-in-Ok-touch c = (
  c.self.invariant.0,
  output_fits (memory.touch_range c.self.inside.processor.memory c.args.at c.args.n) c.args.at c.args.n c.self.inside.limits.output c.self.inside.output.items c.copy_out.new.out.items c.in-Ok.ensures.ok (omega arith),
  c.touch.ensures.code c.self.inside.code c.self.invariant.2,
)

pub returns-then-len-n-clause-gives : goal.returns-then-len-n-clause-gives
returns-then-len-n-clause-gives c = search rules

pub returns-in-Err-touch-clause-unchanged : goal.returns-in-Err-touch-clause-unchanged
returns-in-Err-touch-clause-unchanged c = grind (arith, common_steps)
