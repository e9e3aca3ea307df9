use Rattle.std.proofs.Common.{sym}
use Rattle.rv_machine.proofs.Small.{small_instruction}
use Rattle.rv_machine.proofs.running.decode_word.Goals as goal

pub step_of-requires-clause-rd : goal.step_of-requires-clause-rd
step_of-requires-clause-rd c = (small_instruction c.in-Ok.word c.in-Some.i (sym c.in-Some.ensures)).rd

pub step_of-requires-clause-rs1 : goal.step_of-requires-clause-rs1
step_of-requires-clause-rs1 c = (small_instruction c.in-Ok.word c.in-Some.i (sym c.in-Some.ensures)).rs1

pub step_of-requires-clause-rs2 : goal.step_of-requires-clause-rs2
step_of-requires-clause-rs2 c = (small_instruction c.in-Ok.word c.in-Some.i (sym c.in-Some.ensures)).rs2
