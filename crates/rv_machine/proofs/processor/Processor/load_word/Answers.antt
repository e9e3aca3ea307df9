use Rattle.rv_memory.specs.Paged as memory
use Rattle.rv_machine.specs.Decoded.{instr_of}
use Rattle.rv_machine.specs.Executing.{address_of}
use Rattle.rv_machine.proofs.Doing.{loads_does}
use Rattle.rv_machine.proofs.processor.Processor.load_word.Goals as goal

pub returns-in-Ok : goal.returns-in-Ok
returns-in-Ok c =
    record { does = loads_does 4 memory.word_at c.args.self.now _ c.load32.new.self (address_of c.args.pc) (instr_of c.args.i) c.address-at.result _ c.give.result c.give.new.self c.self.view_is c.address-at.ensures c.in-Ok.ensures.allowed c.in-Ok.ensures.touched c.in-Ok.ensures.value c.give.ensures.next c.give.ensures.does }
