use Rattle.std.proofs.Common.{◌*◌, ◌/◌}
use Rattle.rv_memory.specs.Paged as memory
use Rattle.rv_machine.specs.Decoded.{DiffersAt, instr_of}
use Rattle.rv_machine.specs.Executing.{address_of}
use Rattle.rv_machine.proofs.Doing.{stores_does}
use Rattle.rv_machine.proofs.Kept.{differ_store16}
use Rattle.rv_machine.proofs.processor.Processor.store16.Goals as goal

pub returns : goal.returns
returns c =
    let m = c.self.inside.memory in
    let d : DiffersAt m c.store16.new.self (c.address-at.result / 4 * 4) = rw c.in-Ok.ensures.stored (differ_store16 m c.address-at.result c.reg-v.result c.in-Ok.ensures.allowed.0) in
    record { does = stores_does 2 memory.store16 c.args.self.now _ c.store16.new.self (address_of c.args.pc) (instr_of c.args.i) c.in-Ok.place c.address-at.result c.reg-v.result c.self.view_is c.address-at.ensures c.reg-v.ensures c.in-Ok.ensures.allowed c.in-Ok.ensures.stored d c.in-Ok.ensures.place }
