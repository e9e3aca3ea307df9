use Rattle.std.proofs.Common.{ℕ, ap, ◌∙◌}
use Rattle.std.specs.Int.{cast_signed, w16}
use Rattle.rv_word.specs.Effect.{bits}
use Rattle.rv_machine.specs.Decoded.{instr_of}
use Rattle.rv_machine.specs.Operations as operations
use Rattle.rv_machine.specs.Executing.{address_of}
use Rattle.rv_machine.proofs.Doing.{loads_does}
use Rattle.rv_machine.proofs.processor.Processor.load_half.Goals as goal

pub returns-in-Ok : goal.returns-in-Ok
returns-in-Ok c =
    record { does = loads_does 2 operations.signed_half c.args.self.now _ c.load16.new.self (address_of c.args.pc) (instr_of c.args.i) c.address-at.result _ c.give.result c.give.new.self c.self.view_is c.address-at.ensures c.in-Ok.ensures.allowed c.in-Ok.ensures.touched (c.signed_half.ensures ∙ ap (λ (x : ℕ). bits (cast_signed w16 x)) c.in-Ok.ensures.value) c.give.ensures.next c.give.ensures.does }
