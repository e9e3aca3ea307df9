use Rattle.std.proofs.Common.{◌≡◌, refl, ap, ◌∙◌, sym, arith}
use Rattle.rv_word.specs.declared.instr.Instr.{Instr}
use Rattle.rv_memory.specs.Paged as memory
use Rattle.rv_machine.specs.Decoded.{is_decoded}
use Rattle.rv_machine.proofs.Kept.{forgotten, differ_bytes, elsewhere, same_place}
use Rattle.rv_machine.proofs.code.forget_piece.Goals as goal

pub returns-in-Some-clause-fresh : goal.returns-in-Some-clause-fresh
returns-in-Some-clause-fresh c =
    λ m bytes w short.
    forgotten m (memory.store_bytes m c.args.at bytes) c.args.code.now _ c.args.at w (differ_bytes m c.args.at bytes (omega arith)) refl refl c.clear.ensures.count c.clear.ensures.whole c.clear.ensures.others
    (λ k l page. let same : c.in-Some.k ≡ k = same_place c.args.code.now.numbers.items c.in-Some.k k w.ascending c.in-Some.ensures.some.0 l (c.in-Some.ensures.some.1 ∙ sym page) in ap (λ (x : Instr). is_decoded x.op) (rw same at c.clear.ensures.there))

pub returns-in-None-clause-fresh : goal.returns-in-None-clause-fresh
returns-in-None-clause-fresh c = λ m bytes w short. elsewhere m c.args.code.now c.args.at bytes w (omega arith) (c.in-None.ensures.none w.ascending)
