use Rattle.std.proofs.Common.{ℕ, ◌≡◌, ◌+◌, ◌-◌, ◌≤◌, List, take, drop, min, length, arith, subst, ap, ◌∙◌}
use Rattle.std.proofs.lemmas.Grind.{common_steps}
use Rattle.std.proofs.Math.Seq.{take-length}
use Rattle.rv_memory.specs.Paged as memory
use Rattle.rv_memory.proofs.Storing.{store_bytes-piece}
use Rattle.rv_machine.specs.Decoded.{IsCode}
use Rattle.rv_machine.proofs.code.forget_all.Goals as goal

pub returns-clause-fresh : goal.returns-clause-fresh
returns-clause-fresh c =
    λ m w.
    let at = c.args.at in
    let bs = c.args.bytes.now in
    let end : c.loop-done.done ≡ length bs = omega arith in
    let whole : take c.loop-done.done bs ≡ bs = ap (λ (n : ℕ). take n bs) end ∙ take-length bs in
    subst (λ (xs : List ℕ). IsCode (memory.store_bytes m at xs) c.loop-done.code) whole (c.loop-done.invariant.fresh m w)

pub loop-done-preserved : goal.loop-done-preserved
loop-done-preserved c =
    let at = c.args.at in
    let bs = c.args.bytes.now in
    let i = c.loop-done.done in
    let j = c.min-done.result in
    let end : j ≡ min (length bs) (i + c.forget_piece-piece.result) = c.min-done.ensures in
    record {
      within = omega arith;
      numbers = c.forget_piece-piece.ensures.numbers ∙ c.loop-done.invariant.numbers;
      fresh = λ m w.
          let before : memory.State = memory.store_bytes m at (take i bs) in
          let piece : List ℕ = take (j - i) (drop i bs) in
          let same : memory.store_bytes before (at + i) piece ≡ memory.store_bytes m at (take j bs) = store_bytes-piece m at i j bs (omega arith) (omega arith) in
          let short : length piece ≤ c.forget_piece-piece.result = grind (arith, common_steps) in
          subst (λ (n : memory.State). IsCode n c.forget_piece-piece.new.code) same (c.forget_piece-piece.ensures.fresh before piece (c.loop-done.invariant.fresh m w) short);
    }
