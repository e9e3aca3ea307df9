use Rattle.std.proofs.Common.{◌≡◌, ◌+◌, ◌-◌, ◌/◌, ◌≤◌, ◌∙◌, true, take, drop, length, ap, arith}
use Rattle.std.proofs.lemmas.Grind.{common_steps}
use Rattle.rv_memory.specs.Paged.{State, is_touched, store_bytes}
use Rattle.rv_memory.proofs.Storing.{is_touched_store_bytes, store_bytes-piece}
use Rattle.rv_memory.proofs.memory.Memory.copy_in.Goals as goal

pub put_in_page-requires-clause-touched : goal.put_in_page-requires-clause-touched
put_in_page-requires-clause-touched c =
    let at = c.args.at + c.loop-done.done in
    let before : is_touched c.args.self.now (at / 4096) ≡ true = c.requires.touched c.loop-done.done c.loop-done-test.true in
    rw c.loop-done.invariant.copied (is_touched_store_bytes c.args.self.now c.args.at (at / 4096) (take c.loop-done.done c.args.bytes.now) before)

pub loop-done-preserved : goal.loop-done-preserved
loop-done-preserved c =
    let bs = c.args.bytes.now in
    let i = c.loop-done.done in
    let j = c.min-end.result in
    let within : j ≤ length bs = omega arith in
    let more : i ≤ j = omega arith in
    let piece : c.put_in_page.new.self ≡ store_bytes c.loop-done.self (c.args.at + i) (take (j - i) (drop i bs)) = grind (arith, common_steps) in
    record {
      within = within;
      copied = piece ∙ ap (λ (s : State). store_bytes s (c.args.at + i) (take (j - i) (drop i bs))) c.loop-done.invariant.copied ∙ store_bytes-piece c.args.self.now c.args.at i j bs more within;
    }
