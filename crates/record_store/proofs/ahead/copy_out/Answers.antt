use Rattle.std.proofs.Common.{◌≡◌, ◌+◌, ◌-◌, ℕ, length, take, drop, ◌∙◌, ap, arith, rules}
use Rattle.record_store.proofs.Aheads.{part_ahead}
use Rattle.record_store.proofs.ahead.copy_out.Goals as goal

pub returns : goal.returns
returns c file is =
    let ahead = c.args.ahead.now in
    let bytes = ahead.bytes.items in
    let size = length c.args.room.now in
    let start = c.args.at - ahead.from in
    let from = c.requires.from in
    let room = c.requires.room in
    let part : take size (drop start bytes) ≡ take size (drop (ahead.from + start) file) = part_ahead file bytes ahead.from start size is (omega (arith, from, room)) in
    let at_is : ahead.from + start ≡ c.args.at = omega (arith, from) in
    let copied : c.copy_from_slice.new.self ≡ take size (drop start bytes) = search rules in
    copied ∙ part ∙ ap (λ (k : ℕ). take size (drop k file)) at_is
