use Rattle.std.proofs.Common.{◌≡◌, ◌/◌, ap}
use Rattle.rv_memory.specs.Paged as memory
use Rattle.rv_memory.proofs.Touching.{is_touched-touch}
use Rattle.rv_machine.specs.Storage.{Storage}
use Rattle.rv_machine.proofs.Kept.{kept_touch}
use Rattle.rv_machine.proofs.running.fetch_page.Goals as goal

pub returns-in_default-clause-code : goal.returns-in_default-clause-code
returns-in_default-clause-code c =
    let m = c.args.processor.now.memory in
    let p = c.args.pc / 4096 in
    let touched : c.place.new.self.memory ≡ memory.touch m p = ap (λ (s : Storage). s.memory) c.in-Ok.ensures.touched in
    c.decoded_page.ensures.code c.place.new.self.memory (rw touched (kept_touch m p c.args.code.now c.requires.code)) (rw touched (is_touched-touch m p)) c.in-Ok.ensures.place

pub decode_word-requires-clause-code : goal.decode_word-requires-clause-code
decode_word-requires-clause-code c =
    let m = c.args.processor.now.memory in
    let p = c.args.pc / 4096 in
    let touched : c.place.new.self.memory ≡ memory.touch m p = ap (λ (s : Storage). s.memory) c.in-Ok.ensures.touched in
    c.decoded_page.ensures.code c.place.new.self.memory (rw touched (kept_touch m p c.args.code.now c.requires.code)) (rw touched (is_touched-touch m p)) c.in-Ok.ensures.place
