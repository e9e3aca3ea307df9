use Rattle.std.proofs.Common.{◌≡◌, arith, ◌/◌, ◌∙◌, ap, get_or}
use Rattle.std.proofs.lemmas.Grind.{common_steps}
use Rattle.rv_memory.specs.Paged.{State, no_page, place, word_at}
use Rattle.rv_memory.proofs.Bytes.{word_of_page, word_at_touch}
use Rattle.rv_memory.proofs.memory.Memory.load32.Goals as goal

pub returns-clause-value : goal.returns-clause-value
returns-clause-value c =
    let t = c.place.new.self in
    let same : c.index.result.now.bytes ≡ (get_or t.pages (place t.pages (c.args.at / 4096)) no_page).bytes = grind (arith, common_steps) in
    c.read32.ensures ∙ word_of_page t c.index.result.now.bytes c.args.at c.if-at-ne0.false same
    ∙ ap (λ (s : State). word_at s c.args.at) c.in_ok-k.ensures.touched ∙ word_at_touch c.args.self.now (c.args.at / 4096) c.args.at
