use Rattle.std.proofs.Common.{rules, arith, ◌<◌, take, length}
use Rattle.std.proofs.lemmas.Grind.{common_steps}
use Rattle.elf_image.proofs.Sound.{image_sound}
use Rattle.elf_image.proofs.elf.read_elf.Goals as goal

pub returns-clause-sound : goal.returns-clause-sound
returns-clause-sound c =
    let loads = c.in_ok-loads.loads in
    let some : 0 < length (take loads.count loads.segments) = grind (arith, common_steps) in
    image_sound c.args.bytes.now c.in_ok-count.count c.word-entry.result (take loads.count loads.segments)
    c.in_ok-loads.ensures.ok c.in_ok-count.ensures.count.1 c.in_ok-loads.ensures.loads.read some c.if-entry-ne0.false

pub returns-then-loads-eq0-clause-refused : goal.returns-then-loads-eq0-clause-refused
returns-then-loads-eq0-clause-refused c = search rules
