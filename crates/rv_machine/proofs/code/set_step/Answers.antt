use Rattle.std.proofs.Common.{List, set, ap, ◌∙◌}
use Rattle.std.proofs.lemmas.List.{map-set}
use Rattle.rv_word.specs.declared.instr.Instr.{Instr}
use Rattle.rv_machine.specs.Decoded.{pages}
use Rattle.rv_machine.proofs.Kept.{read_page}
use Rattle.rv_machine.proofs.code.set_step.Goals as goal

pub returns : goal.returns
returns c =
    let boxes = c.args.steps.now.items in
    map-set (λ b. b.value) boxes c.args.k _
    ∙ ap (λ (xs : List Instr). set (pages boxes) c.args.k (set xs c.args.word c.args.step))
    (c.deref_mut.ensures.value ∙ read_page boxes c.index_mut.result.now c.args.k c.index_mut.ensures.value c.requires.some)
