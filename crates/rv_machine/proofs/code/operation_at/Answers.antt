use Rattle.std.proofs.Common.{◌≡◌, ◌/◌, ◌%◌, List, get_or, length, ap, ◌∙◌, arith}
use Rattle.std.proofs.lemmas.List.{get_or_default}
use Rattle.rv_word.specs.declared.instr.Instr.{Instr}
use Rattle.rv_machine.specs.Decoded.{undecoded}
use Rattle.rv_machine.proofs.code.operation_at.Goals as goal

pub returns : goal.returns
returns c =
    let page = c.steps_at.result.now in
    let whole : length page ≡ 1024 = rw c.steps_at.ensures c.requires.whole in
    ap (λ (s : Instr). s.op) (get_or_default page (c.args.pc / 4 % 1024) _ undecoded (rw whole (omega arith)) ∙ ap (λ (xs : List Instr). get_or xs (c.args.pc / 4 % 1024) undecoded) c.steps_at.ensures)
