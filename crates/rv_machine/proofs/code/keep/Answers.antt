use Rattle.std.proofs.Common.{◌/◌, ◌%◌, ◌<◌, [], List, get_or, length, refl, ap, ◌∙◌, arith}
use Rattle.std.proofs.lemmas.List.{length-map}
use Rattle.rv_word.specs.declared.instr.Instr.{Instr}
use Rattle.rv_machine.specs.Decoded.{pages, undecoded}
use Rattle.rv_machine.proofs.Kept.{stepped, kept_step}
use Rattle.rv_machine.proofs.code.keep.Goals as goal

pub returns-clause-fresh : goal.returns-clause-fresh
returns-clause-fresh c = λ m w page fresh. stepped m c.args.code.now _ c.args.here c.args.pc c.args.step w page c.requires.aligned fresh refl refl c.set_step.ensures

pub returns-clause-kept : goal.returns-clause-kept
returns-clause-kept c =
    λ whole.
    let steps = c.args.code.now.steps.items in
    let some : c.args.here < length (pages steps) = rw (length-map steps (λ b. b.value)) c.requires.here in
    ap (λ (xs : List (List Instr)). get_or (get_or xs c.args.here []) (c.args.pc / 4 % 1024) undecoded) c.set_step.ensures
    ∙ kept_step (pages steps) c.args.here (c.args.pc / 4 % 1024) c.args.step some whole (omega arith)
