use Rattle.std.proofs.Common.{ℕ, List, refl, ap, ◌∙◌}
use Rattle.std.specs.List.{insert}
use Rattle.rv_word.specs.declared.instr.Instr.{Instr}
use Rattle.rv_machine.specs.Decoded.{pages}
use Rattle.rv_machine.proofs.Kept.{same_code, added, map_insert}
use Rattle.rv_machine.proofs.code.add.Goals as goal

pub returns-in_err-reserve-clause-code : goal.returns-in_err-reserve-clause-code
returns-in_err-reserve-clause-code c = λ m w t e b. same_code m c.args.code.now _ w c.reserve.ensures.items refl refl

pub returns-in_err-insert-clause-code : goal.returns-in_err-insert-clause-code
returns-in_err-insert-clause-code c = λ m w t e b. same_code m c.args.code.now _ w c.reserve.ensures.items c.in_err-insert.ensures.items refl

pub returns-clause-code : goal.returns-clause-code
returns-clause-code c =
    λ m w t e b.
    let code = c.args.code.now in
    let here = c.args.here in
    added m code _ here c.args.place c.args.number w t e c.requires.within b
    (c.in_ok-insert-2.ensures.items ∙ ap (λ (xs : List ℕ). insert xs here c.args.number) c.reserve.ensures.items)
    (ap (λ bs. pages bs) c.in_ok-insert.ensures.items ∙ map_insert (λ b. b.value) code.steps.items here c.in_ok-steps.steps
    ∙ ap (λ (x : List Instr). insert (pages code.steps.items) here x) (c.in_ok-steps.ensures.ok ∙ c.blank.ensures))
    c.max-code.ensures
