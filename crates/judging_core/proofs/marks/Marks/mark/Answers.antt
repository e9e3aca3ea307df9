use Rattle.std.proofs.Common.{◌-◌, ◌/◌, ◌∙◌, refl, ap, arith, set, true, List, Bool}
use Rattle.task_tree.specs.Bits.{IsInserted}
use Rattle.task_tree.proofs.Bitwise.{inserted_at}
use Rattle.task_tree.proofs.ShownTests.{shown_inserted}
use Rattle.judging_core.proofs.Bits.{within}
use Rattle.judging_core.proofs.marks.Marks.mark.Goals as goal

pub index-word-requires : goal.index-word-requires
index-word-requires c =
    let at = c.self.inside in
    let w = within at.words.items at.tests c.args.test c.args.self.now c.self.view_is c.self.invariant.room c.requires.low c.requires.high in
    omega (arith, w.1, at.words.ok)

pub index_mut-requires : goal.index_mut-requires
index_mut-requires c =
    let at = c.self.inside in
    let w = within at.words.items at.tests c.args.test c.args.self.now c.self.view_is c.self.invariant.room c.requires.low c.requires.high in
    omega (arith, w.1, at.words.ok)

pub returns : goal.returns
returns c =
    let at = c.self.inside in
    let number = c.args.test - 1 in
    let w = within at.words.items at.tests c.args.test c.args.self.now c.self.view_is c.self.invariant.room c.requires.low c.requires.high in
    let new : IsInserted at.words.items (set at.words.items (number / 64) c.with_bit.result) number =
    inserted_at at.words.items at.words.items number c.index-word.result.now c.with_bit.result refl w.1 c.index-word.ensures c.with_bit.ensures.set c.with_bit.ensures.others in
    shown_inserted at.words.items (set at.words.items (number / 64) c.with_bit.result) at.tests number w.0 new
    ∙ ap (λ (xs : List Bool). set xs number true) c.self.view_is
