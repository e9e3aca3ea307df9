use Rattle.std.proofs.Common.{◌-◌, ◌∙◌, sym, ap, arith, slice_get, List, Bool}
use Rattle.judging_core.proofs.Bits.{mark_read, within}
use Rattle.judging_core.proofs.marks.Marks.has.Goals as goal

pub index-word-requires : goal.index-word-requires
index-word-requires c =
    let at = c.self.inside in
    let w = within at.words.items at.tests c.args.test c.args.self.now c.self.view_is c.self.invariant.room c.requires.low c.requires.high in
    omega (arith, w.1, at.words.ok)

pub returns : goal.returns
returns c =
    let at = c.self.inside in
    let w = within at.words.items at.tests c.args.test c.args.self.now c.self.view_is c.self.invariant.room c.requires.low c.requires.high in
    ap (λ (xs : List Bool). slice_get xs (c.args.test - 1)) (sym c.self.view_is) ∙ mark_read at.words.items at.tests (c.args.test - 1) c.index-word.result.now w.0 w.1 c.index-word.ensures
