use Rattle.std.proofs.Common.{◌<◌, ◌∙◌, length, ap, sym, vec_len, arith}
use Rattle.std.proofs.lemmas.List.{get_or_read}
use Rattle.farm_board.specs.Histories.{without}
use Rattle.farm_board.proofs.Numbers.{without_at, without_none}
use Rattle.farm_board.proofs.contents.remove_number.Goals as goal

pub returns-then-index-number-clause-items : goal.returns-then-index-number-clause-items
returns-then-index-number-clause-items c =
    let xs = c.loop-k.numbers.items in
    let same = c.loop-k.invariant.0 in
    let within : c.loop-k.k < length xs = omega (arith, c.loop-k-test.true, c.len-k-end.ensures, ap vec_len same, c.loop-k.numbers.ok.0) in
    let here = get_or_read xs _ _ within c.index.ensures 0 in
    c.remove.ensures.items ∙ (sym (without_at c.args.number xs c.loop-k.k within (sym here ∙ c.if-index-number.true) c.loop-k.invariant.1) ∙ ap (λ v. without c.args.number v.items) same)

pub returns-clause-items : goal.returns-clause-items
returns-clause-items c =
    let xs = c.loop-k.numbers.items in
    let same = c.loop-k.invariant.0 in
    sym (without_none c.args.number xs (λ j less. c.loop-k.invariant.1 j (omega (arith, less, c.loop-k-test.false, c.len-k-end.ensures, ap vec_len same, c.loop-k.numbers.ok.0)))) ∙ ap (λ v. without c.args.number v.items) same
