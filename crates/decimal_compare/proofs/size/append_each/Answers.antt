use Rattle.std.proofs.Common.{◌+◌, ◌*◌, ◌-◌, ◌^◌, ◌∙◌, ap, sym, arith, get_or}
use Rattle.std.proofs.lemmas.List.Sums.{fold_more}
use Rattle.decimal_compare.specs.Digits.{with_digit}
use Rattle.decimal_compare.proofs.Bounds.{fold_stops}
use Rattle.decimal_compare.proofs.size.append_each.Goals as goal

pub returns-then-number-ge-WIDE : goal.returns-then-number-ge-WIDE
returns-then-number-ge-WIDE c =
    fold_stops c.args.start (10 ^ 25) c.args.digits.now (c.loop-b.b-index + 1) (c.loop-b.number * 10 + (get_or c.args.digits.now c.loop-b.b-index 0 - 48))
    (ap (λ n. with_digit n (get_or c.args.digits.now c.loop-b.b-index 0)) c.loop-b.invariant.number_is
    ∙ sym (fold_more with_digit c.args.start c.args.digits.now c.loop-b.b-index 0 c.loop-b-test.true))
    (omega arith)
