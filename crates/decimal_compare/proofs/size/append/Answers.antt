use Rattle.std.proofs.Common.{◌≡◌, ◌<◌, ◌+◌, ◌*◌, ◌^◌, ◌∙◌, ap, sym, arith, length, min, refl}
use Rattle.decimal_compare.proofs.Bounds.{append_few, append_fits, zeros_fit}
use Rattle.decimal_compare.proofs.size.append.Goals as goal

pub overflow_mul-start : goal.overflow_mul-start
overflow_mul-start c =
    let fits : c.args.start * c.ten_to.result < 2 ^ 128 = rw c.ten_to.ensures (zeros_fit c.args.start (length c.args.digits.now) c.requires.start (omega arith)) in
    omega arith

pub overflow_add-start : goal.overflow_add-start
overflow_add-start c =
    let fits : c.args.start * c.ten_to.result + c.small_number.result < 2 ^ 128 =
    rw c.ten_to.ensures (append_fits c.args.start c.args.digits.now c.small_number.result c.requires.start (omega arith) c.small_number.ensures c.requires.digits) in
    omega arith

pub returns : goal.returns
returns c =
    let whole : c.args.start * c.ten_to.result + c.small_number.result ≡ c.args.start * 10 ^ length c.args.digits.now + c.small_number.result = rw c.ten_to.ensures refl in
    c.min.ensures
    ∙ ap (λ n. min n (10 ^ 25)) (whole ∙ ap (λ n. c.args.start * 10 ^ length c.args.digits.now + n) c.small_number.ensures ∙ sym (append_few c.args.start c.args.digits.now))
