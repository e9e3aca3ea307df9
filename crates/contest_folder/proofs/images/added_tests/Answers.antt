use Rattle.std.proofs.Common.{◌≡◌, length, sym, ap, ◌∙◌}
use Rattle.contest_folder.specs.Images.{added}
use Rattle.contest_folder.proofs.Items.{test_item}
use Rattle.contest_folder.proofs.images.added_tests.Goals as goal

pub loop-test-preserved : goal.loop-test-preserved
loop-test-preserved c =
    let test = c.test-item.result in
    let input : c.added-total.result ≡ added c.loop-test.total (length test.input) = rw c.as_slice.ensures at c.added-total.ensures in
    let answer : c.added-total-in-loop-test.result ≡ added c.added-total.result (length test.answer) = rw c.as_slice-in-loop-test.ensures at c.added-total-in-loop-test.ensures in
    answer ∙ ap (λ t. added t (length test.answer)) (input ∙ ap (λ t. added t (length test.input)) c.loop-test.invariant)
    ∙ sym (test_item c.args.total c.args.tests.now c.loop-test.test-index test c.loop-test-test.true c.test-item.is)
