use Rattle.std.proofs.Common.{◌≡◌, sym, ap, ◌∙◌}
use Rattle.contest_folder.specs.Images.{added_all, test_sizes}
use Rattle.contest_folder.proofs.Items.{problem_item}
use Rattle.contest_folder.proofs.images.total_of.Goals as goal

pub loop-problem-preserved : goal.loop-problem-preserved
loop-problem-preserved c =
    let problem = c.problem-item.result in
    let tests : c.added_tests-total.result ≡ added_all c.loop-problem.total (test_sizes problem.contents.tests) = rw c.as_slice.ensures at c.added_tests-total.ensures in
    tests ∙ ap (λ t. added_all t (test_sizes problem.contents.tests)) c.loop-problem.invariant
    ∙ sym (problem_item 0 c.args.problems.now c.loop-problem.problem-index problem c.loop-problem-test.true c.problem-item.is)
