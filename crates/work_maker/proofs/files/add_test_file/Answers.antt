use Rattle.std.proofs.Common.{codes, arith}
use Rattle.work_maker.proofs.Lengths.{with_number}
use Rattle.work_maker.proofs.files.add_test_file.Goals as goal

pub add_problem_file-requires : goal.add_problem_file-requires
add_problem_file-requires c =
    let h = with_number (codes "data/secret/0") c.args.ending.now c.args.test (omega (arith, c.ranges.test.fits)) in
    rw c.as_str.ensures.value (rw c.in_ok-name.ensures.ok (omega (arith, h, c.requires)))
