use Rattle.std.proofs.Common.{codes, arith}
use Rattle.work_maker.proofs.Lengths.{with_number}
use Rattle.work_maker.proofs.files.add_image.Goals as goal

pub add_file-requires : goal.add_file-requires
add_file-requires c =
    let h = with_number (codes "contest/submissions/") (codes ".rv32") c.args.number (omega (arith, c.ranges.number.fits)) in
    rw c.in_ok-path.ensures.ok (omega (arith, h))
