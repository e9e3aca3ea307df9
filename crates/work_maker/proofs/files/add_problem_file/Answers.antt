use Rattle.std.proofs.Common.{◌∷◌, codes, arith, refl}
use Rattle.work_maker.proofs.Appends.{file_put}
use Rattle.work_maker.proofs.Lengths.{with_number}
use Rattle.work_maker.proofs.files.add_problem_file.Goals as goal

pub add_file-requires : goal.add_file-requires
add_file-requires c =
    let h = with_number (codes "contest/problems/p") (47 ∷ c.args.name.now) c.args.problem (omega (arith, c.ranges.problem.fits)) in
    rw c.in_ok-path.ensures.ok (omega (arith, h, c.requires))

pub returns : goal.returns
returns c = file_put _ _ _ _ _ _ c.in_ok-add_file.ensures c.in_ok-path.ensures.ok refl
