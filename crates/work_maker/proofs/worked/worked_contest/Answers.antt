use Rattle.std.proofs.Common.{refl}
use Rattle.std.specs.Fmt.{digits}
use Rattle.work_maker.proofs.worked.worked_contest.Goals as goal

pub returns : goal.returns
unfolding digits
returns c = refl
