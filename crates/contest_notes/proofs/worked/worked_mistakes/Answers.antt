use Rattle.std.proofs.Common.{refl}
use Rattle.std.specs.Fmt.{digits}
use Rattle.contest_notes.proofs.worked.worked_mistakes.Goals as goal

pub returns-clause-skips_one : goal.returns-clause-skips_one
unfolding digits
returns-clause-skips_one c = refl

pub returns-clause-with_zero : goal.returns-clause-with_zero
unfolding digits
returns-clause-with_zero c = refl

pub returns-clause-team : goal.returns-clause-team
unfolding digits
returns-clause-team c = refl

pub returns-clause-problem : goal.returns-clause-problem
unfolding digits
returns-clause-problem c = refl

pub returns-clause-file : goal.returns-clause-file
unfolding digits
returns-clause-file c = refl
