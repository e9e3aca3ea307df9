use Rattle.std.proofs.Common.{refl}
use Rattle.std.specs.Fmt.{digits}
use Rattle.contest_folder.proofs.worked.worked_lines.Goals as goal

pub returns-clause-lines : goal.returns-clause-lines
unfolding digits
returns-clause-lines c = refl

pub returns-clause-spaces : goal.returns-clause-spaces
unfolding digits
returns-clause-spaces c = refl

pub returns-clause-numbers : goal.returns-clause-numbers
unfolding digits
returns-clause-numbers c = refl

pub returns-clause-hidden : goal.returns-clause-hidden
unfolding digits
returns-clause-hidden c = refl

pub returns-clause-carriage_return : goal.returns-clause-carriage_return
unfolding digits
returns-clause-carriage_return c = refl

pub returns-clause-none : goal.returns-clause-none
unfolding digits
returns-clause-none c = refl
