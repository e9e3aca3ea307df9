use Rattle.std.proofs.Common.{refl}
use Rattle.std.specs.Fmt.{digits}
use Rattle.farm_model.proofs.worked.event_lines.Goals as goal

pub returns-clause-named : goal.returns-clause-named
unfolding digits
returns-clause-named c = refl

pub returns-clause-unnamed : goal.returns-clause-unnamed
unfolding digits
returns-clause-unnamed c = refl

pub returns-clause-class : goal.returns-clause-class
unfolding digits
returns-clause-class c = refl

pub returns-clause-normal : goal.returns-clause-normal
unfolding digits
returns-clause-normal c = refl

pub returns-clause-result : goal.returns-clause-result
unfolding digits
returns-clause-result c = refl

pub returns-clause-moment : goal.returns-clause-moment
unfolding digits
returns-clause-moment c = refl

pub returns-clause-list : goal.returns-clause-list
unfolding digits
returns-clause-list c = refl
