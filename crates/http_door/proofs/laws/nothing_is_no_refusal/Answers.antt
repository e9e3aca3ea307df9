use Rattle.http_door.proofs.Between.{none_refused}
use Rattle.http_door.proofs.laws.nothing_is_no_refusal.Goals as goal

pub returns : goal.returns
returns c = none_refused
