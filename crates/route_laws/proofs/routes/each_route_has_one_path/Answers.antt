use Rattle.route_laws.proofs.Patterns.{each_path, no_other_path}
use Rattle.route_laws.proofs.routes.each_route_has_one_path.Goals as goal

pub returns-clause-path : goal.returns-clause-path
returns-clause-path c = each_path

pub returns-clause-no_other : goal.returns-clause-no_other
returns-clause-no_other c = no_other_path
