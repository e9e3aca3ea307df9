use Rattle.route_laws.proofs.RoutedRequests.{routed_iff, public_iff, page_iff, contest_iff, no_route_iff}
use Rattle.route_laws.proofs.routes.a_path_and_a_method_are_asked_for.Goals as goal

pub returns-clause-route : goal.returns-clause-route
returns-clause-route c = routed_iff

pub returns-clause-public : goal.returns-clause-public
returns-clause-public c = public_iff

pub returns-clause-page : goal.returns-clause-page
returns-clause-page c = page_iff

pub returns-clause-contest : goal.returns-clause-contest
returns-clause-contest c = contest_iff

pub returns-clause-no_route : goal.returns-clause-no_route
returns-clause-no_route c = no_route_iff
