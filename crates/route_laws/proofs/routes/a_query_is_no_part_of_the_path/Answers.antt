use Rattle.route_laws.proofs.Queries.{path_alone, path_before}
use Rattle.route_laws.proofs.routes.a_query_is_no_part_of_the_path.Goals as goal

pub returns-clause-alone : goal.returns-clause-alone
returns-clause-alone c = path_alone

pub returns-clause-with_query : goal.returns-clause-with_query
returns-clause-with_query c = path_before
