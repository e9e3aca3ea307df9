use Rattle.std.proofs.Common.{refl}
use Rattle.matchit.proofs.OnLiterals.{matchit_on_literals}
use Rattle.farm_api.specs.Table.{rows}
use Rattle.farm_api.proofs.worked.worked_targets.Goals as goal

pub returns-clause-query : goal.returns-clause-query
unfolding rows matchit_on_literals
returns-clause-query c = refl

pub returns-clause-method : goal.returns-clause-method
unfolding rows matchit_on_literals
returns-clause-method c = refl

pub returns-clause-lower_case : goal.returns-clause-lower_case
unfolding rows matchit_on_literals
returns-clause-lower_case c = refl

pub returns-clause-no_route : goal.returns-clause-no_route
unfolding rows matchit_on_literals
returns-clause-no_route c = refl

pub returns-clause-job_method : goal.returns-clause-job_method
unfolding rows matchit_on_literals
returns-clause-job_method c = refl

pub returns-clause-public : goal.returns-clause-public
unfolding rows matchit_on_literals
returns-clause-public c = refl

pub returns-clause-public_query : goal.returns-clause-public_query
unfolding rows matchit_on_literals
returns-clause-public_query c = refl

pub returns-clause-public_method : goal.returns-clause-public_method
unfolding rows matchit_on_literals
returns-clause-public_method c = refl

pub returns-clause-page : goal.returns-clause-page
unfolding rows matchit_on_literals
returns-clause-page c = refl

pub returns-clause-page_method : goal.returns-clause-page_method
unfolding rows matchit_on_literals
returns-clause-page_method c = refl

pub returns-clause-contest : goal.returns-clause-contest
unfolding rows matchit_on_literals
returns-clause-contest c = refl

pub returns-clause-contest_method : goal.returns-clause-contest_method
unfolding rows matchit_on_literals
returns-clause-contest_method c = refl

pub returns-clause-job_rest_method : goal.returns-clause-job_rest_method
unfolding rows matchit_on_literals
returns-clause-job_rest_method c = refl
