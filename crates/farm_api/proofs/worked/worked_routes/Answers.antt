use Rattle.std.proofs.Common.{refl}
use Rattle.matchit.proofs.OnLiterals.{matchit_on_literals}
use Rattle.farm_api.specs.Table.{rows}
use Rattle.farm_api.proofs.worked.worked_routes.Goals as goal

pub returns-clause-host : goal.returns-clause-host
unfolding rows matchit_on_literals
returns-clause-host c = refl

pub returns-clause-verify : goal.returns-clause-verify
unfolding rows matchit_on_literals
returns-clause-verify c = refl

pub returns-clause-largest : goal.returns-clause-largest
unfolding rows matchit_on_literals
returns-clause-largest c = refl

pub returns-clause-too_large : goal.returns-clause-too_large
unfolding rows matchit_on_literals
returns-clause-too_large c = refl

pub returns-clause-zero : goal.returns-clause-zero
unfolding rows matchit_on_literals
returns-clause-zero c = refl

pub returns-clause-empty : goal.returns-clause-empty
unfolding rows matchit_on_literals
returns-clause-empty c = refl

pub returns-clause-slash : goal.returns-clause-slash
unfolding rows matchit_on_literals
returns-clause-slash c = refl

pub returns-clause-ask : goal.returns-clause-ask
unfolding rows matchit_on_literals
returns-clause-ask c = refl

pub returns-clause-submission : goal.returns-clause-submission
unfolding rows matchit_on_literals
returns-clause-submission c = refl

pub returns-clause-job : goal.returns-clause-job
unfolding rows matchit_on_literals
returns-clause-job c = refl

pub returns-clause-job_of_zero : goal.returns-clause-job_of_zero
unfolding rows matchit_on_literals
returns-clause-job_of_zero c = refl

pub returns-clause-job_without_test : goal.returns-clause-job_without_test
unfolding rows matchit_on_literals
returns-clause-job_without_test c = refl

pub returns-clause-job_of_a_word : goal.returns-clause-job_of_a_word
unfolding rows matchit_on_literals
returns-clause-job_of_a_word c = refl

pub returns-clause-job_of_a_signed_number : goal.returns-clause-job_of_a_signed_number
unfolding rows matchit_on_literals
returns-clause-job_of_a_signed_number c = refl

pub returns-clause-job_rest : goal.returns-clause-job_rest
unfolding rows matchit_on_literals
returns-clause-job_rest c = refl

pub returns-clause-job_rest_of_a_word : goal.returns-clause-job_rest_of_a_word
unfolding rows matchit_on_literals
returns-clause-job_rest_of_a_word c = refl
