use Rattle.case_run.proofs.Opening.{ends_for_memory}
use Rattle.case_run.proofs.laws.an_executable_is_opened.Goals as goal

pub returns-clause-too_large : goal.returns-clause-too_large
returns-clause-too_large c = ends_for_memory
