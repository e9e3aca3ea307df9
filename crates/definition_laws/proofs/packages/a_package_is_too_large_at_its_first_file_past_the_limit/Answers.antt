use Rattle.definition_laws.proofs.PackageSizes.{within, first_past}
use Rattle.definition_laws.proofs.packages.a_package_is_too_large_at_its_first_file_past_the_limit.Goals as goal

pub returns-clause-within : goal.returns-clause-within
returns-clause-within c = within

pub returns-clause-first_past : goal.returns-clause-first_past
returns-clause-first_past c = first_past
