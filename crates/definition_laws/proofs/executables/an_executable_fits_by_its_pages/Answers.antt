use Rattle.definition_laws.proofs.SegmentPages.{fits_by_pages, limit_is}
use Rattle.definition_laws.proofs.executables.an_executable_fits_by_its_pages.Goals as goal

pub returns-clause-fits : goal.returns-clause-fits
returns-clause-fits c = fits_by_pages

pub returns-clause-limit : goal.returns-clause-limit
returns-clause-limit c = limit_is
