use Rattle.definition_laws.proofs.FaultyLines.{first_fault}
use Rattle.definition_laws.proofs.settings.the_first_faulty_line_is_told.Goals as goal

pub returns : goal.returns
returns c = first_fault
