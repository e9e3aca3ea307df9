use Rattle.definition_laws.proofs.QuotedBack.{single_back, double_back}
use Rattle.definition_laws.proofs.settings.a_quoted_text_is_read_back.Goals as goal

pub returns-clause-single : goal.returns-clause-single
returns-clause-single c = single_back

pub returns-clause-double : goal.returns-clause-double
returns-clause-double c = double_back
