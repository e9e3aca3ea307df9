use Rattle.std.proofs.Common.{rules}
use Rattle.command_text.proofs.tables.push_table_row.Goals as goal

pub returns-clause-ok : goal.returns-clause-ok
returns-clause-ok c = search rules
