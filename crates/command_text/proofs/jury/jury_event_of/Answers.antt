use Rattle.std.proofs.Common.{rules}
use Rattle.command_text.proofs.jury.jury_event_of.Goals as goal

pub returns-then-eq-5-clause-read : goal.returns-then-eq-5-clause-read
returns-then-eq-5-clause-read c = search rules
