use Rattle.std.proofs.Common.{arith}
use Rattle.std.proofs.lemmas.Grind.{common_steps}
use Rattle.contest_server.proofs.returning.tell_all.Goals as goal

pub tell_next-requires-clause-some : goal.tell_next-requires-clause-some
tell_next-requires-clause-some g c = grind (arith, common_steps)

pub tell_next-requires-clause-count : goal.tell_next-requires-clause-count
tell_next-requires-clause-count g c = grind (arith, common_steps)

pub returns-clause-tells : goal.returns-clause-tells
returns-clause-tells g c = grind (arith, common_steps)
