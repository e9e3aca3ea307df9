use Rattle.std.proofs.Common.{arith}
use Rattle.std.proofs.lemmas.Grind.{common_steps}
use Rattle.contest_server.proofs.accepting.make_room.Goals as goal

pub tell_next-requires-clause-count : goal.tell_next-requires-clause-count
tell_next-requires-clause-count g c = grind (arith, common_steps)

pub returns-clause-room : goal.returns-clause-room
returns-clause-room g c = grind (arith, common_steps)
