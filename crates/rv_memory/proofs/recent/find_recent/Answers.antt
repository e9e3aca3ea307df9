use Rattle.std.proofs.Common.{arith}
use Rattle.rv_memory.proofs.Recents.{placed_at}
use Rattle.rv_memory.proofs.Places.{place_numbered}
use Rattle.rv_memory.proofs.recent.find_recent.Goals as goal

pub returns-in-Some : goal.returns-in-Some
returns-in-Some c = grind (arith, place_numbered, placed_at)
