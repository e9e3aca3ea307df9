-- What holds of every connection to come holds of the one that is let in and of those that are left.
use Rattle.std.proofs.Common.{ℕ, List, All}
use Rattle.std.proofs.lemmas.List.Elements.{All-head, All-tail, All-nil}
use Rattle.farm_io.specs.declared.door.Accepted.{Accepted}
use Rattle.farm_io.specs.declared.door.Accepted.TheVariants as came
use Rattle.farm_io.specs.Doors.{IfConn}
use Rattle.farm_io.specs.MemoryDoors.{TakesFirst}

pub first_meets : {N : Type 0} (P : N → Type 0) (old new : List N) (before now : ℕ) (result : Accepted N)
    → TakesFirst old new before now result → All P old → All P new × IfConn result P
first_meets P old new before now (came.Conn conn) first all =
    let held = rw first.0 at all in (All-tail P conn new held, All-head P conn new held)
first_meets P old new before now came.End first all = (rw first.1 (All-nil P), tt)
first_meets P old new before now came.Failed first all = absurd first
