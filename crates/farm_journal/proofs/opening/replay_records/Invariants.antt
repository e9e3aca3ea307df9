use Rattle.std.proofs.Common.{◌≡◌, ◌≤◌, ◌<◌, ◌+◌, ◌-◌, ℕ, List, length, take, IsTrue}
use Rattle.record_store.specs.Held.{IsRecordPrefix}
use Rattle.record_store.specs.Reading.{IsAhead}
use Rattle.stored_events.specs.Replaying.{PlayedTo}
use Rattle.farm_journal.proofs.opening.replay_records.Given as goal

abbrev pub invariant-records : goal.invariant-records
invariant-records g l = record {
  within : l.at < l.len;
  few : l.number + 1 ≤ l.at;
  path : g.Y.Disk.opened l.disk ≡ g.Y.Disk.opened l.fn.disk;
  tells : g.Y.Disk.tells l.disk ≡ g.Y.Disk.tells l.fn.disk;
  later : g.Y.Disk.faults l.fn.disk ≤ g.Y.Disk.faults l.disk;
  still : IsTrue (g.Y.Disk.tells l.fn.disk) → g.Y.Disk.time l.disk ≡ g.Y.Disk.time l.fn.disk;
  ahead : IsTrue (g.Y.Disk.tells l.fn.disk) → IsAhead (g.Y.Disk.time l.fn.disk).now.seen l.ahead;
  played : IsTrue (g.Y.Disk.tells l.fn.disk) → (prefix : List (List ℕ)) → IsRecordPrefix (take l.fn.from (g.Y.Disk.time l.fn.disk).now.seen) prefix
      → PlayedTo (g.Y.Disk.time l.fn.disk).now.seen prefix (g.P.Player.state l.fn.farm) l.at (g.P.Player.state l.farm) l.number;
}

abbrev pub decreases-records : goal.decreases-records
decreases-records g l = l.len - l.at
