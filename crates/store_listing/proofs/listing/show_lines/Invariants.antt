use Rattle.std.proofs.Common.{◌≡◌, ◌-◌, ◌<◌, ◌≤◌, ℕ, List, [], ◌∷◌, Option, IsTrue}
use Rattle.record_store.specs.Reading.{IsAhead}
use Rattle.store_listing.specs.Listing.{store_text, Shows, IsListed}
use Rattle.store_listing.proofs.listing.show_lines.Given as goal

abbrev pub invariant-records : goal.invariant-records
invariant-records g l =
    let time = g.Y.Disk.time in
    let held = g.K.Sink.held in
    record {
      within : l.at < l.len;
      path : g.Y.Disk.opened l.disk ≡ g.Y.Disk.opened l.fn.disk;
      tells : g.Y.Disk.tells l.disk ≡ g.Y.Disk.tells l.fn.disk;
      disk_later : g.Y.Disk.faults l.fn.disk ≤ g.Y.Disk.faults l.disk;
      out_later : g.K.Sink.faults l.fn.out ≤ g.K.Sink.faults l.out;
      still : IsTrue (g.Y.Disk.tells l.fn.disk) → time l.disk ≡ time l.fn.disk;
      ahead : IsTrue (g.Y.Disk.tells l.fn.disk) → IsAhead (time l.fn.disk).now.seen l.ahead;
      shown : IsTrue (g.Y.Disk.tells l.fn.disk) → (first : Option (List ℕ)) (config : List ℕ) → IsListed (time l.fn.disk).now.seen l.fn.from (config ∷ [])
          → Shows first (held l.fn.out) l.fn.pending.items (store_text (config ∷ []))
          → (lines : List (List ℕ)) × IsListed (time l.fn.disk).now.seen l.at (config ∷ lines) × Shows first (held l.out) l.pending.items (store_text (config ∷ lines));
    }

abbrev pub decreases-records : goal.decreases-records
decreases-records g l = l.len - l.at
