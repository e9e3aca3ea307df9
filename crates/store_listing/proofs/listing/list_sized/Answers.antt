use Rattle.std.proofs.Common.{◌+◌, ℕ, List, [], ◌∷◌, Bool, IsTrue, sym, subst, length, take}
use Rattle.record_store.specs.Model.{DiskTime}
use Rattle.record_store.specs.Held.{IsRecordPrefix, IsNext}
use Rattle.stored_events.proofs.Openings.{first_prefix}
use Rattle.store_listing.proofs.listing.list_sized.Goals as goal

pub list_from-requires-clause-first : goal.list_from-requires-clause-first
list_from-requires-clause-first g c told1 =
    let t = g.Y.Disk.time c.args.disk.now in
    let told : IsTrue (g.Y.Disk.tells c.args.disk.now) = subst (λ (b : Bool). IsTrue b) c.read_record.ensures.tells told1 in
    let line = c.read_record.new.line.items in
    let next : IsNext t.now.seen 0 line = rw c.if-found.true at (c.in-Ok.ensures.next told) in
    subst (λ (l : List ℕ). IsRecordPrefix (take (3 + length l) (g.Y.Disk.time c.read_record.new.disk).now.seen) (l ∷ [])) (sym c.as_slice.ensures.value)
    (subst (λ (s : DiskTime). IsRecordPrefix (take (3 + length line) s.now.seen) (line ∷ [])) (sym (c.read_record.ensures.still told)) (first_prefix t.now.seen line next))
