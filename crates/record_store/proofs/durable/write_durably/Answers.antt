use Rattle.std.proofs.Common.{◌≡◌, List, ℕ, Bool, IsTrue, sym, ◌∙◌, subst, length}
use Rattle.record_store.specs.Model.{IsQuiet, overlaid}
use Rattle.record_store.specs.Held.{Torn}
use Rattle.record_store.proofs.Moments.{started, goes_on}
use Rattle.record_store.proofs.Images.{quiet_leaves, write_leaves, sync_leaves, sync_quiet, torn_same, on_ok_both}
use Rattle.record_store.proofs.durable.write_durably.Goals as goal

pub returns-in_err-write_at-clause-moments : goal.returns-in_err-write_at-clause-moments
returns-in_err-write_at-clause-moments g c told =
    let t = g.Y.Disk.time c.args.disk.now in
    let t1 = g.Y.Disk.time c.write_at.new.self in
    let P : List ℕ → Type 0 = Torn c.args.at (length c.args.bytes.now) t.now.seen in
    let call = c.write_at.ensures.time told in
    goes_on P _ t t t1 (started P t (quiet_leaves P t.now (c.requires.quiet told) (torn_same c.args.at (length c.args.bytes.now) t.now.seen))) call
    (write_leaves c.args.at c.args.bytes.now c.write_at.result t.now t1.now (c.requires.quiet told) (c.requires.inside told) call.stepped)

pub returns-clause-moments : goal.returns-clause-moments
returns-clause-moments g c told =
    let t = g.Y.Disk.time c.args.disk.now in
    let t1 = g.Y.Disk.time c.write_at.new.self in
    let t2 = g.Y.Disk.time c.sync.new.self in
    let P : List ℕ → Type 0 = Torn c.args.at (length c.args.bytes.now) t.now.seen in
    let call = c.write_at.ensures.time told in
    let here = write_leaves c.args.at c.args.bytes.now c.write_at.result t.now t1.now (c.requires.quiet told) (c.requires.inside told) call.stepped in
    let mid = goes_on P _ t t t1 (started P t (quiet_leaves P t.now (c.requires.quiet told) (torn_same c.args.at (length c.args.bytes.now) t.now.seen))) call here in
    let told' : IsTrue (g.Y.Disk.tells c.write_at.new.self) = subst (λ (b : Bool). IsTrue b) (sym c.write_at.ensures.tells) told in
    let last = c.sync.ensures.time told' in
    goes_on P _ t t1 t2 mid last (sync_leaves P c.sync.result t1.now t2.now here (c.write_at.ensures.image told') last.stepped)

pub returns-clause-done : goal.returns-clause-done
returns-clause-done g c told =
    let t = g.Y.Disk.time c.args.disk.now in
    let t1 = g.Y.Disk.time c.write_at.new.self in
    let t2 = g.Y.Disk.time c.sync.new.self in
    let told' : IsTrue (g.Y.Disk.tells c.write_at.new.self) = subst (λ (b : Bool). IsTrue b) (sym c.write_at.ensures.tells) told in
    let last = c.sync.ensures.time told' in
    on_ok_both (IsQuiet t2.now) (t2.now.seen ≡ overlaid t.now.seen c.args.at c.args.bytes.now) c.sync.result
    (sync_quiet c.sync.result t1.now t2.now last.stepped)
    (last.stepped.seen ∙ (c.in_ok-write_at.ensures.time told).stepped.done)
