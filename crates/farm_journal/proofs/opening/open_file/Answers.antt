use Rattle.std.proofs.Common.{◌≡◌, ℕ, List, Bool, IsTrue, sym, ◌∙◌, ap, subst}
use Rattle.record_store.specs.Model.{DiskTime, AtEachMoment}
use Rattle.record_store.specs.Held.{held}
use Rattle.stored_events.specs.Opening.{HoldsOrBegins}
use Rattle.stored_events.proofs.Openings.{synced_moments, opened_moments}
use Rattle.farm_journal.proofs.opening.open_file.Goals as goal

pub returns-in_err-sync-clause-moments : goal.returns-in_err-sync-clause-moments
returns-in_err-sync-clause-moments g c told quiet =
    synced_moments c.args.digest.now (g.Y.Disk.time c.args.disk.now) (g.Y.Disk.time c.sync.new.self) c.sync.result quiet (c.sync.ensures.time told)

pub returns-in_err-len-clause-moments : goal.returns-in_err-len-clause-moments
returns-in_err-len-clause-moments g c told quiet =
    let t = g.Y.Disk.time c.args.disk.now in
    let told1 : IsTrue (g.Y.Disk.tells c.sync.new.self) = subst (λ (b : Bool). IsTrue b) (sym c.sync.ensures.tells) told in
    subst (λ (s : DiskTime). AtEachMoment (HoldsOrBegins c.args.digest.now (held t.now.seen)) t s) (sym (c.len.ensures.still told1))
    (synced_moments c.args.digest.now t (g.Y.Disk.time c.sync.new.self) c.sync.result quiet (c.sync.ensures.time told))

pub returns-clause-moments : goal.returns-clause-moments
returns-clause-moments g c told quiet =
    let t = g.Y.Disk.time c.args.disk.now in
    let t1 = g.Y.Disk.time c.len.new.self in
    let told1 : IsTrue (g.Y.Disk.tells c.sync.new.self) = subst (λ (b : Bool). IsTrue b) (sym c.sync.ensures.tells) told in
    let told2 : IsTrue (g.Y.Disk.tells c.len.new.self) = subst (λ (b : Bool). IsTrue b) (sym c.len.ensures.tells) told1 in
    let still = c.len.ensures.still told1 in
    let first : AtEachMoment (HoldsOrBegins c.args.digest.now (held t.now.seen)) t t1 =
    subst (λ (s : DiskTime). AtEachMoment (HoldsOrBegins c.args.digest.now (held t.now.seen)) t s) (sym still)
    (synced_moments c.args.digest.now t (g.Y.Disk.time c.sync.new.self) c.sync.result quiet (c.sync.ensures.time told)) in
    let seen : t1.now.seen ≡ t.now.seen = ap (λ (s : DiskTime). s.now.seen) still ∙ (c.sync.ensures.time told).stepped.seen in
    opened_moments c.args.digest.now t t1 (g.Y.Disk.time c.open_synced.new.disk) seen first (c.open_synced.ensures.moments told2)
