use Rattle.std.proofs.Common.{◌≡◌, ◌+◌, ℕ, List, [], ◌∷◌, Bool, true, false, IsTrue, refl, sym, ◌∙◌, ap, subst, length, take, drop}
use Rattle.std.specs.Prelude.{IfErr}
use Rattle.record_store.specs.Model.{DiskTime}
use Rattle.record_store.specs.Held.{held, IsRecordPrefix, IsNext, ReadsNext}
use Rattle.stored_events.specs.Opening.{opened_by}
use Rattle.stored_events.proofs.Openings.{still_moments, first_prefix}
use Rattle.farm_journal.specs.Faults.{IsTold}
use Rattle.farm_journal.proofs.opening.open_synced.Goals as goal

pub returns-in-Err-clause-moments : goal.returns-in-Err-clause-moments
returns-in-Err-clause-moments g c told =
    still_moments c.args.digest.now (g.Y.Disk.time c.args.disk.now) (g.Y.Disk.time c.read_record.new.disk) (c.requires.quiet told) (c.read_record.ensures.still told)

pub go_on-requires-clause-first : goal.go_on-requires-clause-first
go_on-requires-clause-first g c told1 =
    let t = g.Y.Disk.time c.args.disk.now in
    let told : IsTrue (g.Y.Disk.tells c.args.disk.now) = subst (λ (b : Bool). IsTrue b) c.read_record.ensures.tells told1 in
    let line = c.read_record.new.line.items in
    let next : IsNext t.now.seen 0 line = rw c.if-found.true at (c.in-Ok.ensures.next told) in
    subst (λ (l : List ℕ). IsRecordPrefix (take (3 + length l) (g.Y.Disk.time c.read_record.new.disk).now.seen) (l ∷ [])) (sym c.as_slice.ensures.value)
    (subst (λ (s : DiskTime). IsRecordPrefix (take (3 + length line) s.now.seen) (line ∷ [])) (sym (c.read_record.ensures.still told)) (first_prefix t.now.seen line next))

pub returns-clause-bad : goal.returns-clause-bad
returns-clause-bad g c told =
    let t = g.Y.Disk.time c.args.disk.now in
    let s = g.P.Player.state c.args.farm.now in
    let told1 : IsTrue (g.Y.Disk.tells c.read_record.new.disk) = subst (λ (b : Bool). IsTrue b) (sym c.read_record.ensures.tells) told in
    let none : held (drop 0 t.now.seen) ≡ [] = rw c.if-found.false at (c.in-Ok.ensures.next told) in
    let none' : held t.now.seen ≡ [] = none in
    subst (λ (lines : List (List ℕ)). IfErr c.begin.result (λ f. IsTold f (opened_by c.args.digest.now s t.now.seen lines))) (sym none')
    (subst (λ (x : DiskTime). IfErr c.begin.result (λ f. IsTold f (opened_by c.args.digest.now s x.now.seen []))) (c.read_record.ensures.still told) (c.begin.ensures.bad told1 s))
