use Rattle.std.proofs.Common.{◌≡◌, ◌+◌, ◌-◌, List, ℕ, [], ◌∷◌, ◌++◌, Bool, IsTrue, sym, ◌∙◌, ap, subst, length, take, drop}
use Rattle.record_store.specs.Model.{IsQuiet, overlaid}
use Rattle.record_store.specs.Held.{held, records_of, Rests}
use Rattle.record_store.proofs.Images.{on_ok_map, quiet_seen}
use Rattle.record_store.proofs.Appends.{all_behind, first_moments, first_done, both_moments, both_done}
use Rattle.record_store.proofs.records.append_records.Goals as goal

pub returns-in_err-write_durably-clause-moments : goal.returns-in_err-write_durably-clause-moments
returns-in_err-write_durably-clause-moments g c line others told is =
    let t = g.Y.Disk.time c.args.disk.now in
    let t1 = g.Y.Disk.time c.write_durably.new.disk in
    first_moments (held t.now.seen) c.args.end line others t t1 (take (length c.args.batch.now - 1) (drop 1 c.args.batch.now)) (c.requires.rests told).closed (c.write_durably.ensures.moments told)

pub returns-clause-moments : goal.returns-clause-moments
returns-clause-moments g c line others told is =
    let t = g.Y.Disk.time c.args.disk.now in
    let t1 = g.Y.Disk.time c.write_durably.new.disk in
    let t2 = g.Y.Disk.time c.write_durably-2.new.disk in
    let told' : IsTrue (g.Y.Disk.tells c.write_durably.new.disk) = subst (λ (b : Bool). IsTrue b) (sym c.write_durably.ensures.tells) told in
    let first = c.write_durably.ensures.moments told in
    let done = c.in_ok-write_durably.ensures.done told in
    let body : List ℕ = take (length c.args.batch.now - 1) (drop 1 c.args.batch.now) in
    let body_is : 1 ∷ body ≡ records_of (line ∷ others) ++ 0 ∷ [] = ap (λ (l : List ℕ). 1 ∷ l) (all_behind c.args.batch.now) ∙ ap (λ (l : List ℕ). 1 ∷ drop 1 l) is in
    let closed = (c.requires.rests told).closed in
    let stage = first_done (held t.now.seen) c.args.end line others t t1 body closed first (quiet_seen t1.now done.0) body_is done.1 in
    both_moments (held t.now.seen) c.args.end line others t t1 body closed first t2 stage (c.write_durably-2.ensures.moments told')

pub returns-clause-done : goal.returns-clause-done
returns-clause-done g c line others told is =
    let t = g.Y.Disk.time c.args.disk.now in
    let t1 = g.Y.Disk.time c.write_durably.new.disk in
    let t2 = g.Y.Disk.time c.write_durably-2.new.disk in
    let told' : IsTrue (g.Y.Disk.tells c.write_durably.new.disk) = subst (λ (b : Bool). IsTrue b) (sym c.write_durably.ensures.tells) told in
    let first = c.write_durably.ensures.moments told in
    let done = c.in_ok-write_durably.ensures.done told in
    let body : List ℕ = take (length c.args.batch.now - 1) (drop 1 c.args.batch.now) in
    let body_is : 1 ∷ body ≡ records_of (line ∷ others) ++ 0 ∷ [] = ap (λ (l : List ℕ). 1 ∷ l) (all_behind c.args.batch.now) ∙ ap (λ (l : List ℕ). 1 ∷ drop 1 l) is in
    let closed = (c.requires.rests told).closed in
    let stage = first_done (held t.now.seen) c.args.end line others t t1 body closed first (quiet_seen t1.now done.0) body_is done.1 in
    on_ok_map (IsQuiet t2.now × (t2.now.seen ≡ overlaid t1.now.seen c.args.end (1 ∷ []))) (Rests t2.now (held t.now.seen ++ line ∷ others) (c.args.end + length (records_of (line ∷ others)))) c.write_durably-2.result
    (λ both. record { quiet = both.0; closed = both_done (held t.now.seen) c.args.end line others t t1 body closed first t2 stage both.1 })
    (c.write_durably-2.ensures.done told')
