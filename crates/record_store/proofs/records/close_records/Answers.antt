use Rattle.std.proofs.Common.{◌≡◌, ◌≢◌, ◌<◌, List, ℕ, [], ◌∷◌, Bool, IsTrue, refl, sym, ◌∙◌, ap, subst, length, get_or, arith}
use Rattle.record_store.specs.Model.{DiskTime, AtEachMoment, IsQuiet, overlaid}
use Rattle.record_store.specs.Held.{held, Torn, Rests, HoldsStill}
use Rattle.record_store.proofs.Moments.{weaken, started}
use Rattle.record_store.proofs.Images.{quiet_leaves, on_ok_map}
use Rattle.record_store.proofs.Steps.{close_torn, close_done}
use Rattle.record_store.proofs.Opens.{empty_torn_held, empty_closed, open_closed}
use Rattle.record_store.proofs.records.close_records.Goals as goal

pub returns-then-at-len-clause-moments : goal.returns-then-at-len-clause-moments
returns-then-at-len-clause-moments g c told =
    let t = g.Y.Disk.time c.args.disk.now in
    let file = t.now.seen in
    let is : c.args.at ≡ length file = c.if-at-len.true ∙ c.requires.len told in
    weaken (Torn c.args.at 1 file) (HoldsStill file) t (g.Y.Disk.time c.write_durably.new.disk) (empty_torn_held file c.args.at is (c.requires.read told).within) (c.write_durably.ensures.moments told)

pub returns-then-at-len-clause-done : goal.returns-then-at-len-clause-done
returns-then-at-len-clause-done g c told =
    let t = g.Y.Disk.time c.args.disk.now in
    let t1 = g.Y.Disk.time c.write_durably.new.disk in
    let file = t.now.seen in
    let is : c.args.at ≡ length file = c.if-at-len.true ∙ c.requires.len told in
    on_ok_map (IsQuiet t1.now × (t1.now.seen ≡ overlaid file c.args.at (0 ∷ []))) (Rests t1.now (held file) c.args.at) c.write_durably.result
    (λ both. record { quiet = both.0; closed = empty_closed file t1.now.seen c.args.at is (c.requires.read told).within both.1 })
    (c.write_durably.ensures.done told)

pub returns-in_err-read_gate-clause-moments : goal.returns-in_err-read_gate-clause-moments
returns-in_err-read_gate-clause-moments g c told =
    let t = g.Y.Disk.time c.args.disk.now in
    let P : List ℕ → Type 0 = HoldsStill t.now.seen in
    subst (λ (s : DiskTime). AtEachMoment P t s) (sym (c.read_gate.ensures.still told)) (started P t (quiet_leaves P t.now (c.requires.quiet told) refl))

pub returns-clause-moments : goal.returns-clause-moments
returns-clause-moments g c told =
    let t = g.Y.Disk.time c.args.disk.now in
    let P : List ℕ → Type 0 = HoldsStill t.now.seen in
    subst (λ (s : DiskTime). AtEachMoment P t s) (sym (c.read_gate.ensures.still told)) (started P t (quiet_leaves P t.now (c.requires.quiet told) refl))

pub returns-clause-done : goal.returns-clause-done
returns-clause-done g c told =
    let t = g.Y.Disk.time c.args.disk.now in
    let file = t.now.seen in
    let inside : c.args.at < length file = (let e = c.requires.len told in let w = c.requires.within in let n = c.if-at-len.false in omega arith) in
    let shut : get_or file c.args.at 0 ≢ 1 = λ opened. c.if-branch-eq1.false (sym (c.in_ok-read_gate.ensures.answer told) ∙ opened) in
    let here : Rests t.now (held file) c.args.at = record { quiet = c.requires.quiet told; closed = open_closed file c.args.at (c.requires.read told) inside shut } in
    subst (λ (s : DiskTime). Rests s.now (held file) c.args.at) (sym (c.read_gate.ensures.still told)) here

pub returns-then-branch-eq1-clause-moments : goal.returns-then-branch-eq1-clause-moments
returns-then-branch-eq1-clause-moments g c told =
    let t = g.Y.Disk.time c.args.disk.now in
    let t2 = g.Y.Disk.time c.write_durably-then-branch-eq1.new.disk in
    let file = t.now.seen in
    let read = c.requires.read told in
    let P : List ℕ → Type 0 = HoldsStill file in
    let told' : IsTrue (g.Y.Disk.tells c.read_gate.new.disk) = subst (λ (b : Bool). IsTrue b) (sym c.read_gate.ensures.tells) told in
    let still = c.read_gate.ensures.still told in
    let inside : c.args.at < length file = (let e = c.requires.len told in let w = c.requires.within in let n = c.if-at-len.false in omega arith) in
    let opened : get_or file c.args.at 0 ≡ 1 = c.in_ok-read_gate.ensures.answer told ∙ c.if-branch-eq1.true in
    let torn : AtEachMoment (Torn c.args.at 1 file) t t2 = subst (λ (s : DiskTime). AtEachMoment (Torn c.args.at 1 s.now.seen) s t2) still (c.write_durably-then-branch-eq1.ensures.moments told') in
    weaken (Torn c.args.at 1 file) P t t2 (λ f one. close_torn file (held file) c.args.at f read.prefix inside read.none opened one) torn

pub returns-then-branch-eq1-clause-done : goal.returns-then-branch-eq1-clause-done
returns-then-branch-eq1-clause-done g c told =
    let t = g.Y.Disk.time c.args.disk.now in
    let t1 = g.Y.Disk.time c.read_gate.new.disk in
    let t2 = g.Y.Disk.time c.write_durably-then-branch-eq1.new.disk in
    let file = t.now.seen in
    let read = c.requires.read told in
    let told' : IsTrue (g.Y.Disk.tells c.read_gate.new.disk) = subst (λ (b : Bool). IsTrue b) (sym c.read_gate.ensures.tells) told in
    let still = c.read_gate.ensures.still told in
    let inside : c.args.at < length file = (let e = c.requires.len told in let w = c.requires.within in let n = c.if-at-len.false in omega arith) in
    on_ok_map (IsQuiet t2.now × (t2.now.seen ≡ overlaid t1.now.seen c.args.at (0 ∷ []))) (Rests t2.now (held file) c.args.at) c.write_durably-then-branch-eq1.result
    (λ both. record { quiet = both.0; closed = close_done file t2.now.seen (held file) c.args.at read.prefix inside (both.1 ∙ ap (λ (s : DiskTime). overlaid s.now.seen c.args.at (0 ∷ [])) still) })
    (c.write_durably-then-branch-eq1.ensures.done told')
