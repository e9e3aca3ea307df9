use Rattle.std.proofs.Common.{◌≡◌, ◌+◌, ◌-◌, ℕ, List, [], ◌∷◌, ◌++◌, Bool, true, IsTrue, refl, sym, ◌∙◌, ap, subst, length, arith, rules, length-append}
use Rattle.record_store.specs.Model.{DiskTime, AtEachMoment}
use Rattle.record_store.specs.Held.{held, records_of, Rests, HoldsStill}
use Rattle.stored_events.specs.Opening.{config_line, is_unborn, HoldsOrBegins}
use Rattle.stored_events.proofs.Openings.{still_moments, begun_closed, begun_moments, rests_held, rests_as}
use Rattle.farm_journal.proofs.Adds.{rests_at}
use Rattle.farm_journal.proofs.opening.begin.Goals as goal

pub returns-in_err-is_unborn-clause-moments : goal.returns-in_err-is_unborn-clause-moments
returns-in_err-is_unborn-clause-moments g c told =
    let t = g.Y.Disk.time c.args.disk.now in
    let t1 = g.Y.Disk.time c.is_unborn.new.disk in
    subst (λ (lines : List (List ℕ)). AtEachMoment (HoldsOrBegins c.args.digest.now lines) t t1) (c.requires.none told) (still_moments c.args.digest.now t t1 (c.requires.quiet told) (c.is_unborn.ensures.still told))

pub returns-then-not-branch-clause-moments : goal.returns-then-not-branch-clause-moments
returns-then-not-branch-clause-moments g c told =
    let t = g.Y.Disk.time c.args.disk.now in
    let t1 = g.Y.Disk.time c.is_unborn.new.disk in
    subst (λ (lines : List (List ℕ)). AtEachMoment (HoldsOrBegins c.args.digest.now lines) t t1) (c.requires.none told) (still_moments c.args.digest.now t t1 (c.requires.quiet told) (c.is_unborn.ensures.still told))

pub returns-in_err-close_records-clause-moments : goal.returns-in_err-close_records-clause-moments
returns-in_err-close_records-clause-moments g c told =
    let t = g.Y.Disk.time c.args.disk.now in
    let t2 = g.Y.Disk.time c.close_records.new.disk in
    let told1 : IsTrue (g.Y.Disk.tells c.is_unborn.new.disk) = subst (λ (b : Bool). IsTrue b) (sym c.is_unborn.ensures.tells) told in
    let closing : AtEachMoment (HoldsStill t.now.seen) t t2 = subst (λ (s : DiskTime). AtEachMoment (HoldsStill s.now.seen) s t2) (c.is_unborn.ensures.still told) (c.close_records.ensures.moments told1) in
    begun_closed c.args.digest.now t t2 (c.requires.none told) closing

pub returns-in_err-append_records-clause-moments : goal.returns-in_err-append_records-clause-moments
returns-in_err-append_records-clause-moments g c told =
    let digest = c.args.digest.now in
    let t = g.Y.Disk.time c.args.disk.now in
    let t2 = g.Y.Disk.time c.close_records.new.disk in
    let t3 = g.Y.Disk.time c.append_records.new.disk in
    let told1 : IsTrue (g.Y.Disk.tells c.is_unborn.new.disk) = subst (λ (b : Bool). IsTrue b) (sym c.is_unborn.ensures.tells) told in
    let told2 : IsTrue (g.Y.Disk.tells c.close_records.new.disk) = subst (λ (b : Bool). IsTrue b) (sym c.close_records.ensures.tells) told1 in
    let still = c.is_unborn.ensures.still told in
    let closing : AtEachMoment (HoldsStill t.now.seen) t t2 = subst (λ (s : DiskTime). AtEachMoment (HoldsStill s.now.seen) s t2) still (c.close_records.ensures.moments told1) in
    let none : held t2.now.seen ≡ [] = rests_held t2.now _ 0 (c.in_ok-close_records.ensures.done told1) ∙ ap (λ (s : DiskTime). held s.now.seen) still ∙ c.requires.none told in
    let batch : c.as_slice.result.now ≡ records_of (config_line digest ∷ []) ++ 0 ∷ [] = c.as_slice.ensures.value ∙ c.in_ok-make_batch.ensures ∙ ap (λ (l : List ℕ). records_of (l ∷ []) ++ 0 ∷ []) c.config_line.ensures in
    begun_moments digest t t2 (c.requires.none told) closing t3 none (c.append_records.ensures.moments (config_line digest) [] told2 batch)

pub returns-clause-moments : goal.returns-clause-moments
returns-clause-moments g c told =
    let digest = c.args.digest.now in
    let t = g.Y.Disk.time c.args.disk.now in
    let t2 = g.Y.Disk.time c.close_records.new.disk in
    let t3 = g.Y.Disk.time c.append_records.new.disk in
    let told1 : IsTrue (g.Y.Disk.tells c.is_unborn.new.disk) = subst (λ (b : Bool). IsTrue b) (sym c.is_unborn.ensures.tells) told in
    let told2 : IsTrue (g.Y.Disk.tells c.close_records.new.disk) = subst (λ (b : Bool). IsTrue b) (sym c.close_records.ensures.tells) told1 in
    let still = c.is_unborn.ensures.still told in
    let closing : AtEachMoment (HoldsStill t.now.seen) t t2 = subst (λ (s : DiskTime). AtEachMoment (HoldsStill s.now.seen) s t2) still (c.close_records.ensures.moments told1) in
    let none : held t2.now.seen ≡ [] = rests_held t2.now _ 0 (c.in_ok-close_records.ensures.done told1) ∙ ap (λ (s : DiskTime). held s.now.seen) still ∙ c.requires.none told in
    let batch : c.as_slice.result.now ≡ records_of (config_line digest ∷ []) ++ 0 ∷ [] = c.as_slice.ensures.value ∙ c.in_ok-make_batch.ensures ∙ ap (λ (l : List ℕ). records_of (l ∷ []) ++ 0 ∷ []) c.config_line.ensures in
    begun_moments digest t t2 (c.requires.none told) closing t3 none (c.append_records.ensures.moments (config_line digest) [] told2 batch)

pub returns-clause-opened : goal.returns-clause-opened
returns-clause-opened g c told =
    let digest = c.args.digest.now in
    let t = g.Y.Disk.time c.args.disk.now in
    let t2 = g.Y.Disk.time c.close_records.new.disk in
    let t3 = g.Y.Disk.time c.append_records.new.disk in
    let told1 : IsTrue (g.Y.Disk.tells c.is_unborn.new.disk) = subst (λ (b : Bool). IsTrue b) (sym c.is_unborn.ensures.tells) told in
    let told2 : IsTrue (g.Y.Disk.tells c.close_records.new.disk) = subst (λ (b : Bool). IsTrue b) (sym c.close_records.ensures.tells) told1 in
    let still = c.is_unborn.ensures.still told in
    let none : held t2.now.seen ≡ [] = rests_held t2.now _ 0 (c.in_ok-close_records.ensures.done told1) ∙ ap (λ (s : DiskTime). held s.now.seen) still ∙ c.requires.none told in
    let items : c.make_batch.new.batch.items ≡ records_of (config_line digest ∷ []) ++ 0 ∷ [] = c.in_ok-make_batch.ensures ∙ ap (λ (l : List ℕ). records_of (l ∷ []) ++ 0 ∷ []) c.config_line.ensures in
    let batch : c.as_slice.result.now ≡ records_of (config_line digest ∷ []) ++ 0 ∷ [] = c.as_slice.ensures.value ∙ items in
    let long = ap (λ (l : List ℕ). length l) items ∙ length-append (records_of (config_line digest ∷ [])) (0 ∷ []) in
    let size : c.len.result ≡ length c.make_batch.new.batch.items = search rules in
    let answer = c.in_ok-is_unborn.ensures.answer told in
    let unborn : IsTrue (is_unborn t.now.seen) = first_of (search (rules, answer), cc) in (
      unborn,
      rests_at t3.now (config_line digest ∷ []) (0 + length (records_of (config_line digest ∷ []))) (c.len.result - 1) (omega (arith, long, size))
          (rests_as t3.now (held t2.now.seen ++ config_line digest ∷ []) (config_line digest ∷ []) (0 + length (records_of (config_line digest ∷ []))) (ap (λ (l : List (List ℕ)). l ++ config_line digest ∷ []) none)
          (c.in_ok-append_records.ensures.done (config_line digest) [] told2 batch)),
    )
