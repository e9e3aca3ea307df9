use Rattle.std.proofs.Common.{◌≡◌, ◌+◌, ◌<◌, ◌≤◌, ℕ, List, [], ◌∷◌, Bool, true, false, IsTrue, Some, refl, sym, ◌∙◌, ap, subst, length, drop, arith, rules}
use Rattle.std.specs.Str.{bytes_eq}
use Rattle.record_store.specs.Model.{DiskTime, AtEachMoment}
use Rattle.record_store.specs.Held.{held, Rests, HoldsStill, IsRead}
use Rattle.stored_events.specs.Opening.{config_of, opened_lines}
use Rattle.stored_events.proofs.Openings.{first_held, opened_other, opened_played, lines_same, read_all, still_moments, closing_moments, rests_as}
use Rattle.farm_journal.proofs.Goes.{told_so}
use Rattle.farm_journal.proofs.Played.{not_other}
use Rattle.farm_journal.proofs.opening.go_on_as.Goals as goal

pub returns-then-ne-clause-bad : goal.returns-then-ne-clause-bad
returns-then-ne-clause-bad g c told =
    let file = (g.Y.Disk.time c.args.disk.now).now.seen in
    let line = c.args.line.now in
    let n = 3 + length line in
    let inside : n < length file = (let i = c.requires.inside in let e = c.requires.len told in omega (arith, i, e)) in
    let other : bytes_eq c.args.kept.now c.args.digest.now ≡ false = search rules in
    opened_other c.args.digest.now (g.P.Player.state c.args.farm.now) file line (held (drop n file)) (first_held file line n (c.requires.first told) inside) c.args.kept.now c.requires.config other

pub returns-then-ne-clause-moments : goal.returns-then-ne-clause-moments
returns-then-ne-clause-moments g c told =
    let t = g.Y.Disk.time c.args.disk.now in
    still_moments c.args.digest.now t t (c.requires.quiet told) refl

pub returns-in-Err-clause-moments : goal.returns-in-Err-clause-moments
returns-in-Err-clause-moments g c told =
    let t = g.Y.Disk.time c.args.disk.now in
    let t1 = g.Y.Disk.time c.replay_records.new.disk in
    still_moments c.args.digest.now t t1 (c.requires.quiet told) (c.replay_records.ensures.still told)

pub returns-in-Ok-close_records-clause-opened : goal.returns-in-Ok-close_records-clause-opened
returns-in-Ok-close_records-clause-opened g c told =
    let digest = c.args.digest.now in
    let s = g.P.Player.state c.args.farm.now in
    let new = g.P.Player.state c.replay_records.new.farm in
    let t = g.Y.Disk.time c.args.disk.now in
    let t2 = g.Y.Disk.time c.close_records.new.disk in
    let file = t.now.seen in
    let line = c.args.line.now in
    let n = 3 + length line in
    let len_is = c.requires.len told in
    let inside : n < length file = (let i = c.requires.inside in omega (arith, i, len_is)) in
    let kept_is : c.as_slice.result.now ≡ c.args.kept.now = search rules in
    let digest_is : c.as_slice-2.result.now ≡ c.args.digest.now = search rules in
    let same : bytes_eq c.args.kept.now c.args.digest.now ≡ true =
    subst (λ (a : List ℕ). bytes_eq a c.args.digest.now ≡ true) kept_is (subst (λ (b : List ℕ). bytes_eq c.as_slice.result.now b ≡ true) digest_is (not_other (bytes_eq c.as_slice.result.now c.as_slice-2.result.now) c.if-ne.ensures)) in
    let within : c.in-Ok.end < length file = (let w = c.in-Ok.ensures.within in omega (arith, w, len_is)) in
    let first = c.requires.first told in
    let told1 : IsTrue (g.Y.Disk.tells c.replay_records.new.disk) = subst (λ (b : Bool). IsTrue b) (sym c.replay_records.ensures.tells) told in
    let rests : Rests t2.now (held file) c.in-Ok.end = subst (λ (s : DiskTime). Rests t2.now (held s.now.seen) c.in-Ok.end) (c.replay_records.ensures.still told) (c.in-Ok-close_records.ensures.done told1) in
    let is = first_held file line n first inside in (
      opened_played digest s new file line c.args.kept.now c.in-Ok.end n first inside c.requires.config same within (c.in-Ok.ensures.read told (line ∷ []) first),
      rests_as t2.now (held file) (opened_lines digest (held file)) c.in-Ok.end (sym (lines_same digest s file line (held (drop n file)) is)) rests,
    )

pub returns-in-Ok-close_records-clause-moments : goal.returns-in-Ok-close_records-clause-moments
returns-in-Ok-close_records-clause-moments g c told =
    let t = g.Y.Disk.time c.args.disk.now in
    let t2 = g.Y.Disk.time c.close_records.new.disk in
    let told1 : IsTrue (g.Y.Disk.tells c.replay_records.new.disk) = subst (λ (b : Bool). IsTrue b) (sym c.replay_records.ensures.tells) told in
    closing_moments c.args.digest.now t t2 (subst (λ (s : DiskTime). AtEachMoment (HoldsStill s.now.seen) s t2) (c.replay_records.ensures.still told) (c.close_records.ensures.moments told1))

pub returns-in-Err-close_records-clause-moments : goal.returns-in-Err-close_records-clause-moments
returns-in-Err-close_records-clause-moments g c told =
    let t = g.Y.Disk.time c.args.disk.now in
    let t2 = g.Y.Disk.time c.close_records.new.disk in
    let told1 : IsTrue (g.Y.Disk.tells c.replay_records.new.disk) = subst (λ (b : Bool). IsTrue b) (sym c.replay_records.ensures.tells) told in
    closing_moments c.args.digest.now t t2 (subst (λ (s : DiskTime). AtEachMoment (HoldsStill s.now.seen) s t2) (c.replay_records.ensures.still told) (c.close_records.ensures.moments told1))

pub returns-in-Err-clause-bad : goal.returns-in-Err-clause-bad
returns-in-Err-clause-bad g c told =
    let file = (g.Y.Disk.time c.args.disk.now).now.seen in
    let line = c.args.line.now in
    let n = 3 + length line in
    let inside : n < length file = (let i = c.requires.inside in let e = c.requires.len told in omega (arith, i, e)) in
    let kept_is : c.as_slice.result.now ≡ c.args.kept.now = search rules in
    let digest_is : c.as_slice-2.result.now ≡ c.args.digest.now = search rules in
    let same : bytes_eq c.args.kept.now c.args.digest.now ≡ true =
    subst (λ (a : List ℕ). bytes_eq a c.args.digest.now ≡ true) kept_is (subst (λ (b : List ℕ). bytes_eq c.as_slice.result.now b ≡ true) digest_is (not_other (bytes_eq c.as_slice.result.now c.as_slice-2.result.now) c.if-ne.ensures)) in
    let first = c.requires.first told in
    told_so c.args.digest.now (g.P.Player.state c.args.farm.now) file line c.args.kept.now n c.in-Err.fault first inside c.requires.config same (c.in-Err.ensures.bad told (line ∷ []) first)

pub close_records-requires-clause-read : goal.close_records-requires-clause-read
close_records-requires-clause-read g c told1 =
    let t = g.Y.Disk.time c.args.disk.now in
    let file = t.now.seen in
    let line = c.args.line.now in
    let told : IsTrue (g.Y.Disk.tells c.args.disk.now) = subst (λ (b : Bool). IsTrue b) c.replay_records.ensures.tells told1 in
    let within : c.in-Ok.end < length file = (let w = c.in-Ok.ensures.within in let e = c.requires.len told in omega (arith, w, e)) in
    let first = c.requires.first told in
    let read = read_all file line (g.P.Player.state c.args.farm.now) (g.P.Player.state c.replay_records.new.farm) c.in-Ok.end within (c.in-Ok.ensures.read told (line ∷ []) first) in
    subst (λ (s : DiskTime). IsRead s.now.seen c.in-Ok.end (held s.now.seen)) (sym (c.replay_records.ensures.still told)) read
