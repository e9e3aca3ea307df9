use Rattle.std.proofs.Common.{◌≡◌, ◌+◌, ◌<◌, ◌≤◌, ℕ, List, [], Bool, IsTrue, Some, refl, sym, ◌∙◌, ap, subst, length, drop, arith, rules}
use Rattle.record_store.specs.Model.{DiskTime}
use Rattle.record_store.specs.Held.{held}
use Rattle.record_store.specs.Reading.{IsAhead}
use Rattle.farm_model.specs.State.{State}
use Rattle.stored_events.specs.Replaying.{ReplaysTo, PlayedTo}
use Rattle.stored_events.proofs.Replays.{played_first, played_more, played_bad, played_all}
use Rattle.farm_journal.specs.Meeting.{Meets}
use Rattle.farm_journal.specs.declared.opening.Next.TheVariants as next
use Rattle.farm_journal.proofs.opening.replay_records.Goals as goal

pub records-init : goal.records-init
records-init g c = record {
  within = c.requires.within;
  few = c.requires.some;
  path = refl;
  tells = refl;
  later = omega arith;
  still = λ told. refl;
  ahead = λ told. c.new-ahead.ensures (g.Y.Disk.time c.args.disk.now).now.seen;
  played = λ told prefix is. played_first (g.Y.Disk.time c.args.disk.now).now.seen prefix (g.P.Player.state c.args.farm.now) c.args.from is;
}

pub returns-in-Ok-End-clause-read : goal.returns-in-Ok-End-clause-read
returns-in-Ok-End-clause-read g c told prefix is =
    let inv = c.records.invariant in
    let t = g.Y.Disk.time c.args.disk.now in
    let t1 = g.Y.Disk.time c.records.disk in
    let old = g.P.Player.state c.args.farm.now in
    let now = g.P.Player.state c.records.farm in
    let new = g.P.Player.state c.next_event.new.farm in
    let line = c.next_event.new.line.items in
    let told' : IsTrue (g.Y.Disk.tells c.records.disk) = subst (λ (b : Bool). IsTrue b) (sym inv.tells) told in
    let met : Meets t1.now.seen c.records.at line now new next.End = rw c.in-Ok-End.field-0-is at (c.in-Ok-End.ensures.meets told') in
    let here : Meets t.now.seen c.records.at line now new next.End = subst (λ (s : DiskTime). Meets s.now.seen c.records.at line now new next.End) (inv.still told) met in
    let inside : c.records.at < length t.now.seen = (let w = inv.within in let e = c.requires.len told in omega arith) in
    subst (λ (s : State). ReplaysTo t.now.seen prefix old s c.records.at) (sym here.1)
    (played_all t.now.seen prefix old c.records.at now c.records.number (inv.played told prefix is) here.0 inside)

pub returns-in-Ok-Other-clause-bad : goal.returns-in-Ok-Other-clause-bad
returns-in-Ok-Other-clause-bad g c told prefix is =
    let inv = c.records.invariant in
    let t = g.Y.Disk.time c.args.disk.now in
    let t1 = g.Y.Disk.time c.records.disk in
    let old = g.P.Player.state c.args.farm.now in
    let now = g.P.Player.state c.records.farm in
    let new = g.P.Player.state c.next_event.new.farm in
    let line = c.next_event.new.line.items in
    let told' : IsTrue (g.Y.Disk.tells c.records.disk) = subst (λ (b : Bool). IsTrue b) (sym inv.tells) told in
    let met : Meets t1.now.seen c.records.at line now new next.Other = rw c.in-Ok-Other.field-0-is at (c.in-Ok-Other.ensures.meets told') in
    let here : Meets t.now.seen c.records.at line now new next.Other = subst (λ (s : DiskTime). Meets s.now.seen c.records.at line now new next.Other) (inv.still told) met in
    played_bad t.now.seen prefix old c.records.at now c.records.number (inv.played told prefix is) line here.0 here.1 here.2

pub records-preserved : goal.records-preserved
records-preserved g c =
    let inv = c.records.invariant in
    let t = g.Y.Disk.time c.args.disk.now in
    let t1 = g.Y.Disk.time c.records.disk in
    let old = g.P.Player.state c.args.farm.now in
    let now = g.P.Player.state c.records.farm in
    let new = g.P.Player.state c.next_event.new.farm in
    let line = c.next_event.new.line.items in
    let size : c.len.result ≡ length line = search rules in
    let inside : c.records.at + 3 + length line < c.args.len = c.in-Ok-Played.ensures.inside c.in-Ok-Played.field-0-is in
    let at_is : c.records.at + 3 + length line ≡ c.records.at + (3 + c.len.result) = omega (arith, size) in
    record {
      within = omega (arith, size, inside);
      few = (let f = inv.few in omega (arith, f));
      path = c.next_event.ensures.path ∙ inv.path;
      tells = c.next_event.ensures.tells ∙ inv.tells;
      later = (let l = c.next_event.ensures.cause.later in let f = inv.later in omega (arith, l, f));
      still = λ told.
          let told' : IsTrue (g.Y.Disk.tells c.records.disk) = subst (λ (b : Bool). IsTrue b) (sym inv.tells) told in
          c.next_event.ensures.still told' ∙ inv.still told;
      ahead = λ told.
          let told' : IsTrue (g.Y.Disk.tells c.records.disk) = subst (λ (b : Bool). IsTrue b) (sym inv.tells) told in
          subst (λ (s : DiskTime). IsAhead s.now.seen c.next_event.new.ahead) (inv.still told) (c.in-Ok-Played.ensures.ahead told');
      played = λ told prefix is.
          let told' : IsTrue (g.Y.Disk.tells c.records.disk) = subst (λ (b : Bool). IsTrue b) (sym inv.tells) told in
          let met : Meets t1.now.seen c.records.at line now new next.Played = rw c.in-Ok-Played.field-0-is at (c.in-Ok-Played.ensures.meets told') in
          let here : Meets t.now.seen c.records.at line now new next.Played = subst (λ (s : DiskTime). Meets s.now.seen c.records.at line now new next.Played) (inv.still told) met in
          subst (λ (k : ℕ). PlayedTo t.now.seen prefix old k new (c.records.number + 1)) at_is
          (played_more t.now.seen prefix old c.records.at now c.records.number (inv.played told prefix is) line here.0 new here.1);
    }
