use Rattle.std.proofs.Common.{◌≡◌, true, false, IsTrue, Err, sym, ◌∙◌, ap, subst, rules}
use Rattle.farm_kinds.specs.declared.events.Reply.{Reply}
use Rattle.farm_model.specs.Replay.{state_after, reply_to}
use Rattle.stored_events.specs.Kept.{is_kept}
use Rattle.script_session.specs.Storing.{StoreValue, IsSameStore}
use Rattle.script_session.proofs.Storings.{ready_rests, keeps_quiet, keeps_added, keeps_still, not_fitting, fails_adding}
use Rattle.script_session.proofs.stored.JournalKeeper.keep.Goals as goal

pub returns-then-not-is_kept-clause-keeps : goal.returns-then-not-is_kept-clause-keeps
returns-then-not-is_kept-clause-keeps g c first mark s least es reply k =
    let e = c.args.event.now in
    let no : c.is_kept.result ≡ false = first_of (cc, search rules) in
    let quiet : is_kept e (reply_to (state_after s es) e) ≡ false = ap (λ (r : Reply). is_kept e r) (sym reply) ∙ sym c.is_kept.ensures ∙ no in
    keeps_quiet _ _ s least es e k quiet

pub returns-in-Ok-clause-ready : goal.returns-in-Ok-clause-ready
returns-in-Ok-clause-ready g c n = record {
  fresh = c.in-Ok.ensures.fresh (λ h. cc) ∙ c.requires.ready.fresh;
  rests = λ told. ready_rests _ _ _ (c.in-Ok.ensures.added (subst IsTrue c.add.ensures.tells told));
}

pub returns-in-Ok-clause-keeps : goal.returns-in-Ok-clause-keeps
returns-in-Ok-clause-keeps g c first mark s least es reply k =
    let e = c.args.event.now in
    let some : c.is_kept.result ≡ true = first_of (cc, search rules) in
    let stored : is_kept e (reply_to (state_after s es) e) ≡ true = ap (λ (r : Reply). is_kept e r) (sym reply) ∙ sym c.is_kept.ensures ∙ some in
    let d = c.add.new.disk in
    let w : StoreValue = record { journal = c.add.new.self; tells = g.Y.Disk.tells d; time = g.Y.Disk.time d; opened = g.Y.Disk.opened d; faults = g.Y.Disk.faults d } in
    let d0 = c.args.disk.now in
    let v : StoreValue = record { journal = c.args.self.now; tells = g.Y.Disk.tells d0; time = g.Y.Disk.time d0; opened = g.Y.Disk.opened d0; faults = g.Y.Disk.faults d0 } in
    let same : IsSameStore v w = record { limit = c.add.ensures.limit; tells = c.add.ensures.tells; opened = c.add.ensures.path; later = c.add.ensures.later } in
    keeps_added _ _ s least es e k w stored same (λ told. c.add.ensures.moments told c.requires.ready.fresh)
    (c.in-Ok.ensures.fresh (λ h. cc) ∙ c.requires.ready.fresh) c.in-Ok.ensures.end c.in-Ok.ensures.fits c.in-Ok.ensures.added

pub returns-in-Err-Full-clause-keeps : goal.returns-in-Err-Full-clause-keeps
returns-in-Err-Full-clause-keeps g c first mark s least es reply k =
    let e = c.args.event.now in
    let some : c.is_kept.result ≡ true = first_of (cc, search rules) in
    let stored : is_kept e (reply_to (state_after s es) e) ≡ true = ap (λ (r : Reply). is_kept e r) (sym reply) ∙ sym c.is_kept.ensures ∙ some in
    let d = c.add.new.disk in
    let w : StoreValue = record { journal = c.add.new.self; tells = g.Y.Disk.tells d; time = g.Y.Disk.time d; opened = g.Y.Disk.opened d; faults = g.Y.Disk.faults d } in
    let d0 = c.args.disk.now in
    let v : StoreValue = record { journal = c.args.self.now; tells = g.Y.Disk.tells d0; time = g.Y.Disk.time d0; opened = g.Y.Disk.opened d0; faults = g.Y.Disk.faults d0 } in
    let same : IsSameStore v w = record { limit = c.add.ensures.limit; tells = c.add.ensures.tells; opened = c.add.ensures.path; later = c.add.ensures.later } in
    let ensures = c.in-Err-Full.ensures in
    let is = c.in-Err-Full.field-0-is in
    let full = ensures.full c.in-Err-Full.end (ap Err is) in
    let still = ensures.still (λ h. cc) in (
      keeps_still _ _ s least es e k w same ensures.unwritten (ensures.fresh (λ h. cc) ∙ c.requires.ready.fresh) (λ _. ap g.Y.Disk.time still),
      λ others. not_fitting _ _ s least es e k stored c.in-Err-Full.end full.1 full.2 others,
    )

pub returns-in-Err-Disk-clause-keeps : goal.returns-in-Err-Disk-clause-keeps
returns-in-Err-Disk-clause-keeps g c first mark s least es reply k others =
    let e = c.args.event.now in
    let some : c.is_kept.result ≡ true = first_of (cc, search rules) in
    let stored : is_kept e (reply_to (state_after s es) e) ≡ true = ap (λ (r : Reply). is_kept e r) (sym reply) ∙ sym c.is_kept.ensures ∙ some in
    let d = c.add.new.disk in
    let w : StoreValue = record { journal = c.add.new.self; tells = g.Y.Disk.tells d; time = g.Y.Disk.time d; opened = g.Y.Disk.opened d; faults = g.Y.Disk.faults d } in
    let d0 = c.args.disk.now in
    let v : StoreValue = record { journal = c.args.self.now; tells = g.Y.Disk.tells d0; time = g.Y.Disk.time d0; opened = g.Y.Disk.opened d0; faults = g.Y.Disk.faults d0 } in
    let same : IsSameStore v w = record { limit = c.add.ensures.limit; tells = c.add.ensures.tells; opened = c.add.ensures.path; later = c.add.ensures.later } in
    let is = c.in-Err-Disk.field-0-is in
    fails_adding _ _ s least es e k w stored same (λ told. c.add.ensures.moments told c.requires.ready.fresh) (c.in-Err-Disk.ensures.spends (ap Err is)) (c.in-Err-Disk.ensures.cause (ap Err is)) others
