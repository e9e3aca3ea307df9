-- A session ended that stores its events.
use Rattle.std.proofs.Common.{◌≡◌, ◌≢◌, true, false, IsTrue, List, ◌++◌, ◌⊎◌, inl, inr, refl, sym, subst}
use Rattle.farm_kinds.specs.declared.events.Event.{Event}
use Rattle.farm_model.specs.State.{State}
use Rattle.record_store.specs.Model.{Rose}
use Rattle.record_store.specs.Held.{held, Rests}
use Rattle.script_session.specs.declared.end.StoredEnd.{StoredEnd}
use Rattle.script_session.specs.declared.end.StoredEnd.TheVariants as end
use Rattle.script_session.specs.Keeping.{KeptPrefix, EndsKeeping}
use Rattle.script_session.specs.Storing.{stored_lines, LeavesPrefix, Fits, DoesNotFit, HasRoom, StoreValue, IsSameStore, KeepsAll, Fails}
use Rattle.script_session.proofs.Storings.{keeps_leaves, fits_fewer, ready_rests}

module _ (o v : StoreValue) (s : State) (least all : List Event) where
  -- the disk failed, or all events of a prefix were stored
  abbrev Ends : StoredEnd → Type 0
  Ends r = EndsKeeping (KeepsAll o v s) (Fails o v s) (DoesNotFit o.journal.end o.journal.limit s) r least all

  parts : (r : StoredEnd) → Ends r → (Fails o v s least all × (r ≡ end.StoreFault)) ⊎ (KeptPrefix (KeepsAll o v s) least all × (r ≢ end.StoreFault))
  parts end.Done h = inr (h, λ e. cc)
  parts end.ReadFault h = inr (h, λ e. cc)
  parts end.WriteFault h = inr (h, λ e. cc)
  parts end.InputLimit h = inr (h, λ e. cc)
  parts end.StoreFault h = inl (h, refl)
  parts (end.StoreFull at) h = inr (h.0, λ e. cc)
  parts end.NoMemory h = inr (h, λ e. cc)

  leaves_of : (IsTrue o.tells) → (r : StoredEnd) → (Fails o v s least all × (r ≡ end.StoreFault)) ⊎ (KeptPrefix (KeepsAll o v s) least all × (r ≢ end.StoreFault)) → LeavesPrefix (held o.time.now.seen) s o.time v.time least all
  leaves_of told r (inl f) = f.0.leaves told
  leaves_of told r (inr f) = subst (λ (l : List Event). LeavesPrefix (held o.time.now.seen) s o.time v.time least l) (sym f.0.run) (keeps_leaves o v s least f.0.es f.0.others f.0.kept told)

  pub ends_leaves : (r : StoredEnd) → EndsKeeping (KeepsAll o v s) (Fails o v s) (DoesNotFit o.journal.end o.journal.limit s) r least all → IsTrue o.tells → LeavesPrefix (held o.time.now.seen) s o.time v.time least all
  ends_leaves r h told = leaves_of told r (parts r h)

  fits_of : (r : StoredEnd) → (Fails o v s least all × (r ≡ end.StoreFault)) ⊎ (KeptPrefix (KeepsAll o v s) least all × (r ≢ end.StoreFault)) → Fits o.journal.end o.journal.limit s least
  fits_of r (inl f) = f.0.fits
  fits_of r (inr f) =
      fits_fewer o.journal.end o.journal.limit s least f.0.kept.behind (subst (λ (l : List Event). Fits o.journal.end o.journal.limit s l) f.0.kept.run f.0.kept.fits)

  pub ends_room : (r : StoredEnd) → EndsKeeping (KeepsAll o v s) (Fails o v s) (DoesNotFit o.journal.end o.journal.limit s) r least all → HasRoom r o.journal.end o.journal.limit s least all
  ends_room end.Done h = fits_of end.Done (parts end.Done h)
  ends_room end.ReadFault h = fits_of end.ReadFault (parts end.ReadFault h)
  ends_room end.WriteFault h = fits_of end.WriteFault (parts end.WriteFault h)
  ends_room end.InputLimit h = fits_of end.InputLimit (parts end.InputLimit h)
  ends_room end.StoreFault h = fits_of end.StoreFault (parts end.StoreFault h)
  ends_room (end.StoreFull at) h = (fits_of (end.StoreFull at) (parts (end.StoreFull at) h), h.1)
  ends_room end.NoMemory h = fits_of end.NoMemory (parts end.NoMemory h)

  same_of : (r : StoredEnd) → (Fails o v s least all × (r ≡ end.StoreFault)) ⊎ (KeptPrefix (KeepsAll o v s) least all × (r ≢ end.StoreFault)) → IsSameStore o v
  same_of r (inl f) = f.0.same
  same_of r (inr f) = f.0.kept.same

  pub ends_same : (r : StoredEnd) → EndsKeeping (KeepsAll o v s) (Fails o v s) (DoesNotFit o.journal.end o.journal.limit s) r least all → IsSameStore o v
  ends_same r h = same_of r (parts r h)

  fresh_of : (r : StoredEnd) → (Fails o v s least all × (r ≡ end.StoreFault)) ⊎ (KeptPrefix (KeepsAll o v s) least all × (r ≢ end.StoreFault)) → r ≢ end.StoreFault → v.journal.spent ≡ false
  fresh_of r (inl f) other = absurd (other f.1)
  fresh_of r (inr f) other = f.0.kept.fresh

  pub ends_fresh : (r : StoredEnd) → EndsKeeping (KeepsAll o v s) (Fails o v s) (DoesNotFit o.journal.end o.journal.limit s) r least all → r ≢ end.StoreFault → v.journal.spent ≡ false
  ends_fresh r h other = fresh_of r (parts r h) other

  rests_of : (r : StoredEnd) → (Fails o v s least all × (r ≡ end.StoreFault)) ⊎ (KeptPrefix (KeepsAll o v s) least all × (r ≢ end.StoreFault)) → IsTrue o.tells → r ≢ end.StoreFault
      → Rests v.time.now (held v.time.now.seen) v.journal.end
  rests_of r (inl f) told other = absurd (other f.1)
  rests_of r (inr f) told other = ready_rests v.time.now (held o.time.now.seen ++ stored_lines s f.0.es) v.journal.end (f.0.kept.rests told)

  pub ends_rests : (r : StoredEnd) → EndsKeeping (KeepsAll o v s) (Fails o v s) (DoesNotFit o.journal.end o.journal.limit s) r least all → IsTrue o.tells → r ≢ end.StoreFault
      → Rests v.time.now (held v.time.now.seen) v.journal.end
  ends_rests r h told other = rests_of r (parts r h) told other

  fails_of : (r : StoredEnd) → (Fails o v s least all × (r ≡ end.StoreFault)) ⊎ (KeptPrefix (KeepsAll o v s) least all × (r ≢ end.StoreFault)) → r ≡ end.StoreFault → Fails o v s least all
  fails_of r (inl f) is = f.0
  fails_of r (inr f) is = absurd (f.1 is)

  pub ends_failed : (r : StoredEnd) → EndsKeeping (KeepsAll o v s) (Fails o v s) (DoesNotFit o.journal.end o.journal.limit s) r least all → r ≡ end.StoreFault → (v.journal.spent ≡ true) × Rose o.faults v.faults
  ends_failed r h is = let f = fails_of r (parts r h) is in (f.spent, f.rose)
