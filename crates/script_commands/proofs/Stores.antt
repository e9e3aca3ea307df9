-- A store among the commands.
use Rattle.std.proofs.Common.{ℕ, ◌≡◌, Bool, IsTrue, List, [], ◌⊎◌, inl, inr, Option, Some, None, Ok, Err, refl, sym, ap, ◌∙◌, subst, append-nil}
use Rattle.std.specs.Io.KnownBytes.{Appends}
use Rattle.std.proofs.KnownBytes.{Appends-nil}
use Rattle.std.specs.Option.{option_map}
use Rattle.std.specs.Borrow.{Bor}
use Rattle.store_listing.specs.Listing.{store_text, is_store}
use Rattle.farm_tree.specs.declared.reads.TreeFile.{TreeFile}
use Rattle.farm_kinds.specs.declared.events.Event.{Event}
use Rattle.farm_model.specs.State.{State, SettingsValue, start}
use Rattle.record_store.specs.declared.disk.Access.TheVariants as access
use Rattle.record_store.specs.Model.{DiskTime, Opening, IsQuiet, AtEachMoment, OnlySynced}
use Rattle.record_store.specs.Held.{held, Rests}
use Rattle.record_store.proofs.Moments.{started, weaken, followed}
use Rattle.record_store.proofs.Images.{quiet_leaves}
use Rattle.std.specs.Prelude.{Result, take, false}
use Rattle.stored_events.specs.declared.faults.OpenFault.{OpenFault}
use Rattle.stored_events.specs.declared.faults.OpenFault.TheVariants as fault
use Rattle.farm_journal.specs.Faults.{IsTold}
use Rattle.stored_events.specs.Opening.{opened_of, opened_lines, HoldsOrBegins}
use Rattle.script_session.specs.declared.end.StoredEnd.{StoredEnd}
use Rattle.script_session.specs.declared.end.StoredEnd.TheVariants as end
use Rattle.script_session.specs.Session.{SessionState, IsShort}
use Rattle.script_session.specs.Keeping.{StoredEndsAs, WroteOf}
use Rattle.script_session.specs.Storing.{LeavesPrefix, HoldsPrefix, HasRoom}
use Rattle.script_session.proofs.Storings.{rests_lines}
use Rattle.exit_status.specs.declared.exit.Exit.{Exit}
use Rattle.exit_status.specs.declared.exit.Exit.TheVariants as exit
use Rattle.exit_status.specs.declared.flaw.StoreFlaw.{StoreFlaw}
use Rattle.exit_status.specs.declared.flaw.StoreFlaw.TheVariants as store_flaw
use Rattle.script_commands.specs.declared.config.BadConfig.{BadConfig}
use Rattle.script_commands.specs.Config.{ConfigIs}
use Rattle.script_commands.specs.Scripted.{Streams, session, NoSettingsEnds}
use Rattle.script_commands.specs.Stored.{StoreUse, file_before, IsConfigured, IsToldConfig, StoredIsDone, HoldsOrGoesOn, StoresPrefix, IsPlayed, IsUnplayed, IsFlawed, open_fault, bad_store_line, FlawEnds, exit_of, StoreEnds, StoredEnds, store_limit, lines_before, IsUnopened, IsOnlyRead, ListEnds}

-- What a crash leaves

begun : (digest : List ℕ) (lines : List (List ℕ)) (s : State) (all : List Event) (file : List ℕ) → HoldsOrBegins digest lines file → HoldsOrGoesOn digest lines s all file
begun digest lines s all file (inl same) = inl same
begun digest lines s all file (inr began) = inr (record { more = []; others = all; run = refl; holds = began ∙ sym (append-nil (opened_lines digest lines)) })

-- the opening and the session behind it
stores_prefix : (digest : List ℕ) (s : State) (t0 t2 t3 : DiskTime) (mark : ℕ) (least all : List Event)
    → (IsQuiet t0.now → AtEachMoment (HoldsOrBegins digest (held t0.now.seen)) t0 t2) → Rests t2.now (opened_lines digest (held t0.now.seen)) mark
    → LeavesPrefix (held t2.now.seen) s t2 t3 least all → StoresPrefix digest s t0 t3 least all
stores_prefix digest s t0 t2 t3 mark least all begins rests leaves =
    let lines = held t0.now.seen in
    let opened = opened_lines digest lines in
    let P : List ℕ → Type 0 = HoldsOrGoesOn digest lines s all in
    let behind = subst (λ (l : List (List ℕ)). LeavesPrefix l s t2 t3 least all) (rests_lines t2.now opened mark rests) leaves in
    record {
      moments = λ quiet.
          followed P t0 t2 t3 (weaken (HoldsOrBegins digest lines) P t0 t2 (begun digest lines s all) (begins quiet))
          (weaken (HoldsPrefix opened s [] all) P t2 t3 (λ file h. inr h) behind.moments);
      acknowledged = behind.acknowledged;
    }

whole_run : (digest : List ℕ) (s : State) (t0 t2 t3 : DiskTime) (mark : ℕ) (b b' : SessionState)
    → (IsQuiet t0.now → AtEachMoment (HoldsOrBegins digest (held t0.now.seen)) t0 t2) → Rests t2.now (opened_lines digest (held t0.now.seen)) mark
    → WroteOf (LeavesPrefix (held t2.now.seen) s t2 t3) b b' → WroteOf (StoresPrefix digest s t0 t3) b b'
whole_run digest s t0 t2 t3 mark b b' begins rests w = record {
  bytes = w.bytes;
  took = w.took;
  lines = w.lines;
  others = w.others;
  cut = w.cut;
  text = w.text;
  wrote = w.wrote;
  after = w.after;
  prefix = w.prefix;
  holds = stores_prefix digest s t0 t2 t3 mark _ _ begins rests w.holds;
}

-- a disk before a command and after it
abbrev pub use_of : Bool → DiskTime → Option Opening → ℕ → DiskTime → Option Opening → ℕ → StoreUse
use_of tells t0 o0 f0 t3 o3 f3 = record { tells = tells; old = record { time = t0; opened = o0; faults = f0 }; new = record { time = t3; opened = o3; faults = f3 } }

-- The times and the files of a disk: before its file is opened, once it is, once the store is, and behind the session.
module _ (files : Option (List TreeFile)) (config : Option (List ℕ)) (path digest : List ℕ) (settings : SettingsValue) (in_use : IsConfigured files config settings digest) (farm0 : State) (new_farm : farm0 ≡ start settings)
    (tells : Bool) (t0 t1 t2 : DiskTime) (o0 o1 o2 : Option Opening) (f0 : ℕ) (still : IsTrue tells → t1 ≡ t0) where
  pub unopened : (o : Option Opening) (f : ℕ) → IsUnplayed files config (use_of tells t0 o0 f0 t1 o f)
  unopened o f = record {
    settings = settings;
    digest = digest;
    in_use = in_use;
    moments = λ told quiet.
        let P : List ℕ → Type 0 = HoldsOrBegins digest (held t0.now.seen) in
        subst (λ (t : DiskTime). AtEachMoment P t0 t) (sym (still told)) (started P t0 (quiet_leaves P t0.now quiet (inl refl)));
  }

  module _ (begins : IsTrue tells → IsQuiet t1.now → AtEachMoment (HoldsOrBegins digest (held t1.now.seen)) t1 t2) where
    moments_0 : IsTrue tells → IsQuiet t0.now → AtEachMoment (HoldsOrBegins digest (held t0.now.seen)) t0 t2
    moments_0 told = subst (λ (t : DiskTime). IsQuiet t.now → AtEachMoment (HoldsOrBegins digest (held t.now.seen)) t t2) (still told) (begins told)

    pub unplayed : (o : Option Opening) (f : ℕ) → IsUnplayed files config (use_of tells t0 o0 f0 t2 o f)
    unplayed o f = record { settings = settings; digest = digest; in_use = in_use; moments = moments_0 }

    module _ (first_path : o1 ≡ Some (record { path = path; access = access.Change })) (second_path : o2 ≡ o1) where
      pub flawed : (flaw : StoreFlaw) (f : ℕ) → (IsTrue tells → opened_of digest farm0 t1.now.seen ≡ Err (open_fault flaw)) → (IsTrue tells → OnlySynced t1 t2) → IsFlawed files config path (use_of tells t0 o0 f0 t2 o2 f) flaw
      flawed flaw f found unwritten = record {
        settings = settings;
        digest = digest;
        in_use = in_use;
        opened = second_path ∙ first_path;
        found = λ told.
            subst (λ (t : DiskTime). opened_of digest (start settings) t.now.seen ≡ Err (open_fault flaw)) (still told)
            (subst (λ (s : State). opened_of digest s t1.now.seen ≡ Err (open_fault flaw)) new_farm (found told));
        unwritten = λ told. subst (λ (t : DiskTime). OnlySynced t t2) (still told) (unwritten told);
      }

      pub played : (t3 : DiskTime) (o3 : Option Opening) (f : ℕ) (old new : Streams) (farm1 farm2 : State) (mark limit : ℕ) (e : StoredEnd)
          → o3 ≡ o2 → (IsTrue tells → (opened_of digest farm0 t1.now.seen ≡ Ok farm1) × Rests t2.now (opened_lines digest (held t1.now.seen)) mark)
          → StoredEndsAs e (session farm1 old) (session farm2 new) → (IsTrue tells → WroteOf (LeavesPrefix (held t2.now.seen) farm1 t2 t3) (session farm1 old) (session farm2 new))
          → WroteOf (HasRoom e mark limit farm1) (session farm1 old) (session farm2 new) → limit ≡ store_limit → IsPlayed files config path (use_of tells t0 o0 f0 t3 o3 f) old new e
      played t3 o3 f old new farm1 farm2 mark limit e third_path opens ends stored room limited =
          let rests : IsTrue tells → Rests t2.now (opened_lines digest (held t0.now.seen)) mark = λ told. subst (λ (t : DiskTime). Rests t2.now (opened_lines digest (held t.now.seen)) mark) (still told) (opens told).1 in
          record {
            settings = settings;
            digest = digest;
            in_use = in_use;
            opened = third_path ∙ second_path ∙ first_path;
            first = farm1;
            last = farm2;
            leads = λ told.
                subst (λ (t : DiskTime). opened_of digest (start settings) t.now.seen ≡ Ok farm1) (still told)
                (subst (λ (s : State). opened_of digest s t1.now.seen ≡ Ok farm1) new_farm (opens told).0);
            ends = ends;
            stored = λ told. whole_run digest farm1 t0 t2 t3 mark (session farm1 old) (session farm2 new) (moments_0 told) (rests told) (stored told);
            mark = mark;
            begins = λ told. (t2.now.seen, (rests told).closed);
            room = subst (λ (n : ℕ). WroteOf (HasRoom e mark n farm1) (session farm1 old) (session farm2 new)) limited room;
          }

-- a fault of the file is what opening it answers
pub told_other : (f : OpenFault) (kept : List ℕ) (opened : Result State OpenFault) → f ≡ fault.OtherConfig kept → IsTold f opened → opened ≡ Err (fault.OtherConfig kept)
told_other f kept opened is told = subst (λ (x : OpenFault). IsTold x opened) is told

pub told_record : (f : OpenFault) (number : ℕ) (opened : Result State OpenFault) → f ≡ fault.BadRecord number → IsTold f opened → opened ≡ Err (fault.BadRecord number)
told_record f number opened is told = subst (λ (x : OpenFault). IsTold x opened) is told

-- How it ends

module _ (files : Option (List TreeFile)) (config : Option (List ℕ)) (path : List ℕ) (disk : StoreUse) (old new : Streams) (unread unwritten : Type 0) where
  pub played_ends : (e : StoredEnd) → IsPlayed files config path disk old new e → StoreEnds files config path disk old new unread unwritten (exit_of e)
  played_ends end.Done h = h
  played_ends end.ReadFault h = h
  played_ends end.WriteFault h = inl h
  played_ends end.InputLimit h = h
  played_ends end.StoreFault h = inl h
  played_ends (end.StoreFull mark) h = h
  played_ends end.NoMemory h = inl h

  pub flaw_ends : (flaw : StoreFlaw) (e : Exit) → unread → IsFlawed files config path disk flaw → IsUnplayed files config disk → FlawEnds flaw old.held new.held unwritten e
      → StoreEnds files config path disk old new unread unwritten e
  flaw_ends flaw exit.Done same has shut h = absurd h
  flaw_ends flaw exit.Usage same has shut h = h
  flaw_ends flaw exit.BadContest same has shut h = h
  flaw_ends flaw exit.ReadFault same has shut h = absurd h
  flaw_ends flaw exit.WriteFault same has shut h = inr (same, record { flaw = flaw; found = has; count = h.0; wrote = h.1 })
  flaw_ends flaw exit.Memory same has shut h = inr (same, h, shut)
  flaw_ends flaw exit.TreeFault same has shut h = h
  flaw_ends flaw exit.DoorFault same has shut h = h
  flaw_ends flaw exit.InputLimit same has shut h = absurd h
  flaw_ends flaw exit.LinkFault same has shut h = h
  flaw_ends flaw (exit.BadAnswer answer) same has shut h = h
  flaw_ends flaw exit.StoreFault same has shut h = absurd h
  flaw_ends flaw (exit.BadStore told) same has shut h = (
    same,
    subst (λ (z : StoreFlaw). IsFlawed files config path disk z) (sym h.0) has,
    subst (λ (z : StoreFlaw). Appends old.held new.held (bad_store_line z)) (sym h.0) h.1,
  )
  flaw_ends flaw (exit.StoreFull mark) same has shut h = absurd h

-- Settings and their store

-- the settings that are in use are those that the tree tells
same_config : (files : Option (List TreeFile)) (config : Option (List ℕ)) (s s' : SettingsValue) (d d' : List ℕ) → IsConfigured files config s d → IsToldConfig files config s' d' → (s ≡ s') × (d ≡ d')
same_config files None s s' d d' h told = (h.0 ∙ sym told.0, h.1 ∙ sym told.1)
same_config None (Some path) s s' d d' h told = absurd told
same_config (Some held) (Some path) s s' d d' h told =
    let first : Ok s' ≡ Ok s = sym told.0 ∙ h.0 in
    let second : Some d' ≡ Some d = sym told.1 ∙ h.1 in
    ((let is = first in cc), (let is = second in cc))

-- a script that plays its store, where nothing fails
module _ (files : Option (List TreeFile)) (config : Option (List ℕ)) (disk : StoreUse) (left : Option (List ℕ)) (T S K Y : Type 0) (e : Exit) where
  pub stored_done : (settings : SettingsValue) (digest : List ℕ) → IsConfigured files config settings digest
      → ((first : State) → IsTrue disk.tells → opened_of digest (start settings) (file_before disk) ≡ Ok first → IsShort left → ¬ S → ¬ K → ¬ Y → ((mark : ℕ) → ¬ (e ≡ exit.StoreFull mark)) → (e ≡ exit.Done) ⊎ (e ≡ exit.Memory))
      → StoredIsDone files config disk left (¬ T × ¬ S × ¬ K × ¬ Y) e
  unfolding StoredIsDone
  stored_done settings digest in_use done = λ has short faultless not_full.
      let same = same_config files config settings has.settings digest has.digest in_use has.told in
      done has.first has.tells
      (subst (λ (s : SettingsValue). opened_of digest (start s) (file_before disk) ≡ Ok has.first) (sym same.0)
      (subst (λ (d : List ℕ). opened_of d (start has.settings) (file_before disk) ≡ Ok has.first) (sym same.1) has.leads)) short faultless.1 faultless.2 faultless.3 not_full

-- How a script ends with a file of settings and without one

pub stored_none : (files : Option (List TreeFile)) (config : Option (Bor (List ℕ))) (path : List ℕ) (disk : StoreUse) (old new : Streams) (unread unwritten : Type 0) (e : Exit) → config ≡ None
    → StoreEnds files None path disk old new unread unwritten e → StoredEnds files (option_map (λ p. p.now) config) path disk old new unread unwritten e
stored_none files config path disk old new unread unwritten e is ends =
    subst (λ (o : Option (Bor (List ℕ))). StoredEnds files (option_map (λ p. p.now) o) path disk old new unread unwritten e) (sym is) ends

pub stored_some : (files : Option (List TreeFile)) (config : Option (Bor (List ℕ))) (file : Bor (List ℕ)) (path : List ℕ) (disk : StoreUse) (old new : Streams) (unread unwritten : Type 0) (e : Exit) → config ≡ Some file
    → StoreEnds files (Some file.now) path disk old new unread unwritten e → StoredEnds files (option_map (λ p. p.now) config) path disk old new unread unwritten e
stored_some files config file path disk old new unread unwritten e is ends =
    subst (λ (o : Option (Bor (List ℕ))). StoredEnds files (option_map (λ p. p.now) o) path disk old new unread unwritten e) (sym is) (inl ends)

pub stored_refused : (files : Option (List TreeFile)) (config : Option (Bor (List ℕ))) (file : Bor (List ℕ)) (path : List ℕ) (disk : StoreUse) (old new : Streams) (unread unwritten : Type 0) (e : Exit) → config ≡ Some file
    → IsUnopened disk → unread → NoSettingsEnds files file.now old.held new.held unwritten e → StoredEnds files (option_map (λ p. p.now) config) path disk old new unread unwritten e
stored_refused files config file path disk old new unread unwritten e is shut same ends =
    subst (λ (o : Option (Bor (List ℕ))). StoredEnds files (option_map (λ p. p.now) o) path disk old new unread unwritten e) (sym is) (inr (shut, same, ends))

pub stored_some_done : (files : Option (List TreeFile)) (config : Option (Bor (List ℕ))) (file : Bor (List ℕ)) (disk : StoreUse) (left : Option (List ℕ)) (T S K Y : Type 0) (e : Exit) (settings : SettingsValue) (digest : List ℕ) → config ≡ Some file
    → IsConfigured files (Some file.now) settings digest
    → ((first : State) → IsTrue disk.tells → opened_of digest (start settings) (file_before disk) ≡ Ok first → IsShort left → ¬ S → ¬ K → ¬ Y → ((mark : ℕ) → ¬ (e ≡ exit.StoreFull mark)) → (e ≡ exit.Done) ⊎ (e ≡ exit.Memory))
    → StoredIsDone files (option_map (λ p. p.now) config) disk left (¬ T × ¬ S × ¬ K × ¬ Y) e
stored_some_done files config file disk left T S K Y e settings digest is in_use done =
    subst (λ (o : Option (Bor (List ℕ))). StoredIsDone files (option_map (λ p. p.now) o) disk left (¬ T × ¬ S × ¬ K × ¬ Y) e) (sym is)
    (stored_done files (Some file.now) disk left T S K Y e settings digest in_use done)

-- A file that is no store

pub no_store_ends : (path : List ℕ) (disk : StoreUse) (first second last : Option (List ℕ)) (unwritten : Type 0) (e : Exit) → IsOnlyRead path disk → (IsTrue disk.tells → is_store (file_before disk) ≡ false) → second ≡ first
    → (unwritten → last ≡ second) → FlawEnds (store_flaw.Record 1) second last unwritten e → ListEnds path disk first last e
no_store_ends path disk first second last unwritten exit.Done read none same kept h = absurd h
no_store_ends path disk first second last unwritten exit.Usage read none same kept h = h
no_store_ends path disk first second last unwritten exit.BadContest read none same kept h = h
no_store_ends path disk first second last unwritten exit.ReadFault read none same kept h = h
no_store_ends path disk first second last unwritten exit.WriteFault read none same kept h = (
  read,
  inr (
      record {
        flaw = store_flaw.Record 1;
        found = record { told = refl; found = none };
        count = h.0;
        wrote = subst (λ (o : Option (List ℕ)). Appends o last (take h.0 (bad_store_line (store_flaw.Record 1)))) same h.1;
      }
      ),
)
no_store_ends path disk first second last unwritten exit.Memory read none same kept h = record {
  still = read.still;
  wrote = λ told.
      record {
        text = [];
        after = store_text (lines_before disk);
        put = subst (λ (o : Option (List ℕ)). Appends first o []) (sym (kept h ∙ same)) (Appends-nil first);
        prefix = refl;
      };
}
no_store_ends path disk first second last unwritten exit.TreeFault read none same kept h = h
no_store_ends path disk first second last unwritten exit.DoorFault read none same kept h = h
no_store_ends path disk first second last unwritten exit.InputLimit read none same kept h = h
no_store_ends path disk first second last unwritten exit.LinkFault read none same kept h = h
no_store_ends path disk first second last unwritten (exit.BadAnswer answer) read none same kept h = h
no_store_ends path disk first second last unwritten exit.StoreFault read none same kept h = absurd h
no_store_ends path disk first second last unwritten (exit.BadStore told) read none same kept h = (
  read,
  record { told = h.0; found = none },
  subst (λ (o : Option (List ℕ)). Appends o last (bad_store_line told)) same
      (subst (λ (z : StoreFlaw). Appends second last (bad_store_line z)) (sym h.0) h.1),
)
no_store_ends path disk first second last unwritten (exit.StoreFull mark) read none same kept h = h
