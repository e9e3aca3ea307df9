use Rattle.std.proofs.Common.{◌≡◌, ℕ, Bool, IsTrue, Option, Err, inr, refl, sym, subst}
use Rattle.record_store.specs.Model.{DiskTime, Opening, OnlySynced}
use Rattle.stored_events.specs.declared.faults.OpenFault.{OpenFault}
use Rattle.stored_events.specs.Opening.{opened_of}
use Rattle.farm_journal.specs.Faults.{IsOfFile}
use Rattle.script_session.proofs.Storings.{ready_rests}
use Rattle.exit_status.specs.declared.exit.Exit.{Exit}
use Rattle.exit_status.specs.declared.flaw.StoreFlaw.{StoreFlaw}
use Rattle.exit_status.specs.declared.flaw.StoreFlaw.TheVariants as store_flaw
use Rattle.script_commands.specs.Scripted.{Streams}
use Rattle.script_commands.specs.Stored.{StoreUse, StoreEnds, open_fault}
use Rattle.script_commands.proofs.Stores.{use_of, unopened, unplayed, flawed, played, played_ends, flaw_ends, told_other, told_record}
use Rattle.script_commands.proofs.stored.play.Goals as goal

pub returns-in_default-clause-ends : goal.returns-in_default-clause-ends
returns-in_default-clause-ends g c files config settings new_farm in_use =
    let t0 : DiskTime = g.Y.Disk.time c.args.disk.now in
    let t1 : DiskTime = g.Y.Disk.time c.open.new.self in
    let o0 : Option Opening = g.Y.Disk.opened c.args.disk.now in
    let o1 : Option Opening = g.Y.Disk.opened c.open.new.self in
    inr (
      refl,
      refl,
      unopened files config c.args.path.now c.args.digest.now settings in_use c.args.farm.now new_farm (g.Y.Disk.tells c.args.disk.now) t0 t1 t1 o0 o1 o1 (g.Y.Disk.faults c.args.disk.now) c.open.ensures.still o1 (g.Y.Disk.faults c.open.new.self),
    )

pub run_stored-requires-clause-stands : goal.run_stored-requires-clause-stands
run_stored-requires-clause-stands g c told =
    ready_rests _ _ _ (c.in-Ok-open.ensures.opened (subst (λ (b : Bool). IsTrue b) c.open-2.ensures.tells told)).1

pub returns-in-Ok-open-clause-ends : goal.returns-in-Ok-open-clause-ends
returns-in-Ok-open-clause-ends g c files config settings new_farm in_use =
    let tells = g.Y.Disk.tells c.args.disk.now in
    let t0 : DiskTime = g.Y.Disk.time c.args.disk.now in
    let t1 : DiskTime = g.Y.Disk.time c.open.new.self in
    let t2 : DiskTime = g.Y.Disk.time c.open-2.new.disk in
    let t3 : DiskTime = g.Y.Disk.time c.run_stored.new.disk in
    let o0 : Option Opening = g.Y.Disk.opened c.args.disk.now in
    let o1 : Option Opening = g.Y.Disk.opened c.open.new.self in
    let o2 : Option Opening = g.Y.Disk.opened c.open-2.new.disk in
    let o3 : Option Opening = g.Y.Disk.opened c.run_stored.new.disk in
    let f0 : ℕ = g.Y.Disk.faults c.args.disk.now in
    let f3 : ℕ = g.Y.Disk.faults c.run_stored.new.disk in
    let old : Streams = record { left = g.S.Source.left c.args.input.now; held = g.K.Sink.held c.args.out.now } in
    let new : Streams = record { left = g.S.Source.left c.run_stored.new.input; held = g.K.Sink.held c.run_stored.new.out } in
    let told1 : IsTrue tells → IsTrue (g.Y.Disk.tells c.open.new.self) = λ told. subst (λ (b : Bool). IsTrue b) (sym c.open.ensures.tells) told in
    let told2 : IsTrue tells → IsTrue (g.Y.Disk.tells c.open-2.new.disk) = λ told. subst (λ (b : Bool). IsTrue b) (sym c.open-2.ensures.tells) (told1 told) in
    let disk : StoreUse = use_of tells t0 o0 f0 t3 o3 f3 in
    let run =
    played files config c.args.path.now c.args.digest.now settings in_use c.args.farm.now new_farm tells t0 t1 t2 o0 o1 o2 f0 c.open.ensures.still (λ told. c.open-2.ensures.moments (told1 told)) c.in-Ok.ensures.path
    c.open-2.ensures.path t3 o3 f3 old new c.open-2.new.farm c.run_stored.new.farm c.in-Ok-open.journal.end c.in-Ok-open.journal.limit c.run_stored.result c.run_stored.ensures.path
    (λ told. c.in-Ok-open.ensures.opened (told1 told)) c.run_stored.ensures.ends (λ told. c.run_stored.ensures.stored (told2 told)) c.run_stored.ensures.room c.in-Ok-open.ensures.journal.0 in
    let unread : Type 0 = c.run_stored.new.input ≡ c.args.input.now in
    let unwritten : Type 0 = c.run_stored.new.out ≡ c.args.out.now in
    subst (λ (z : Exit). StoreEnds files config c.args.path.now disk old new unread unwritten z) (sym c.exit_of.ensures)
    (played_ends files config c.args.path.now disk old new unread unwritten c.run_stored.result run)

pub returns-in-Err-OtherConfig-clause-ends : goal.returns-in-Err-OtherConfig-clause-ends
returns-in-Err-OtherConfig-clause-ends g c files config settings new_farm in_use =
    let tells = g.Y.Disk.tells c.args.disk.now in
    let t0 : DiskTime = g.Y.Disk.time c.args.disk.now in
    let t1 : DiskTime = g.Y.Disk.time c.open.new.self in
    let t2 : DiskTime = g.Y.Disk.time c.open-2.new.disk in
    let o0 : Option Opening = g.Y.Disk.opened c.args.disk.now in
    let o1 : Option Opening = g.Y.Disk.opened c.open.new.self in
    let o2 : Option Opening = g.Y.Disk.opened c.open-2.new.disk in
    let f0 : ℕ = g.Y.Disk.faults c.args.disk.now in
    let f2 : ℕ = g.Y.Disk.faults c.open-2.new.disk in
    let old : Streams = record { left = g.S.Source.left c.args.input.now; held = g.K.Sink.held c.args.out.now } in
    let new : Streams = record { left = g.S.Source.left c.args.input.now; held = g.K.Sink.held c.refuse_store.new.out } in
    let told1 : IsTrue tells → IsTrue (g.Y.Disk.tells c.open.new.self) = λ told. subst (λ (b : Bool). IsTrue b) (sym c.open.ensures.tells) told in
    let found = opened_of c.args.digest.now c.args.farm.now t1.now.seen in
    let flaw : StoreFlaw = store_flaw.OtherConfig c.in-Err-OtherConfig.kept in
    let is = c.in-Err-OtherConfig.kept-is in
    let has : IsTrue tells → found ≡ Err (open_fault flaw) = λ told. (let bad = told_other _ _ found c.in-Err-OtherConfig.field-0-is (c.in-Err-OtherConfig.ensures.bad (told1 told)) in cc) in
    let unwritten : IsTrue tells → OnlySynced t1 t2 = λ told. subst (λ (f : OpenFault). IsOfFile f → OnlySynced t1 t2) c.in-Err-OtherConfig.field-0-is (c.in-Err-OtherConfig.ensures.unwritten (told1 told)) tt in
    flaw_ends files config c.args.path.now (use_of tells t0 o0 f0 t2 o2 f2) old new (c.args.input.now ≡ c.args.input.now) (c.refuse_store.new.out ≡ c.args.out.now) flaw c.refuse_store.result refl
    (flawed files config c.args.path.now c.args.digest.now settings in_use c.args.farm.now new_farm tells t0 t1 t2 o0 o1 o2 f0 c.open.ensures.still (λ told. c.open-2.ensures.moments (told1 told)) c.in-Ok.ensures.path c.open-2.ensures.path flaw f2 has unwritten)
    (unplayed files config c.args.path.now c.args.digest.now settings in_use c.args.farm.now new_farm tells t0 t1 t2 o0 o1 o2 f0 c.open.ensures.still (λ told. c.open-2.ensures.moments (told1 told)) o2 f2) c.refuse_store.ensures.ends

pub returns-in-Err-BadRecord-clause-ends : goal.returns-in-Err-BadRecord-clause-ends
returns-in-Err-BadRecord-clause-ends g c files config settings new_farm in_use =
    let tells = g.Y.Disk.tells c.args.disk.now in
    let t0 : DiskTime = g.Y.Disk.time c.args.disk.now in
    let t1 : DiskTime = g.Y.Disk.time c.open.new.self in
    let t2 : DiskTime = g.Y.Disk.time c.open-2.new.disk in
    let o0 : Option Opening = g.Y.Disk.opened c.args.disk.now in
    let o1 : Option Opening = g.Y.Disk.opened c.open.new.self in
    let o2 : Option Opening = g.Y.Disk.opened c.open-2.new.disk in
    let f0 : ℕ = g.Y.Disk.faults c.args.disk.now in
    let f2 : ℕ = g.Y.Disk.faults c.open-2.new.disk in
    let old : Streams = record { left = g.S.Source.left c.args.input.now; held = g.K.Sink.held c.args.out.now } in
    let new : Streams = record { left = g.S.Source.left c.args.input.now; held = g.K.Sink.held c.refuse_store-in-Err-BadRecord.new.out } in
    let told1 : IsTrue tells → IsTrue (g.Y.Disk.tells c.open.new.self) = λ told. subst (λ (b : Bool). IsTrue b) (sym c.open.ensures.tells) told in
    let found = opened_of c.args.digest.now c.args.farm.now t1.now.seen in
    let flaw : StoreFlaw = store_flaw.Record c.in-Err-BadRecord.number in
    let is = c.in-Err-BadRecord.number-is in
    let has : IsTrue tells → found ≡ Err (open_fault flaw) = λ told. (let bad = told_record _ _ found c.in-Err-BadRecord.field-0-is (c.in-Err-BadRecord.ensures.bad (told1 told)) in cc) in
    let unwritten : IsTrue tells → OnlySynced t1 t2 = λ told. subst (λ (f : OpenFault). IsOfFile f → OnlySynced t1 t2) c.in-Err-BadRecord.field-0-is (c.in-Err-BadRecord.ensures.unwritten (told1 told)) tt in
    flaw_ends files config c.args.path.now (use_of tells t0 o0 f0 t2 o2 f2) old new (c.args.input.now ≡ c.args.input.now) (c.refuse_store-in-Err-BadRecord.new.out ≡ c.args.out.now) flaw c.refuse_store-in-Err-BadRecord.result refl
    (flawed files config c.args.path.now c.args.digest.now settings in_use c.args.farm.now new_farm tells t0 t1 t2 o0 o1 o2 f0 c.open.ensures.still (λ told. c.open-2.ensures.moments (told1 told)) c.in-Ok.ensures.path c.open-2.ensures.path flaw f2 has unwritten)
    (unplayed files config c.args.path.now c.args.digest.now settings in_use c.args.farm.now new_farm tells t0 t1 t2 o0 o1 o2 f0 c.open.ensures.still (λ told. c.open-2.ensures.moments (told1 told)) o2 f2) c.refuse_store-in-Err-BadRecord.ensures.ends
