use Rattle.std.proofs.Common.{◌≡◌, Bool, IsTrue, Err, ap, ◌∙◌, sym, subst}
use Rattle.std.specs.Prelude.{false}
use Rattle.record_store.specs.Model.{DiskTime}
use Rattle.store_listing.specs.Listing.{is_store}
use Rattle.script_commands.specs.Stored.{StoreUse, IsOnlyRead, file_before}
use Rattle.script_commands.proofs.Stores.{use_of, no_store_ends}
use Rattle.script_commands.proofs.listing.list.Goals as goal

pub returns-in-Err-NoStore-clause-ends : goal.returns-in-Err-NoStore-clause-ends
returns-in-Err-NoStore-clause-ends g c =
    let tells = g.Y.Disk.tells c.args.disk.now in
    let disk : StoreUse = use_of tells (g.Y.Disk.time c.args.disk.now) (g.Y.Disk.opened c.args.disk.now) (g.Y.Disk.faults c.args.disk.now) (g.Y.Disk.time c.list_store.new.disk) (g.Y.Disk.opened c.list_store.new.disk) (g.Y.Disk.faults c.list_store.new.disk) in
    let told1 : IsTrue tells → IsTrue (g.Y.Disk.tells c.open.new.self) = λ told. subst (λ (b : Bool). IsTrue b) (sym c.open.ensures.tells) told in
    let read : IsOnlyRead c.args.path.now disk = record {
      opened = c.list_store.ensures.path ∙ c.in-Ok.ensures.path;
      still = λ told. c.list_store.ensures.still (told1 told) ∙ c.open.ensures.still told;
    } in
    let is = ap Err c.in-Err-NoStore.field-0-is in
    let none : IsTrue tells → is_store (file_before disk) ≡ false = λ told. subst (λ (t : DiskTime). is_store t.now.seen ≡ false) (c.open.ensures.still told) (c.in-Err-NoStore.ensures.no_store (told1 told) is) in
    no_store_ends c.args.path.now disk (g.K.Sink.held c.args.out.now) (g.K.Sink.held c.list_store.new.out) (g.K.Sink.held c.refuse_store.new.out) (c.refuse_store.new.out ≡ c.list_store.new.out) c.refuse_store.result read none
    (ap g.K.Sink.held (c.in-Err-NoStore.ensures.none is)) (λ same. ap g.K.Sink.held same) c.refuse_store.ensures.ends
