use Rattle.std.proofs.Common.{rules, ◌≡◌, [], Some, None, Err, ap, ◌∙◌, refl}
use Rattle.sha2.specs.Sha256.{sha256}
use Rattle.farm_model.specs.State.{standard_settings}
use Rattle.script_commands.specs.Scripted.{Streams}
use Rattle.script_commands.proofs.Stores.{use_of, stored_none, stored_some, stored_refused, stored_some_done}
use Rattle.script_commands.proofs.stored.script_stored.Goals as goal

pub returns-in_default-clause-ends : goal.returns-in_default-clause-ends
returns-in_default-clause-ends g c =
    let files = g.T.Tree.files c.args.tree.now in
    let old : Streams = record { left = g.S.Source.left c.args.input.now; held = g.K.Sink.held c.args.out.now } in
    let new : Streams = record { left = g.S.Source.left c.play_anew.new.input; held = g.K.Sink.held c.play_anew.new.out } in
    let settled : c.standard.result ≡ standard_settings = search rules in
    let summed : c.digest-digest.result ≡ sha256 [] = search rules in
    stored_none files c.args.config c.args.path.now
    (use_of (g.Y.Disk.tells c.args.disk.now) (g.Y.Disk.time c.args.disk.now) (g.Y.Disk.opened c.args.disk.now) (g.Y.Disk.faults c.args.disk.now) (g.Y.Disk.time c.play_anew.new.disk) (g.Y.Disk.opened c.play_anew.new.disk) (g.Y.Disk.faults c.play_anew.new.disk))
    old new (c.play_anew.new.input ≡ c.args.input.now) (c.play_anew.new.out ≡ c.args.out.now) c.play_anew.result c.in_default.is (c.play_anew.ensures.ends files None (settled, summed))

pub returns-in-Ok-clause-ends : goal.returns-in-Ok-clause-ends
returns-in-Ok-clause-ends g c =
    let files = g.T.Tree.files c.args.tree.now in
    let old : Streams = record { left = g.S.Source.left c.args.input.now; held = g.K.Sink.held c.args.out.now } in
    let new : Streams = record { left = g.S.Source.left c.play_anew-in-Ok.new.input; held = g.K.Sink.held c.play_anew-in-Ok.new.out } in
    stored_some files c.args.config c.in-Some.file c.args.path.now
    (use_of (g.Y.Disk.tells c.args.disk.now) (g.Y.Disk.time c.args.disk.now) (g.Y.Disk.opened c.args.disk.now) (g.Y.Disk.faults c.args.disk.now) (g.Y.Disk.time c.play_anew-in-Ok.new.disk) (g.Y.Disk.opened c.play_anew-in-Ok.new.disk) (g.Y.Disk.faults c.play_anew-in-Ok.new.disk))
    old new (c.play_anew-in-Ok.new.input ≡ c.args.input.now) (c.play_anew-in-Ok.new.out ≡ c.args.out.now) c.play_anew-in-Ok.result c.in-Some.is
    (c.play_anew-in-Ok.ensures.ends files (Some c.in-Some.file.now) (c.in-Ok.ensures.settings, c.in-Ok.ensures.digest))

pub returns-in-Ok-clause-complete : goal.returns-in-Ok-clause-complete
returns-in-Ok-clause-complete g c =
    stored_some_done (g.T.Tree.files c.args.tree.now) c.args.config c.in-Some.file _ (g.S.Source.left c.args.input.now) _ _ _ _ c.play_anew-in-Ok.result c.in-Ok.read.settings c.in-Ok.read.digest c.in-Some.is
    (c.in-Ok.ensures.settings, c.in-Ok.ensures.digest) c.play_anew-in-Ok.ensures.complete

pub returns-in-Err-Bad-clause-ends : goal.returns-in-Err-Bad-clause-ends
returns-in-Err-Bad-clause-ends g c =
    let files = g.T.Tree.files c.args.tree.now in
    let old : Streams = record { left = g.S.Source.left c.args.input.now; held = g.K.Sink.held c.args.out.now } in
    let new : Streams = record { left = g.S.Source.left c.args.input.now; held = g.K.Sink.held c.refuse.new.out } in
    let found = c.read_config.ensures.bad c.in-Err-Bad.bad (c.in-Err-Bad.is ∙ ap Err c.in-Err-Bad.field-0-is) in
    stored_refused files c.args.config c.in-Some.file c.args.path.now
    (use_of (g.Y.Disk.tells c.args.disk.now) (g.Y.Disk.time c.args.disk.now) (g.Y.Disk.opened c.args.disk.now) (g.Y.Disk.faults c.args.disk.now) (g.Y.Disk.time c.args.disk.now) (g.Y.Disk.opened c.args.disk.now) (g.Y.Disk.faults c.args.disk.now))
    old new (c.args.input.now ≡ c.args.input.now) (c.refuse.new.out ≡ c.args.out.now) c.refuse.result c.in-Some.is refl refl (c.refuse.ensures.ends files found)
