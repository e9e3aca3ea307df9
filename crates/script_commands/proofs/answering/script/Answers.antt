use Rattle.std.proofs.Common.{Err, ap, ◌∙◌, refl}
use Rattle.script_commands.specs.Scripted.{Streams}
use Rattle.script_commands.proofs.Ends.{standard_ends, file_ends, refused_ends}
use Rattle.script_commands.proofs.answering.script.Goals as goal

pub returns-in-Err-Bad-clause-ends : goal.returns-in-Err-Bad-clause-ends
returns-in-Err-Bad-clause-ends g c =
    let files = g.T.Tree.files c.args.tree.now in
    let old : Streams = record { left = g.S.Source.left c.args.input.now; held = g.K.Sink.held c.args.out.now } in
    let new : Streams = record { left = g.S.Source.left c.args.input.now; held = g.K.Sink.held c.refuse.new.out } in
    let found = c.read_config.ensures.bad c.in-Err-Bad.bad (c.in-Err-Bad.is ∙ ap Err c.in-Err-Bad.field-0-is) in
    refused_ends files c.args.config c.in-Some.path old new _ _ c.refuse.result c.in-Some.is refl (c.refuse.ensures.ends files found)

pub returns-in_default-clause-ends : goal.returns-in_default-clause-ends
returns-in_default-clause-ends g c =
    let old : Streams = record { left = g.S.Source.left c.args.input.now; held = g.K.Sink.held c.args.out.now } in
    let new : Streams = record { left = g.S.Source.left c.run.new.input; held = g.K.Sink.held c.run.new.out } in
    standard_ends (g.T.Tree.files c.args.tree.now) c.args.config old new _ _ c.run.result c.standard.result c.in_default.is c.standard.ensures c.run.ensures.ends

pub returns-in_default-clause-tree : goal.returns-in_default-clause-tree
returns-in_default-clause-tree g c = λ none. refl

pub returns-in_default-clause-tree_fault : goal.returns-in_default-clause-tree_fault
returns-in_default-clause-tree_fault g c = λ q. absurd (c.run.ensures.tree_fault q)

pub returns-in-Ok-clause-ends : goal.returns-in-Ok-clause-ends
returns-in-Ok-clause-ends g c =
    let old : Streams = record { left = g.S.Source.left c.args.input.now; held = g.K.Sink.held c.args.out.now } in
    let new : Streams = record { left = g.S.Source.left c.run-in-Ok.new.input; held = g.K.Sink.held c.run-in-Ok.new.out } in
    file_ends (g.T.Tree.files c.args.tree.now) c.args.config c.in-Some.path old new _ _ c.run-in-Ok.result _ c.in-Some.is c.in-Ok.ensures.settings c.run-in-Ok.ensures.ends
