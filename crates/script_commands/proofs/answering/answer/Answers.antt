use Rattle.std.proofs.Common.{inl, refl}
use Rattle.script_commands.specs.Scripted.{Streams}
use Rattle.script_commands.proofs.Ends.{all_done, lines_done, prefix_done}
use Rattle.script_commands.proofs.answering.answer.Goals as goal

pub returns-in-Done-clause-ends : goal.returns-in-Done-clause-ends
returns-in-Done-clause-ends g c settings at =
    let old : Streams = record { left = g.S.Source.left c.args.input.now; held = g.K.Sink.held c.args.out.now } in
    let new : Streams = record { left = g.S.Source.left c.run_script.new.input; held = g.K.Sink.held c.run_script.new.out } in
    all_done settings c.args.farm.now c.run_script.new.farm old new at c.in-Done.ensures.ends

pub returns-in-ReadFault-clause-ends : goal.returns-in-ReadFault-clause-ends
returns-in-ReadFault-clause-ends g c settings at =
    let old : Streams = record { left = g.S.Source.left c.args.input.now; held = g.K.Sink.held c.args.out.now } in
    let new : Streams = record { left = g.S.Source.left c.run_script.new.input; held = g.K.Sink.held c.run_script.new.out } in
    lines_done settings c.args.farm.now c.run_script.new.farm old new at c.in-ReadFault.ensures.ends

pub returns-in-WriteFault-clause-ends : goal.returns-in-WriteFault-clause-ends
returns-in-WriteFault-clause-ends g c settings at =
    let old : Streams = record { left = g.S.Source.left c.args.input.now; held = g.K.Sink.held c.args.out.now } in
    let new : Streams = record { left = g.S.Source.left c.run_script.new.input; held = g.K.Sink.held c.run_script.new.out } in
    prefix_done settings c.args.farm.now c.run_script.new.farm old new at c.in-WriteFault.ensures.ends

pub returns-in-InputLimit-clause-ends : goal.returns-in-InputLimit-clause-ends
returns-in-InputLimit-clause-ends g c settings at =
    let old : Streams = record { left = g.S.Source.left c.args.input.now; held = g.K.Sink.held c.args.out.now } in
    let new : Streams = record { left = g.S.Source.left c.run_script.new.input; held = g.K.Sink.held c.run_script.new.out } in
    let ends = c.in-InputLimit.ensures.ends in
    (lines_done settings c.args.farm.now c.run_script.new.farm old new at ends.0, ends.1)

pub returns-in-NoMemory-clause-ends : goal.returns-in-NoMemory-clause-ends
returns-in-NoMemory-clause-ends g c settings at =
    let old : Streams = record { left = g.S.Source.left c.args.input.now; held = g.K.Sink.held c.args.out.now } in
    let new : Streams = record { left = g.S.Source.left c.run_script.new.input; held = g.K.Sink.held c.run_script.new.out } in
    prefix_done settings c.args.farm.now c.run_script.new.farm old new at c.in-NoMemory.ensures.ends

pub returns-in-Done-clause-write_fault : goal.returns-in-Done-clause-write_fault
returns-in-Done-clause-write_fault g c = λ q. cc

pub returns-in-Done-clause-complete : goal.returns-in-Done-clause-complete
returns-in-Done-clause-complete g c = λ short read written. inl refl
