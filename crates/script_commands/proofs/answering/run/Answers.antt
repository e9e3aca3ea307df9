use Rattle.script_commands.proofs.answering.run.Goals as goal

pub returns-clause-ends : goal.returns-clause-ends
returns-clause-ends g c = c.answer-exit.ensures.ends c.args.settings c.new-farm.ensures
