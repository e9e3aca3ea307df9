use Rattle.std.proofs.Common.{arith}
use Rattle.std.proofs.lemmas.Grind.{common_steps}
use Rattle.command_text.proofs.replies.push_host_words.Goals as goal

pub returns-in-Nothing-clause-err : goal.returns-in-Nothing-clause-err
returns-in-Nothing-clause-err c = grind (arith, common_steps)

pub returns-in-Counted-clause-err : goal.returns-in-Counted-clause-err
returns-in-Counted-clause-err c = grind (arith, common_steps)

pub returns-in-Repeat-clause-err : goal.returns-in-Repeat-clause-err
returns-in-Repeat-clause-err c = grind (arith, common_steps)

pub returns-in-Differs-clause-err : goal.returns-in-Differs-clause-err
returns-in-Differs-clause-err c = grind (arith, common_steps)

pub returns-in-Dropped-clause-err : goal.returns-in-Dropped-clause-err
returns-in-Dropped-clause-err c = grind (arith, common_steps)

pub returns-in-Until-clause-err : goal.returns-in-Until-clause-err
returns-in-Until-clause-err c = grind (arith, common_steps)

pub returns-in-Ended-clause-err : goal.returns-in-Ended-clause-err
returns-in-Ended-clause-err c = grind (arith, common_steps)

pub returns-in_default : goal.returns-in_default
returns-in_default c = grind (arith, common_steps)
