use Rattle.std.proofs.Common.{arith}
use Rattle.std.proofs.lemmas.Grind.{common_steps}
use Rattle.command_text.proofs.Joining.{spaced_more, kept_behind}
use Rattle.command_text.proofs.texts.push_spaced.Goals as goal

pub returns-in_err-push_behind_space-clause-err : goal.returns-in_err-push_behind_space-clause-err
returns-in_err-push_behind_space-clause-err c = grind (arith, spaced_more, kept_behind)

pub loop-word-preserved : goal.loop-word-preserved
loop-word-preserved c = grind (arith, common_steps)

pub returns-clause-ok : goal.returns-clause-ok
returns-clause-ok c = grind (arith, common_steps)
