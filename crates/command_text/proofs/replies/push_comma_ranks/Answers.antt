use Rattle.std.proofs.Common.{arith}
use Rattle.std.proofs.lemmas.Grind.{common_steps}
use Rattle.command_text.proofs.Joining.{commas_more, kept_behind}
use Rattle.command_text.proofs.replies.push_comma_ranks.Goals as goal

pub returns-in_err-push_behind_comma-clause-err : goal.returns-in_err-push_behind_comma-clause-err
returns-in_err-push_behind_comma-clause-err c = grind (arith, commas_more, kept_behind)

pub loop-rank-preserved : goal.loop-rank-preserved
loop-rank-preserved c = grind (arith, common_steps)

pub returns-clause-ok : goal.returns-clause-ok
returns-clause-ok c = grind (arith, common_steps)
