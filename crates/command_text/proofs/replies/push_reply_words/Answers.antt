use Rattle.std.proofs.Common.{arith}
use Rattle.std.proofs.lemmas.Grind.{common_steps}
use Rattle.command_text.proofs.replies.push_reply_words.Goals as goal

pub returns-in-Problem-clause-err : goal.returns-in-Problem-clause-err
returns-in-Problem-clause-err c = grind (arith, common_steps)

pub returns-in-Host-clause-err : goal.returns-in-Host-clause-err
returns-in-Host-clause-err c = grind (arith, common_steps)

pub returns-in-Shown-clause-err : goal.returns-in-Shown-clause-err
returns-in-Shown-clause-err c = grind (arith, common_steps)

pub returns-in-Owned-clause-err : goal.returns-in-Owned-clause-err
returns-in-Owned-clause-err c = grind (arith, common_steps)

pub returns-in-Board-clause-err : goal.returns-in-Board-clause-err
returns-in-Board-clause-err c = grind (arith, common_steps)

pub returns-in-Rejudging-clause-err : goal.returns-in-Rejudging-clause-err
returns-in-Rejudging-clause-err c = grind (arith, common_steps)

pub returns-in-Matrix-clause-err : goal.returns-in-Matrix-clause-err
returns-in-Matrix-clause-err c = grind (arith, common_steps)

pub returns-in-Applied-clause-err : goal.returns-in-Applied-clause-err
returns-in-Applied-clause-err c = grind (arith, common_steps)

pub returns-in-Cancelled-clause-err : goal.returns-in-Cancelled-clause-err
returns-in-Cancelled-clause-err c = grind (arith, common_steps)

pub returns-in-Verified-clause-err : goal.returns-in-Verified-clause-err
returns-in-Verified-clause-err c = grind (arith, common_steps)

pub returns-in-Audit-clause-err : goal.returns-in-Audit-clause-err
returns-in-Audit-clause-err c = grind (arith, common_steps)
