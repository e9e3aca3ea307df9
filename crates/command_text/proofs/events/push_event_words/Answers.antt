use Rattle.std.proofs.Common.{arith}
use Rattle.std.proofs.lemmas.Grind.{common_steps}
use Rattle.command_text.proofs.events.push_event_words.Goals as goal

pub returns-in-Host-clause-err : goal.returns-in-Host-clause-err
returns-in-Host-clause-err c = grind (arith, common_steps)

pub returns-in-Claim-clause-err : goal.returns-in-Claim-clause-err
returns-in-Claim-clause-err c = grind (arith, common_steps)

pub returns-in-Fetch-clause-err : goal.returns-in-Fetch-clause-err
returns-in-Fetch-clause-err c = grind (arith, common_steps)

pub returns-in-Entry-clause-err : goal.returns-in-Entry-clause-err
returns-in-Entry-clause-err c = grind (arith, common_steps)

pub returns-in-Renew-clause-err : goal.returns-in-Renew-clause-err
returns-in-Renew-clause-err c = grind (arith, common_steps)

pub returns-in-Tick-clause-err : goal.returns-in-Tick-clause-err
returns-in-Tick-clause-err c = grind (arith, common_steps)

pub returns-in-Down-clause-err : goal.returns-in-Down-clause-err
returns-in-Down-clause-err c = grind (arith, common_steps)

pub returns-in-Show-clause-err : goal.returns-in-Show-clause-err
returns-in-Show-clause-err c = grind (arith, common_steps)

pub returns-in-Owner-clause-err : goal.returns-in-Owner-clause-err
returns-in-Owner-clause-err c = grind (arith, common_steps)

pub returns-in-Board-clause-err : goal.returns-in-Board-clause-err
returns-in-Board-clause-err c = grind (arith, common_steps)

pub returns-in-Matrix-clause-err : goal.returns-in-Matrix-clause-err
returns-in-Matrix-clause-err c = grind (arith, common_steps)

pub returns-in-Audit-clause-err : goal.returns-in-Audit-clause-err
returns-in-Audit-clause-err c = grind (arith, common_steps)
