use Rattle.std.proofs.Common.{arith}
use Rattle.std.proofs.lemmas.Grind.{common_steps}
use Rattle.contest_folder.proofs.texts.push_contest_fault.Goals as goal

pub returns-in-TooManyProblems : goal.returns-in-TooManyProblems
returns-in-TooManyProblems c = rw c.in-TooManyProblems.is c.push_counted.ensures

pub returns-in-TooManySubmissions : goal.returns-in-TooManySubmissions
returns-in-TooManySubmissions c = rw c.in-TooManySubmissions.is c.push_counted-in-TooManySubmissions.ensures

pub returns-in_ok-push-in-Package : goal.returns-in_ok-push-in-Package
returns-in_ok-push-in-Package c = grind (arith, common_steps)
