use Rattle.std.proofs.Common.{rules, arith}
use Rattle.farm_api.proofs.Enterings.{none_aside}
use Rattle.farm_api.proofs.replier.enter_down.Goals as goal

pub returns-in-Differs-clause-enters : goal.returns-in-Differs-clause-enters
returns-in-Differs-clause-enters c = search rules

pub returns-in_default-reply : goal.returns-in_default-reply
returns-in_default-reply g c = grind (arith, none_aside)

pub returns-in_default : goal.returns-in_default
returns-in_default g c = grind (arith, none_aside)
