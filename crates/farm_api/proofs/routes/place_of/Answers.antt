use Rattle.std.proofs.Common.{◌==◌, sym, ◌∙◌}
use Rattle.farm_api.proofs.Positions.{no_place}
use Rattle.farm_api.proofs.routes.place_of.Goals as goal

pub returns-in-None-clause-place : goal.returns-in-None-clause-place
returns-in-None-clause-place c = no_place (λ b. b == c.args.code) c.args.bytes.now (sym c.find.ensures ∙ c.in-None.is)
