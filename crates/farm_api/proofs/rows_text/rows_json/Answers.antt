use Rattle.std.proofs.Common.{arith}
use Rattle.farm_api.proofs.RowTexts.{rows_done}
use Rattle.farm_api.proofs.rows_text.rows_json.Goals as goal

pub returns : goal.returns
returns c = grind (arith, rows_done)
