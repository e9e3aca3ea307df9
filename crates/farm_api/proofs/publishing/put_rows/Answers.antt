use Rattle.std.proofs.Common.{◌∙◌}
use Rattle.farm_api.proofs.Rows.{rows_written}
use Rattle.farm_api.proofs.publishing.put_rows.Goals as goal

pub returns-in-Ok-clause-writes : goal.returns-in-Ok-clause-writes
returns-in-Ok-clause-writes g c =
    rows_written c.args.closing c.args.rows.now c.as_slice.result.now _ _ c.write_response.result (c.as_slice.ensures.value ∙ c.in-Ok.ensures) c.write_response.ensures.writes
