use Rattle.std.proofs.Common.{◌∙◌}
use Rattle.farm_api.proofs.Rows.{rows_made}
use Rattle.farm_api.proofs.publishing.rows_response.Goals as goal

pub returns : goal.returns
returns c = rows_made c.args.rows.now c.as_slice.result.now c.in_ok-response.response.items (c.as_slice.ensures.value ∙ c.in_ok-body.ensures) c.in_ok-response.ensures
