use Rattle.std.proofs.Common.{rules}
use Rattle.farm_api.proofs.asking.fetch_event.Goals as goal

pub returns-in-FetchWork-Some : goal.returns-in-FetchWork-Some
returns-in-FetchWork-Some c = search rules
