use Rattle.farm_api.specs.Conversation.{page_response}
use Rattle.farm_api.proofs.showing.put_page.Goals as goal

pub returns-in-Ok-clause-writes : goal.returns-in-Ok-clause-writes
unfolding page_response
returns-in-Ok-clause-writes g c = rw (c.as_slice-in-Ok.ensures, c.in-Ok.ensures, c.as_slice.ensures) at c.write_content.ensures.writes
