use Rattle.farm_api.specs.Conversation.{contest_response}
use Rattle.farm_api.proofs.showing.answer_contest.Goals as goal

pub returns-clause-writes : goal.returns-clause-writes
unfolding contest_response
returns-clause-writes g c = rw (c.json.ensures, c.contest.ensures) at c.write_response.ensures.writes
