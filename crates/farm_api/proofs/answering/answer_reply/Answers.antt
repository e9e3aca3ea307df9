use Rattle.farm_api.specs.Conversation.{reply_response}
use Rattle.farm_api.proofs.answering.answer_reply.Goals as goal

pub returns-in-Ok-clause-writes : goal.returns-in-Ok-clause-writes
unfolding reply_response
returns-in-Ok-clause-writes g c =
    rw (c.status_of.ensures, c.as_slice.ensures, c.in-Ok.ensures.text) at c.write_response.ensures.writes
