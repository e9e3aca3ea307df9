use Rattle.farm_api.specs.Conversation.{fault_response}
use Rattle.farm_api.proofs.answering.answer_fault.Goals as goal

pub returns-in-Ok-clause-writes : goal.returns-in-Ok-clause-writes
unfolding fault_response
returns-in-Ok-clause-writes g c =
    rw (c.fault_status.ensures, c.as_slice.ensures, c.in-Ok.ensures) at c.write_response.ensures.writes
