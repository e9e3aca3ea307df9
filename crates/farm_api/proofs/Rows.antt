-- What was written of rows is the response that gives them.
use Rattle.std.proofs.Common.{◌≡◌, ℕ, Bool, List, Option, Result, ap, subst, ◌∙◌, false}
use Rattle.serde_json.specs.Written.{compact_text}
use Rattle.farm_kinds.specs.declared.outcomes.Answer.{Answer}
use Rattle.farm_kinds.specs.declared.events.Reply.TheVariants as reply
use Rattle.http_door.specs.declared.responses.ResponseFault.{ResponseFault}
use Rattle.http_door.specs.Responses.{response_with, Writes}
use Rattle.farm_api.specs.Conversation.{rows_response}
use Rattle.farm_api.specs.Published.{json_of_rows}

pub rows_written : (closing : Bool) (rows : List Answer) (text : List ℕ) (held held' : Option (List ℕ)) (result : Result (Unit {0}) ResponseFault) → text ≡ compact_text (json_of_rows rows)
    → Writes held held' (response_with closing 200 text) result → Writes held held' (rows_response closing (reply.Board rows)) result
unfolding rows_response
rows_written closing rows text held held' result is w = subst (λ (t : List ℕ). Writes held held' (response_with closing 200 t) result) is w

pub rows_made : (rows : List Answer) (text response : List ℕ) → text ≡ compact_text (json_of_rows rows) → response ≡ response_with false 200 text
    → response ≡ rows_response false (reply.Board rows)
unfolding rows_response
rows_made rows text response is made = made ∙ ap (λ (t : List ℕ). response_with false 200 t) is
