-- The calls of a legal history have the replies of the farm.
use Rattle.std.proofs.Common.{◌≡◌, ◌≢◌, Bool, true, false, List, [], ◌∷◌, refl, sym, ap, ◌∙◌}
use Rattle.farm_kinds.specs.declared.events.Reply.{Reply}
use Rattle.farm_kinds.specs.declared.events.Reply.TheVariants as reply
use Rattle.farm_model.specs.Replay.{state_after}
use Rattle.farm_board.specs.BoardState.{BoardState}
use Rattle.farm_board.specs.Histories.{is_no_memory, IsReply, board_after_call, next_board, board_after, IsLegal, call_unless, effective_calls}
use Rattle.farm_board.specs.declared.entries.Call.{Call}
use Rattle.farm_board.specs.declared.entries.HistoryEntry.{HistoryEntry}
use Rattle.farm_board.specs.declared.entries.HistoryEntry.TheVariants as entry
use Rattle.parallel_judge.specs.Journal.{events_in, AreAnswered}

is_some_reply : (r : Reply) → is_no_memory r ≡ false → r ≢ reply.NoMemory
is_some_reply r e is = let no : true ≡ false = sym (ap is_no_memory is) ∙ e in cc

abbrev Answers : BoardState → List HistoryEntry → Type 0
Answers s es = AreAnswered s.state (effective_calls es) × ((board_after s es).state ≡ state_after s.state (events_in (effective_calls es)))

call_answers : (s : BoardState) (call : Call) (es : List HistoryEntry) (b : Bool) → is_no_memory call.reply ≡ b → IsReply s call.event call.reply
    → Answers (board_after_call b s call) es
    → AreAnswered s.state (call_unless b call (effective_calls es)) × ((board_after (board_after_call b s call) es).state ≡ state_after s.state (events_in (call_unless b call (effective_calls es))))
call_answers s call es true e is rest = rest
call_answers s call es false e is rest = ((is.answer (is_some_reply call.reply e), rest.0), rest.1)

-- each reply is the farm's, and the farm stands after the calls
pub legal_answers : (s : BoardState) (es : List HistoryEntry) → IsLegal s es → Answers s es
legal_answers s [] h = (tt, refl)
legal_answers s (entry.Call call ∷ es) h = call_answers s call es (is_no_memory call.reply) refl h.0.1 (legal_answers (next_board s (entry.Call call)) es h.1)
legal_answers s (entry.Split number new ∷ es) h = legal_answers (next_board s (entry.Split number new)) es h.1
legal_answers s (entry.Join number old ∷ es) h = legal_answers (next_board s (entry.Join number old)) es h.1
