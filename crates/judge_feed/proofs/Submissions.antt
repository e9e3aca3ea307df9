-- No event lessens the submissions.
use Rattle.std.proofs.Common.{◌≡◌, ℕ, ◌≤◌, Bool, true, false, List, [], ◌∷◌, ◌++◌, length, refl, ap, sym, ◌∙◌, arith, le_refl}
use Rattle.std.specs.List.{fold}
use Rattle.std.proofs.lemmas.List.{length-append, length-map}
use Rattle.farm_kinds.specs.declared.events.Event.{Event}
use Rattle.farm_kinds.specs.declared.events.Event.TheVariants as event
use Rattle.farm_model.specs.Numbered.{item_of}
use Rattle.farm_model.specs.declared.records.Submission.{Submission}
use Rattle.farm_model.specs.declared.records.Member.{Member}
use Rattle.farm_model.specs.State.{State, public_answer, public_answers}
use Rattle.farm_model.specs.Rejudgings.{members_in}
use Rattle.farm_model.specs.Changes.{accepted, with_current, make_current}
use Rattle.farm_model.specs.Refusals.{refusal_of}
use Rattle.farm_model.specs.Farm.{farm_step}
use Rattle.farm_laws.proofs.Kept.{changed_same}
use Rattle.farm_laws.proofs.Outcomes.{outcome}
use Rattle.farm_board.specs.BoardState.{BoardState}
use Rattle.farm_board.specs.Histories.{is_no_memory, board_after_call, next_board, board_after}
use Rattle.farm_board.specs.declared.entries.Call.{Call}
use Rattle.farm_board.specs.declared.entries.HistoryEntry.{HistoryEntry}
use Rattle.farm_board.specs.declared.entries.HistoryEntry.TheVariants as entry

-- A list of submissions as long as before

abbrev problem_seen : Submission → ℕ
problem_seen submission = submission.problem

current_length : (submissions : List Submission) (m : Member) → length (with_current submissions m) ≡ length submissions
current_length submissions m =
    sym (length-map (with_current submissions m) problem_seen)
    ∙ ap length (changed_same problem_seen (make_current m.new) (λ submission. refl) submissions m.submission (item_of submissions m.submission) refl)
    ∙ length-map submissions problem_seen

applied_length : (submissions : List Submission) (members : List Member) → length (fold with_current submissions members) ≡ length submissions
applied_length submissions [] = refl
applied_length submissions (m ∷ members) = applied_length (with_current submissions m) members ∙ current_length submissions m

applied_more : (submissions : List Submission) (members : List Member) → length submissions ≤ length (fold with_current submissions members)
applied_more submissions members = omega (arith, applied_length submissions members)

one_more : (submissions : List Submission) (new : Submission) → length submissions ≤ length (submissions ++ new ∷ [])
one_more submissions new = omega (arith, length-append submissions (new ∷ []))

-- Events

abbrev Grows : State → State → Type 0
Grows s t = length s.submissions ≤ length t.submissions

accepted_grows : (s : State) (e : Event) → Grows s (accepted s e).0 → Grows s (farm_step s e).0
accepted_grows s e more = outcome (λ p. Grows s p.0) s (refusal_of s e) (accepted s e) (λ x. le_refl (length s.submissions)) (λ done. more)

same : (s : State) (e : Event) → (accepted s e).0.submissions ≡ s.submissions → Grows s (farm_step s e).0
same s e is = accepted_grows s e (let k = ap length is in omega arith)

step_grows : (s : State) (e : Event) → Grows s (farm_step s e).0
step_grows s (event.Problem who name tests) = same s (event.Problem who name tests) refl
step_grows s (event.Replace who name tests) = same s (event.Replace who name tests) refl
step_grows s (event.Host name) = same s (event.Host name) refl
step_grows s (event.Submit problem class broken) =
    accepted_grows s (event.Submit problem class broken) (one_more s.submissions _)
step_grows s (event.Claim host) = same s (event.Claim host) refl
step_grows s (event.Fetch host most) = same s (event.Fetch host most) refl
step_grows s (event.Result host j t kind) = same s (event.Result host j t kind) refl
step_grows s (event.Entry j t kind) = same s (event.Entry j t kind) refl
step_grows s (event.Renew host j t) = same s (event.Renew host j t) refl
step_grows s (event.Tick moment) = same s (event.Tick moment) refl
step_grows s (event.Down host) = same s (event.Down host) refl
step_grows s (event.Show j) = same s (event.Show j) refl
step_grows s (event.Owner j) = same s (event.Owner j) refl
step_grows s event.Board = same s event.Board refl
step_grows s (event.Rejudge who list) = same s (event.Rejudge who list) refl
step_grows s (event.Matrix r) = same s (event.Matrix r) refl
step_grows s (event.Apply who r) =
    accepted_grows s (event.Apply who r) (applied_more s.submissions (members_in s.rejudgings r))
step_grows s (event.Cancel who r) = same s (event.Cancel who r) refl
step_grows s (event.Verify who j) = same s (event.Verify who j) refl
step_grows s (event.Ask who j) = same s (event.Ask who j) refl
step_grows s event.Audit = same s event.Audit refl

-- Histories

call_grows : (b : Bool) (s : BoardState) (call : Call) → Grows s.state (board_after_call b s call).state
call_grows true s call = le_refl (length s.state.submissions)
call_grows false s call = step_grows s.state call.event

entry_grows : (s : BoardState) (e : HistoryEntry) → Grows s.state (next_board s e).state
entry_grows s (entry.Call call) = call_grows (is_no_memory call.reply) s call
entry_grows s (entry.Split number new) = le_refl (length s.state.submissions)
entry_grows s (entry.Join number old) = le_refl (length s.state.submissions)

after_grows : (s : BoardState) (es : List HistoryEntry) → Grows s.state (board_after s es).state
after_grows s [] = le_refl (length s.state.submissions)
after_grows s (e ∷ es) = let a = entry_grows s e in let b = after_grows (next_board s e) es in omega arith

-- the public sees as many answers as there are submissions
answers_length : (s : State) → length (public_answers s) ≡ length s.submissions
answers_length s = length-map s.submissions (λ submission. public_answer s submission.current)

-- no entries of a history lessen what the public sees
pub answers_grow : (s : BoardState) (es : List HistoryEntry) → length (public_answers s.state) ≤ length (public_answers (board_after s es).state)
answers_grow s es =
    let a = answers_length s.state in let b = answers_length (board_after s es).state in let more = after_grows s es in omega arith
