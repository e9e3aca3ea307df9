-- The opening pass enters events while no other pass is out.
use Rattle.std.proofs.Common.{◌≡◌, ◌≢◌, ℕ, Bool, false, List, [], ◌∷◌, ◌++◌, eqb, refl, sym, ap, ◌∙◌, subst, arith}
use Rattle.std.specs.Prelude.{if◌then◌else◌}
use Rattle.std.proofs.lemmas.List.{append-nil, map-append}
use Rattle.farm_kinds.specs.declared.events.Event.{Event}
use Rattle.farm_kinds.specs.declared.events.Reply.{Reply}
use Rattle.farm_kinds.specs.declared.events.Reply.TheVariants as reply
use Rattle.farm_model.specs.Replay.{state_after}
use Rattle.farm_board.specs.BoardState.{BoardState}
use Rattle.farm_board.specs.Histories.{is_no_memory, IsAlone, is_in, board_after_call, next_board, board_after, IsLegal, entries_by}
use Rattle.farm_board.specs.Passes.{PassValue, Calls, call_of}
use Rattle.farm_board.specs.declared.entries.Call.{Call}
use Rattle.farm_board.specs.declared.entries.HistoryEntry.{HistoryEntry}
use Rattle.farm_board.specs.declared.entries.HistoryEntry.TheVariants as entry
use Rattle.farm_board.proofs.Numbers.{in_single, in_here}
use Rattle.farm_board.proofs.Histories.{after_call_out, entries_mine, nothing_since, legal_prefix}
use Rattle.parallel_judge.specs.Journal.{events_in, AreCallers}
use Rattle.parallel_judge.specs.Hosts.{as_entries, AreEffective, HasEntered}

-- ---- lists

-- a list without its last item
abbrev without_last : {X : Type 0} → List X → List X
without_last [] = []
without_last (x ∷ []) = []
without_last (x ∷ y ∷ xs) = x ∷ without_last (y ∷ xs)

prefix_of : {X : Type 0} (xs : List X) (x : X) → without_last (xs ++ x ∷ []) ≡ xs
prefix_of [] x = refl
prefix_of (y ∷ []) x = refl
prefix_of (y ∷ z ∷ xs) x = ap (λ rest. y ∷ rest) (prefix_of (z ∷ xs) x)

pub same_prefix : {X : Type 0} (xs ys : List X) (x y : X) → xs ++ x ∷ [] ≡ ys ++ y ∷ [] → xs ≡ ys
same_prefix xs ys x y e = sym (prefix_of xs x) ∙ ap without_last e ∙ prefix_of ys y

-- ---- calls alone

pub calls_out : (s : BoardState) (calls : List Call) → (board_after s (as_entries calls)).out ≡ s.out
calls_out s [] = refl
calls_out s (call ∷ calls) = calls_out (next_board s (entry.Call call)) calls ∙ after_call_out (is_no_memory call.reply) s call

pub not_no_memory : (r : Reply) → r ≢ reply.NoMemory → is_no_memory r ≡ false
not_no_memory reply.NoMemory other = absurd (other refl)
not_no_memory r other = refl

pub calls_state : (s : BoardState) (calls : List Call) → AreEffective calls → (board_after s (as_entries calls)).state ≡ state_after s.state (events_in calls)
calls_state s [] h = refl
calls_state s (call ∷ calls) h =
    calls_state (next_board s (entry.Call call)) calls h.1
    ∙ ap (λ (b : Bool). state_after (board_after_call b s call).state (events_in calls)) (not_no_memory call.reply h.0)

pub own_calls : (calls : List Call) → AreCallers calls → entries_by 0 (as_entries calls) ≡ as_entries calls
own_calls [] h = refl
own_calls (call ∷ calls) h =
    ap (λ (n : ℕ). if eqb n 0 then entry.Call call ∷ entries_by 0 (as_entries calls) else entries_by 0 (as_entries calls)) h.0
    ∙ ap (λ (es : List HistoryEntry). entry.Call call ∷ es) (own_calls calls h.1)

pub callers_more : (calls : List Call) (call : Call) → AreCallers calls → call.number ≡ 0 → AreCallers (calls ++ call ∷ [])
callers_more [] call h e = (e, tt)
callers_more (c ∷ calls) call h e = (h.0, callers_more calls call h.1 e)

effective_more : (calls : List Call) (call : Call) → AreEffective calls → call.reply ≢ reply.NoMemory → AreEffective (calls ++ call ∷ [])
effective_more [] call h e = (e, tt)
effective_more (c ∷ calls) call h e = (h.0, effective_more calls call h.1 e)

pub alone_at : (s : BoardState) (calls : List Call) → s.out ≡ 0 ∷ [] → IsAlone 0 (board_after s (as_entries calls))
alone_at s calls out m is = in_single 0 m (0 ∷ []) (omega arith) (in_here 0 []) (ap (λ (xs : List ℕ). is_in m xs) (sym (calls_out s calls ∙ out)) ∙ is)

-- one event more was entered
pub enters_one : (start : BoardState) (events : List Event) (old new : PassValue) (e : Event) (r : Reply) → start.out ≡ 0 ∷ []
    → HasEntered start events old → Calls old new e r → r ≢ reply.NoMemory → HasEntered start (events ++ e ∷ []) new
enters_one start events old new e r out h calls some =
    let g = calls.grows in
    let call = call_of old.number e r in
    let one : List HistoryEntry = entry.Call call ∷ [] in
    let mine = as_entries h.calls in
    let own_old : entries_by 0 old.seen ≡ mine = ap (λ (es : List HistoryEntry). entries_by 0 es) h.seen ∙ own_calls h.calls h.callers in
    let own_new : entries_by 0 new.seen ≡ mine ++ one =
    ap (λ (n : ℕ). entries_by n new.seen) (sym h.number) ∙ g.own ∙ g.mine ∙ ap (λ (es : List HistoryEntry). es ++ one) h.mine in
    let ends : entries_by 0 (old.seen ++ g.between) ++ one ≡ mine ++ one =
    sym (entries_mine 0 (old.seen ++ g.between) (entry.Call call) h.number) ∙ ap (λ (es : List HistoryEntry). entries_by 0 es) (sym g.seen) ∙ own_new in
    let same : entries_by 0 (old.seen ++ g.between) ≡ entries_by 0 old.seen = same_prefix (entries_by 0 (old.seen ++ g.between)) mine (entry.Call call) (entry.Call call) ends ∙ sym own_old in
    let whole : IsLegal start ((old.seen ++ g.between) ++ one) = subst (λ (es : List HistoryEntry). IsLegal start es) g.seen (subst (λ (s : BoardState). IsLegal s new.seen) h.begins g.legal) in
    let prefix : IsLegal start (old.seen ++ g.between) = legal_prefix start (old.seen ++ g.between) one whole in
    let alone : IsAlone 0 (board_after start old.seen) = subst (λ (es : List HistoryEntry). IsAlone 0 (board_after start es)) (sym h.seen) (alone_at start h.calls out) in
    let none : g.between ≡ [] = nothing_since start 0 old.seen g.between prefix alone same in
    let seen : new.seen ≡ mine ++ one =
    g.seen ∙ ap (λ (es : List HistoryEntry). (old.seen ++ es) ++ one) none ∙ ap (λ (es : List HistoryEntry). es ++ one) (append-nil old.seen ∙ h.seen) in
    let as_one : mine ++ one ≡ as_entries (h.calls ++ call ∷ []) = sym (map-append (λ (c : Call). entry.Call c) h.calls (call ∷ [])) in
    record {
      calls = h.calls ++ call ∷ [];
      events_are = map-append (λ (c : Call). c.event) h.calls (call ∷ []) ∙ ap (λ (es : List Event). es ++ e ∷ []) h.events_are;
      seen = seen ∙ as_one;
      mine = g.mine ∙ ap (λ (es : List HistoryEntry). es ++ one) h.mine ∙ as_one;
      callers = callers_more h.calls call h.callers h.number;
      effective = effective_more h.calls call h.effective some;
      legal = subst (λ (es : List HistoryEntry). IsLegal start es) (sym g.seen ∙ seen ∙ as_one) whole;
      number = g.number ∙ h.number;
      begins = g.start ∙ h.begins;
    }

pub nothing_entered : (start : BoardState) (pass : PassValue) → pass.seen ≡ [] → pass.mine ≡ [] → pass.number ≡ 0 → pass.start ≡ start → HasEntered start [] pass
nothing_entered start pass seen mine number begins = record {
  calls = [];
  events_are = refl;
  seen = seen;
  mine = mine;
  callers = tt;
  effective = tt;
  legal = tt;
  number = number;
  begins = begins;
}

-- the farm then
pub entered_state : (start : BoardState) (events : List Event) (pass : PassValue) → (h : HasEntered start events pass)
    → (board_after start (as_entries h.calls)).state ≡ state_after start.state events
entered_state start events pass h = calls_state start h.calls h.effective ∙ ap (state_after start.state) h.events_are
