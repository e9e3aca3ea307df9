-- What the calls of a feed keep.
use Rattle.std.proofs.Common.{◌≡◌, ◌≢◌, ℕ, ◌^◌, ◌≤◌, false, true, List, [], ◌∷◌, ◌++◌, length, refl, ap, sym, ◌∙◌, subst, arith, append_assoc, ⊎_elim}
use Rattle.std.proofs.Math.Logic.{∥∥₁_map, ∥∥₁_elim}
use Rattle.std.specs.Coded.{le_prop}
use Rattle.public_board.specs.Values.{HasPublished}
use Rattle.public_board.specs.Versions.{last_of}
use Rattle.farm_kinds.specs.declared.outcomes.Answer.{Answer}
use Rattle.farm_kinds.specs.declared.events.Event.{Event}
use Rattle.farm_kinds.specs.declared.events.Event.TheVariants as event
use Rattle.farm_kinds.specs.declared.events.Reply.{Reply}
use Rattle.farm_kinds.specs.declared.events.Reply.TheVariants as reply
use Rattle.farm_model.specs.State.{State, public_answers}
use Rattle.farm_model.specs.Farm.{farm_step}
use Rattle.farm_board.specs.BoardState.{BoardState}
use Rattle.farm_board.specs.Histories.{IsLegal, board_after}
use Rattle.farm_board.specs.Passes.{BoardId, PassValue, Calls, call_of}
use Rattle.farm_board.specs.declared.entries.HistoryEntry.{HistoryEntry}
use Rattle.farm_board.specs.declared.entries.HistoryEntry.TheVariants as entry
use Rattle.farm_board.proofs.Histories.{board_after_append, legal_at}
use Rattle.judge_feed.specs.Showing.{Shown, AreShown, is_look, are_looks}
use Rattle.judge_feed.specs.Refreshing.{KeepsPass, KeepsFeed, IsFresh}
use Rattle.judge_feed.proofs.Looks.{call_looks, call_count}
use Rattle.judge_feed.proofs.Showing.{not_nil, shown_more, shown_snoc, last_below}

-- The rows of a call of `Board`

rows_of : (s : State) (rows : List Answer) → reply.Board rows ≡ (farm_step s event.Board).1 → rows ≡ public_answers s
rows_of s rows e = cc e

call_rows : (s : BoardState) (es : List HistoryEntry) (number : ℕ) (rows : List Answer)
    → IsLegal s (es ++ entry.Call (call_of number event.Board (reply.Board rows)) ∷ [])
    → rows ≡ public_answers (board_after s (es ++ entry.Call (call_of number event.Board (reply.Board rows)) ∷ [])).state
call_rows s es number rows legal =
    let e = entry.Call (call_of number event.Board (reply.Board rows)) in
    let next = legal_at s es e [] legal in
    let own : rows ≡ public_answers (board_after s es).state = rows_of (board_after s es).state rows (next.1.answer (λ x. cc x)) in
    own ∙ ap (λ (b : BoardState). public_answers b.state) (sym (board_after_append s es (e ∷ [])))

module _ (start : BoardState) (old new : PassValue) (rows : List Answer) (begins : old.start ≡ start)
    (calls : Calls old new event.Board (reply.Board rows)) where
  abbrev asked : HistoryEntry
  asked = entry.Call (call_of old.number event.Board (reply.Board rows))

  legal_now : IsLegal start new.seen
  legal_now = subst (λ (z : BoardState). IsLegal z new.seen) begins calls.grows.legal

  -- the rows are what the public sees after all that the pass has then seen
  rows_now : rows ≡ public_answers (board_after start new.seen).state
  rows_now =
      call_rows start (old.seen ++ calls.grows.between) old.number rows (subst (λ (zs : List HistoryEntry). IsLegal start zs) calls.grows.seen legal_now)
      ∙ ap (λ (zs : List HistoryEntry). public_answers (board_after start zs).state) (sym calls.grows.seen)

  -- what the pass has then seen shows one version more
  shows_more : (vs : List (List Answer)) → Shown start vs old.seen → Shown start (vs ++ rows ∷ []) new.seen
  shows_more vs h =
      let more : List HistoryEntry = calls.grows.between ++ asked ∷ [] in
      let whole : new.seen ≡ old.seen ++ more = calls.grows.seen ∙ append_assoc old.seen calls.grows.between (asked ∷ []) in
      let later : rows ≡ public_answers (board_after start (old.seen ++ more)).state =
      rows_now ∙ ap (λ (zs : List HistoryEntry). public_answers (board_after start zs).state) whole in
      let some : more ≢ [] = not_nil calls.grows.between (asked ∷ []) (λ x. cc x) in
      subst (λ (zs : List HistoryEntry). Shown start (vs ++ rows ∷ []) zs) (sym whole) (shown_snoc start vs old.seen more rows some later h)

-- what the pass has seen after any call shows what was shown
call_shows : (start : BoardState) (old new : PassValue) (vs : List (List Answer)) (e : Event) (r : Reply)
    → Calls old new e r → Shown start vs old.seen → Shown start vs new.seen
call_shows start old new vs e r calls h =
    let made = entry.Call (call_of old.number e r) in
    subst (λ (zs : List HistoryEntry). Shown start vs zs)
    (sym (calls.grows.seen ∙ append_assoc old.seen calls.grows.between (made ∷ [])))
    (shown_more start vs old.seen (calls.grows.between ++ made ∷ []) h)

-- For the calls of a feed

-- no call at all
pub fresh_passing : (board : BoardId) (start : BoardState) (number : ℕ) (p : PassValue) → IsFresh board start number p → KeepsPass board start number p
fresh_passing board start number p f = record {
  of_board = f.of_board;
  begins = f.begins;
  numbered = f.numbered;
  looks = ap are_looks f.mine;
  count = let none = ap length f.mine in let left = f.left in omega arith;
  turn = f.turn;
}

pub call_passing : (board : BoardId) (start : BoardState) (number : ℕ) (old new : PassValue) (e : Event) (r : Reply) → is_look e ≡ true
    → Calls old new e r → new.kept ≡ false → KeepsPass board start number old → KeepsPass board start number new
call_passing board start number old new e r look calls turn h = record {
  of_board = calls.grows.board ∙ h.of_board;
  begins = calls.grows.start ∙ h.begins;
  numbered = calls.grows.number ∙ h.numbered;
  looks = call_looks old new e r look calls h.looks;
  count = call_count old new e r (2 ^ 60) calls h.count;
  turn = turn;
}

pub call_feed : (board : BoardId) (start : BoardState) (number : ℕ) (vs : List (List Answer)) (old new : PassValue) (e : Event) (r : Reply) → is_look e ≡ true
    → Calls old new e r → new.kept ≡ false → KeepsFeed board start number vs old → KeepsFeed board start number vs new
call_feed board start number vs old new e r look calls turn h = record {
  shown = ∥∥₁_map h.shown (call_shows start old new vs e r calls);
  passing = call_passing board start number old new e r look calls turn h.passing;
}

pub rows_long : (board : BoardId) (start : BoardState) (number : ℕ) (vs : List (List Answer)) (old new : PassValue) (rows : List Answer)
    → KeepsFeed board start number vs old → Calls old new event.Board (reply.Board rows) → length (last_of vs) ≤ length rows
rows_long board start number vs old new rows h calls =
    let begins = h.passing.begins in
    let now = ap length (rows_now start old new rows begins calls) in
    ∥∥₁_elim h.shown le_prop (λ (s : Shown start vs old.seen).
    let below = last_below start vs new.seen (call_shows start old new vs event.Board (reply.Board rows) calls s) in omega arith)

pub rows_allowed : (board : BoardId) (start : BoardState) (number : ℕ) (vs : List (List Answer)) (old new : PassValue) (rows : List Answer)
    → KeepsFeed board start number vs old → Calls old new event.Board (reply.Board rows) → AreShown start (vs ++ rows ∷ [])
rows_allowed board start number vs old new rows h calls =
    let begins = h.passing.begins in
    ∥∥₁_map h.shown (λ (s : Shown start vs old.seen). (new.seen, legal_now start old new rows begins calls, shows_more start old new rows begins calls vs s))

pub published_feed : (board : BoardId) (start : BoardState) (number : ℕ) (vs ws : List (List Answer)) (old new : PassValue) (rows : List Answer)
    → KeepsFeed board start number vs old → Calls old new event.Board (reply.Board rows) → new.kept ≡ false → HasPublished vs ws rows
    → KeepsFeed board start number ws new
published_feed board start number vs ws old new rows h calls turn done =
    let begins = h.passing.begins in record {
      shown = ∥∥₁_map h.shown (λ (s : Shown start vs old.seen). ⊎_elim
          (λ (t : (rows ≡ last_of vs) × (ws ≡ vs)).
          subst (λ (zs : List (List Answer)). Shown start zs new.seen) (sym t.1) (call_shows start old new vs event.Board (reply.Board rows) calls s))
          (λ (t : (rows ≢ last_of vs) × (ws ≡ vs ++ rows ∷ [])).
          subst (λ (zs : List (List Answer)). Shown start zs new.seen) (sym t.1) (shows_more start old new rows begins calls vs s))
          done);
      passing = call_passing board start number old new event.Board (reply.Board rows) refl calls turn h.passing;
    }

-- The first version

pub none_allowed : (start : BoardState) → AreShown start []
none_allowed start = ∣ ([], tt, tt) ∣₁

pub first_allowed : (start : BoardState) (old new : PassValue) (rows : List Answer) → old.start ≡ start
    → Calls old new event.Board (reply.Board rows) → AreShown start (rows ∷ [])
first_allowed start old new rows begins calls =
    ∣ (new.seen, legal_now start old new rows begins calls, shows_more start old new rows begins calls [] tt) ∣₁

pub first_feed : (board : BoardId) (start : BoardState) (number : ℕ) (vs : List (List Answer)) (old new : PassValue) (rows : List Answer)
    → IsFresh board start number old → Calls old new event.Board (reply.Board rows) → new.kept ≡ false → vs ≡ rows ∷ []
    → KeepsFeed board start number vs new
first_feed board start number vs old new rows f calls turn is = record {
  shown = ∣ subst (λ (zs : List (List Answer)). Shown start zs new.seen) (sym is) (shows_more start old new rows f.begins calls [] tt) ∣₁;
  passing = call_passing board start number old new event.Board (reply.Board rows) refl calls turn (fresh_passing board start number old f);
}
