-- What a whole turn does to a pass.
use Rattle.std.proofs.Common.{◌≡◌, ℕ, ◌+◌, ◌-◌, ◌<◌, ◌≤◌, Bool, true, false, List, [], ◌∷◌, ◌++◌, length, refl, ap, sym, ◌∙◌, subst, inl, inr, arith}
use Rattle.std.specs.Prelude.{Option, Some, None}
use Rattle.farm_board.specs.BoardState.{BoardState}
use Rattle.farm_board.specs.Histories.{board_after, next_board, IsNext, IsOut, IsReply, entries_by, pass_number}
use Rattle.farm_board.specs.Views.{with_ticket, with_turn, with_coming, with_entry, with_kept_ticket, without_ticket, to_give_after, split_left, split_right, joined_view, Suits, IsFree, IsKeeping, IsBetween}
use Rattle.farm_board.specs.Steps.{KnowsHistory, GetsTurn, InTurn, view_after_turn, EndsTurn, KeepsTurn}
use Rattle.atomic_table.specs.Table.{Me}
use Rattle.farm_board.specs.Passes.{BoardId, pass_of, GrowsBy, IsSoundView, IsGiving, call_of, Calls, SplitsOff, TakesIn}
use Rattle.farm_kinds.specs.declared.events.Event.{Event}
use Rattle.farm_kinds.specs.declared.events.Reply.{Reply}
use Rattle.farm_board.specs.declared.entries.Call.{Call}
use Rattle.farm_board.specs.declared.entries.HistoryEntry.TheVariants as entry
use Rattle.farm_board.specs.declared.entries.HistoryEntry.{HistoryEntry}
use Rattle.farm_board.specs.declared.view.View.{View}
use Rattle.farm_board.proofs.Histories.{board_after_snoc, board_after_seats, legal_snoc, entries_mine, entries_other, out_next_board, room_next_board}
use Rattle.farm_board.proofs.Turns.{stays_apart, gift_out}

abbrev pub first_slot : {S : Type 0} → List (ℕ × Option S) → Option S
first_slot [] = None
first_slot (x ∷ xs) = x.1

knows_before : (v : View) (k : ℕ) (history : List HistoryEntry) → KnowsHistory (with_ticket v k) history → KnowsHistory v history
knows_before v k history t = record { longer = t.longer; legal = t.legal; mine = t.mine; taken_in = t.taken_in; out = t.out; room = t.room; few = t.few; small = t.small; given = t.given; fresh = t.fresh }

pub in_turn : {S : Type 0} (state_of : S → BoardState) (v w : View) (m m' : Me (Option S) View) (k : ℕ) (held : S) → m.0 ≡ with_ticket v k → (t : GetsTurn state_of m m') → w ≡ m'.0 → t.held ≡ held → InTurn v w (state_of held)
in_turn state_of v w m m' k held m_is t w_is held_is = record {
  ticket = k;
  history = t.history;
  view = w_is ∙ (t.view ∙ ap (λ (z : View). with_turn z t.history) m_is);
  board = ap state_of (sym held_is) ∙ (t.now ∙ ap (λ (z : View). board_after z.start.value t.history) m_is);
  bound = subst (λ (z : View). z.left < 4611686018427387904) (sym (w_is ∙ t.view)) t.bound;
  knows = knows_before v k t.history (subst (λ (z : View). KnowsHistory z t.history) m_is t.knows);
}

-- in its turn the board is the one after what the pass has seen
pub now_is : (v w : View) (now : BoardState) → InTurn v w now → now ≡ board_after w.start.value w.seen
now_is v w now t = t.board ∙ ap (λ (z : View). board_after z.start.value z.seen) (sym t.view)

-- with the entry to come, the board is the one after the history and this entry
pub then_is : (v w x : View) (now then : BoardState) (e : HistoryEntry) → InTurn v w now → then ≡ next_board now e → x ≡ with_coming w e → then ≡ board_after x.start.value (x.seen ++ e ∷ [])
then_is v w x now then e t is x_is =
    is ∙ (ap (λ (z : BoardState). next_board z e) (now_is v w now t) ∙ (sym (board_after_snoc w.start.value w.seen e) ∙ ap (λ (z : View). board_after z.start.value (z.seen ++ e ∷ [])) (sym x_is)))

pub view_after_turn_is : (v w x y : View) (now : BoardState) (e : HistoryEntry) → (t : InTurn v w now) → x ≡ with_coming w e → y ≡ with_entry x e → y ≡ view_after_turn v t.ticket t.history e
view_after_turn_is v w x y now e t x_is y_is = y_is ∙ (ap (λ (z : View). with_entry z e) x_is ∙ ap (λ (z : View). with_entry (with_coming z e) e) t.view)

pub grows : {board board' : BoardId} → board' ≡ board → (v : View) (k : ℕ) (history : List HistoryEntry) (e : HistoryEntry) → KnowsHistory v history → IsNext (board_after v.start.value history) e → pass_number e ≡ v.number → GrowsBy (pass_of board v) (pass_of board' (view_after_turn v k history e)) e
grows {board} {board'} same_board v k history e t next own = record {
  between = t.longer.0;
  seen = ap (λ (z : List HistoryEntry). z ++ e ∷ []) (sym t.longer.1);
  legal = legal_snoc v.start.value history e t.legal next;
  mine = refl;
  own = entries_mine v.number history e own ∙ ap (λ (z : List HistoryEntry). z ++ e ∷ []) t.mine;
  board = same_board;
  number = refl;
  start = refl;
}

pub keeps : (v : View) (k : ℕ) (history : List HistoryEntry) (e : HistoryEntry) → KnowsHistory v history → IsNext (board_after v.start.value history) e → pass_number e ≡ v.number → Suits e v → v.left - 1 ≤ 4611686018427387904 → IsSoundView (view_after_turn v k history e)
keeps v k history e t next own suits few =
    let now = board_after v.start.value history in
    let is : board_after v.start.value (history ++ e ∷ []) ≡ next_board now e = board_after_snoc v.start.value history e in
    let seats = board_after_seats v.start.value history in
    let before = t.room in
    let room = room_next_board now e v 0 next suits (omega arith) in
    let out_is : length (board_after v.start.value (history ++ e ∷ [])).out ≡ length (next_board now e).out = ap (λ (z : BoardState). length z.out) is in record {
      own = entries_mine v.number history e own ∙ ap (λ (z : List HistoryEntry). z ++ e ∷ []) t.mine;
      out = subst (λ (z : BoardState). IsOut v.number z) (sym is) (out_next_board now e v.number (t.out v.number (inl refl)) (stays_apart e v v.number suits (λ m m_is same. (t.taken_in m m_is).1 (sym same))));
      room = omega arith;
      small = t.small;
      few = few;
    }

-- A call

pub next_call : (v w : View) (now : BoardState) (n : ℕ) (event : Event) (reply : Reply) → (t : InTurn v w now) → n ≡ v.number → IsReply now event reply → IsNext (board_after v.start.value t.history) (entry.Call (call_of n event reply))
next_call v w now n event reply t same is = (t.knows.out n (inl same), subst (λ (z : BoardState). IsReply z event reply) t.board is)

pub calls : {board board' : BoardId} → board' ≡ board → (v y : View) (k : ℕ) (history : List HistoryEntry) (n : ℕ) (event : Event) (reply : Reply) → n ≡ v.number → y ≡ view_after_turn v k history (entry.Call (call_of n event reply)) → KnowsHistory v history
    → IsNext (board_after v.start.value history) (entry.Call (call_of n event reply)) → 0 < v.left → Calls (pass_of board v) (pass_of board' y) event reply
calls {board} {board'} same_board v y k history n event reply same y_is t next some_left =
    let e : HistoryEntry = entry.Call (call_of v.number event reply) in
    subst (λ (z : View). Calls (pass_of board v) (pass_of board' z) event reply) (sym (y_is ∙ ap (λ (m : ℕ). view_after_turn v k history (entry.Call (call_of m event reply))) same)) record {
      grows = grows same_board v k history e t (subst (λ (m : ℕ). IsNext (board_after v.start.value history) (entry.Call (call_of m event reply))) same next) refl;
      left = omega arith;
      spare = refl;
    }

pub free_after : (v y : View) (k : ℕ) (history : List HistoryEntry) (e : HistoryEntry) → y ≡ view_after_turn v k history e → v.ended ≡ false → to_give_after e ≡ None → IsFree y
free_after v y k history e y_is live no_gift = subst (λ (z : View). IsFree z) (sym y_is) record {
  resting = record { ticket = refl; turn = refl; kept = refl; coming = refl; live = live };
  to_give = no_gift;
  taken_in = refl;
}

pub keeps_after : (v y : View) (k : ℕ) (history : List HistoryEntry) (e : HistoryEntry) → y ≡ view_after_turn v k history e → KnowsHistory v history → IsNext (board_after v.start.value history) e → pass_number e ≡ v.number → Suits e v → y.left < 4611686018427387904 → IsSoundView y
keeps_after v y k history e y_is t next own suits bound =
    let few : v.left - 1 < 4611686018427387904 = subst (λ (z : View). z.left < 4611686018427387904) y_is bound in
    subst (λ (z : View). IsSoundView z) (sym y_is) (keeps v k history e t next own suits (omega arith))

-- A split

pub next_split : (v w : View) (now : BoardState) (n new : ℕ) → (t : InTurn v w now) → n ≡ v.number → 0 < v.spare → new ≡ now.given + 1 → IsNext (board_after v.start.value t.history) (entry.Split n new)
next_split v w now n new t same some_spare is =
    let room = t.knows.room in
    let seats = board_after_seats v.start.value t.history in
    (t.knows.out n (inl same), omega arith, is ∙ ap (λ (z : BoardState). z.given + 1) t.board)

pub room_for : (v w : View) (now : BoardState) → InTurn v w now → 0 < v.spare → length now.out < now.seats
room_for v w now t some_spare =
    let room = t.knows.room in
    let seats = board_after_seats v.start.value t.history in
    let out = ap (λ (z : BoardState). length z.out) t.board in
    let same = ap (λ (z : BoardState). z.seats) t.board in omega arith

pub few_given : (v w : View) (now : BoardState) → InTurn v w now → now.given ≤ 4611686018427387904
few_given v w now t = let few = t.knows.few in let same = ap (λ (z : BoardState). z.given) t.board in omega arith

pub gives : (v y : View) (k : ℕ) (history : List HistoryEntry) (n new : ℕ) → y ≡ view_after_turn v k history (entry.Split n new) → v.ended ≡ false → IsGiving new y
gives v y k history n new y_is live = subst (λ (z : View). IsGiving new z) (sym y_is) record {
  resting = record { ticket = refl; turn = refl; kept = refl; coming = refl; live = live };
  to_give = refl;
  taken_in = refl;
}

abbrev left_of : View → ℕ → List HistoryEntry → ℕ → ℕ → ℕ → View
left_of v k history n new share = split_left share (view_after_turn v k history (entry.Split n new))

abbrev right_of : View → ℕ → List HistoryEntry → ℕ → ℕ → ℕ → View
right_of v k history n new share = split_right share (view_after_turn v k history (entry.Split n new))

pub splits_off : {board board' other_board : BoardId} → board' ≡ board → other_board ≡ board → (v y : View) (k : ℕ) (history : List HistoryEntry) (n new share : ℕ) → n ≡ v.number → y ≡ view_after_turn v k history (entry.Split n new) → KnowsHistory v history
    → IsNext (board_after v.start.value history) (entry.Split n new) → share < v.left → 0 < v.spare → SplitsOff (pass_of board v) (pass_of board' (split_left share y)) (pass_of other_board (split_right share y)) share
splits_off {board} {board'} {other_board} same_board same_other v y k history n new share same y_is t next some_left some_spare =
    let e : HistoryEntry = entry.Split v.number new in
    let g = grows same_board v k history e t (subst (λ (m : ℕ). IsNext (board_after v.start.value history) (entry.Split m new)) same next) refl in
    subst (λ (z : View). SplitsOff (pass_of board v) (pass_of board' (split_left share z)) (pass_of other_board (split_right share z)) share) (sym (y_is ∙ ap (λ (m : ℕ). view_after_turn v k history (entry.Split m new)) same)) record {
      grows = record { between = g.between; seen = g.seen; legal = g.legal; mine = g.mine; own = g.own; board = g.board; number = g.number; start = g.start };
      left = omega arith;
      spare = omega arith;
      other_board = same_other;
      other_start = refl;
      other_seen = refl;
      other_mine = refl;
      other_spare = refl;
      other_left = refl;
    }

pub free_left : (y : View) (new share : ℕ) → IsGiving new y → IsFree (split_left share y)
free_left y new share g = record { resting = record { ticket = g.resting.ticket; turn = g.resting.turn; kept = g.resting.kept; coming = g.resting.coming; live = g.resting.live }; to_give = refl; taken_in = g.taken_in }

pub free_right : (y : View) (new share : ℕ) → IsGiving new y → IsFree (split_right share y)
free_right y new share g = record { resting = record { ticket = g.resting.ticket; turn = g.resting.turn; kept = g.resting.kept; coming = g.resting.coming; live = g.resting.live }; to_give = refl; taken_in = g.taken_in }

pub keeps_left : (y : View) (share : ℕ) → IsSoundView y → IsSoundView (split_left share y)
keeps_left y share q = let few = q.few in record { own = q.own; out = q.out; room = q.room; small = q.small; few = omega arith }

pub keeps_right : (v y : View) (k : ℕ) (history : List HistoryEntry) (n new share : ℕ) → n ≡ v.number → y ≡ view_after_turn v k history (entry.Split n new) → KnowsHistory v history → IsNext (board_after v.start.value history) (entry.Split n new) → IsSoundView y → share ≤ y.left → IsSoundView (split_right share y)
keeps_right v y k history n new share same y_is t next q part =
    let e : HistoryEntry = entry.Split n new in
    let s = v.start.value in
    let is_new : new ≡ (board_after s history).given + 1 = next.2 in
    let below = t.given n next.0 in
    let more : entries_by new (history ++ e ∷ []) ≡ entries_by new history = entries_other new history e (λ is. absurd (omega arith)) in
    let none : entries_by new history ≡ [] = ap (λ (m : ℕ). entries_by m history) is_new ∙ t.fresh in
    let room : length (board_after s (history ++ e ∷ [])).out + (v.spare - 1) ≤ s.seats = subst (λ (z : View). length (board_after z.start.value z.seen).out + z.spare ≤ z.start.value.seats) y_is q.room in
    subst (λ (z : View). IsSoundView (split_right share z)) (sym y_is) record {
      own = more ∙ none;
      out = subst (λ (z : BoardState). IsOut new z) (sym (board_after_snoc s history e)) (gift_out (board_after s history) e new refl);
      room = omega arith;
      small = t.small;
      few = (let few = q.few in omega arith);
    }

-- A join

pub next_join : (v from w : View) (now : BoardState) (n old : ℕ) → (t : InTurn (joined_view v from) w now) → n ≡ v.number → old ≡ from.number → IsNext (board_after v.start.value t.history) (entry.Join n old)
next_join v from w now n old t same same_old =
    let q = t.knows.taken_in from.number refl in
    (t.knows.out n (inl same), t.knows.out old (inr (inr (ap Some (sym same_old)))), λ is. q.1 (sym same_old ∙ (is ∙ same)))

pub takes_in : {board board' other_board : BoardId} → board' ≡ board → (v from y : View) (k : ℕ) (history : List HistoryEntry) (n old : ℕ) → n ≡ v.number → old ≡ from.number → y ≡ view_after_turn (joined_view v from) k history (entry.Join n old) → KnowsHistory (joined_view v from) history
    → IsNext (board_after v.start.value history) (entry.Join n old) → 0 < v.left + from.left → TakesIn (pass_of board v) (pass_of other_board from) (pass_of board' y)
takes_in {board} {board'} {other_board} same_board v from y k history n old same same_old y_is t next some_left =
    let b : View = joined_view v from in
    let e : HistoryEntry = entry.Join v.number from.number in
    let next' : IsNext (board_after v.start.value history) e = subst (λ (m : ℕ × ℕ). IsNext (board_after v.start.value history) (entry.Join m.0 m.1)) (λ i. (same i, same_old i)) next in
    let g = grows same_board b k history e t next' refl in
    let q = t.taken_in from.number refl in
    subst (λ (z : View). TakesIn (pass_of board v) (pass_of other_board from) (pass_of board' z)) (sym (y_is ∙ ap (λ (m : ℕ × ℕ). view_after_turn b k history (entry.Join m.0 m.1)) (λ i. (same i, same_old i)))) record {
      before = history;
      seen = refl;
      begins = q.4;
      other_begins = q.3;
      legal = g.legal;
      mine = refl;
      own = g.own;
      other_own = entries_other from.number history e (λ is. q.1 (sym is)) ∙ q.0;
      left = omega arith;
      spare = refl;
      board = same_board;
      number = refl;
      start = refl;
    }

-- The end of a turn

pub ends_turn : {S : Type 0} (v w : View) (now : BoardState) (e : HistoryEntry) (m m' : Me (Option S) View) → (t : InTurn v w now) → m.0 ≡ with_coming w e → ((x : HistoryEntry) → m.0.coming ≡ Some x → m' ≡ (with_entry m.0 x, []))
    → IsNext (board_after v.start.value t.history) e → EndsTurn v m'.0 e
ends_turn {S} v w now e m m' t marked end next = record {
  ticket = t.ticket;
  history = t.history;
  view = view_after_turn_is v w m.0 m'.0 now e t marked (ap (λ (z : Me (Option S) View). z.0) (end e (ap (λ (z : View). z.coming) marked)));
  knows = t.knows;
  next = next;
  bound = subst (λ (z : View). z.left < 4611686018427387904) (sym (ap (λ (z : Me (Option S) View). z.0) (end e (ap (λ (z : View). z.coming) marked)) ∙ ap (λ (z : View). with_entry z e) marked)) t.bound;
}

pub empty_after_turn : {S : Type 0} (v : View) (e : HistoryEntry) (m m' : Me (Option S) View) → m.0 ≡ with_coming v e → ((x : HistoryEntry) → m.0.coming ≡ Some x → m' ≡ (with_entry m.0 x, [])) → m'.1 ≡ []
empty_after_turn {S} v e m m' marked end = ap (λ (z : Me (Option S) View). z.1) (end e (ap (λ (z : View). z.coming) marked))

pub free_after_turn : {v y : View} {e : HistoryEntry} → EndsTurn v y e → v.ended ≡ false → to_give_after e ≡ None → IsFree y
free_after_turn {v} {y} {e} z live no_gift = free_after v y z.ticket z.history e z.view live no_gift

pub keeps_after_turn : {v y : View} {e : HistoryEntry} → EndsTurn v y e → pass_number e ≡ v.number → Suits e v → IsSoundView y
keeps_after_turn {v} {y} {e} z own suits = keeps_after v y z.ticket z.history e z.view z.knows z.next own suits z.bound

pub calls_after_turn : {board board' : BoardId} → board' ≡ board → {v y : View} {n : ℕ} {event : Event} {reply : Reply} → EndsTurn v y (entry.Call (call_of n event reply)) → n ≡ v.number → 0 < v.left → Calls (pass_of board v) (pass_of board' y) event reply
calls_after_turn same_board {v} {y} {n} {event} {reply} z same some_left = calls same_board v y z.ticket z.history n event reply same z.view z.knows z.next some_left

pub gives_after_turn : {v y : View} {n new : ℕ} → EndsTurn v y (entry.Split n new) → v.ended ≡ false → IsGiving new y
gives_after_turn {v} {y} {n} {new} z live = gives v y z.ticket z.history n new z.view live

pub left_after_turn : {v y : View} {n new : ℕ} → EndsTurn v y (entry.Split n new) → 0 < v.left → y.left + 1 ≡ v.left
left_after_turn {v} {y} {n} {new} z some_left = subst (λ (u : View). u.left + 1 ≡ v.left) (sym z.view) (omega arith)

pub splits_after_turn : {board board' other_board : BoardId} → board' ≡ board → other_board ≡ board → {v y : View} {n new : ℕ} → (share : ℕ) → EndsTurn v y (entry.Split n new) → n ≡ v.number → share < v.left → 0 < v.spare → SplitsOff (pass_of board v) (pass_of board' (split_left share y)) (pass_of other_board (split_right share y)) share
splits_after_turn same_board same_other {v} {y} {n} {new} share z same some_left some_spare = splits_off same_board same_other v y z.ticket z.history n new share same z.view z.knows z.next some_left some_spare

pub keeps_right_after_turn : {v y : View} {n new : ℕ} → (share : ℕ) → EndsTurn v y (entry.Split n new) → n ≡ v.number → IsSoundView y → share ≤ y.left → IsSoundView (split_right share y)
keeps_right_after_turn {v} {y} {n} {new} share z same q part = keeps_right v y z.ticket z.history n new share same z.view z.knows z.next q part

pub takes_after_turn : {board board' other_board : BoardId} → board' ≡ board → (v from : View) {y : View} {n old : ℕ} → EndsTurn (joined_view v from) y (entry.Join n old) → n ≡ v.number → old ≡ from.number → 0 < v.left + from.left → TakesIn (pass_of board v) (pass_of other_board from) (pass_of board' y)
takes_after_turn same_board v from {y} {n} {old} z same same_old some_left = takes_in same_board v from y z.ticket z.history n old same same_old z.view z.knows z.next some_left

-- what may come next may come next where the pass has its turn
pub next_there : (v w : View) (now : BoardState) (e : HistoryEntry) → (t : InTurn v w now) → IsNext (board_after v.start.value t.history) e → IsNext (board_after w.start.value w.seen) e
next_there v w now e t next = subst (λ (z : View). IsNext (board_after z.start.value z.seen) e) (sym t.view) next

-- A call that keeps its ticket

pub keeps_turn : {S : Type 0} (v w : View) (now : BoardState) (e : HistoryEntry) (m m' : Me (Option S) View) → (t : InTurn v w now) → m.0 ≡ with_coming w e → ((x : HistoryEntry) → m.0.coming ≡ Some x → m' ≡ (with_kept_ticket m.0 x, []))
    → IsNext (board_after v.start.value t.history) e → KeepsTurn v m'.0 e
keeps_turn {S} v w now e m m' t marked end next =
    let is : m'.0 ≡ with_kept_ticket m.0 e = ap (λ (z : Me (Option S) View). z.0) (end e (ap (λ (z : View). z.coming) marked)) in
    let of_turn : m'.0 ≡ with_kept_ticket (with_coming w e) e = is ∙ ap (λ (z : View). with_kept_ticket z e) marked in record {
      ticket = t.ticket;
      history = t.history;
      view = of_turn ∙ ap (λ (z : View). with_kept_ticket (with_coming z e) e) t.view;
      knows = t.knows;
      next = next;
      bound = subst (λ (z : View). z.left < 4611686018427387904) (sym of_turn) t.bound;
    }

-- but for the ticket, it leaves what a call leaves that ends its turn
as_if_ended : {v w : View} {e : HistoryEntry} → (z : KeepsTurn v w e) → EndsTurn v (view_after_turn v z.ticket z.history e) e
as_if_ended {v} {w} {e} z = record {
  ticket = z.ticket;
  history = z.history;
  view = refl;
  knows = z.knows;
  next = z.next;
  bound = subst (λ (u : View). u.left < 4611686018427387904) z.view z.bound;
}

pub keeping_after_call : {v y : View} {call : Call} → KeepsTurn v y (entry.Call call) → v.ended ≡ false → IsKeeping y
keeping_after_call {v} {y} {call} z live = subst (λ (u : View). IsKeeping u) (sym z.view) record { turn = refl; kept = refl; coming = refl; live = live; to_give = refl; taken_in = refl }

pub calls_after_kept : {board board' : BoardId} → board' ≡ board → {v y : View} {n : ℕ} {event : Event} {reply : Reply} → KeepsTurn v y (entry.Call (call_of n event reply)) → n ≡ v.number → 0 < v.left → Calls (pass_of board v) (pass_of board' y) event reply
calls_after_kept {board} {board'} same_board {v} {y} {n} {event} {reply} z same some_left =
    let q = calls_after_turn same_board (as_if_ended z) same some_left in
    let g = q.grows in
    subst (λ (u : View). Calls (pass_of board v) (pass_of board' u) event reply) (sym z.view) record {
      grows = record { between = g.between; seen = g.seen; legal = g.legal; mine = g.mine; own = g.own; board = g.board; number = g.number; start = g.start };
      left = q.left;
      spare = q.spare;
    }

pub sound_after_kept : {v y : View} {e : HistoryEntry} → KeepsTurn v y e → pass_number e ≡ v.number → Suits e v → IsSoundView y
sound_after_kept {v} {y} {e} z own suits =
    let q = keeps_after_turn (as_if_ended z) own suits in
    subst (λ (u : View). IsSoundView u) (sym z.view) record { own = q.own; out = q.out; room = q.room; small = q.small; few = q.few }

pub empty_after_kept : {S : Type 0} (v : View) (e : HistoryEntry) (m m' : Me (Option S) View) → m.0 ≡ with_coming v e → ((x : HistoryEntry) → m.0.coming ≡ Some x → m' ≡ (with_kept_ticket m.0 x, [])) → m'.1 ≡ []
empty_after_kept {S} v e m m' marked end = ap (λ (z : Me (Option S) View). z.1) (end e (ap (λ (z : View). z.coming) marked))

-- Between two calls

pub live_between : (kept : Bool) (v : View) → IsBetween kept v → v.ended ≡ false
live_between false v is = is.resting.live
live_between true v is = is.live

-- a call suits whoever is between two
pub call_suits : (kept : Bool) (v : View) → IsBetween kept v → (v.to_give ≡ None) × (v.taken_in ≡ None)
call_suits false v is = (is.to_give, is.taken_in)
call_suits true v is = (is.to_give, is.taken_in)

pub free_without : (v : View) → IsKeeping v → IsFree (without_ticket v)
free_without v is = record {
  resting = record { ticket = refl; turn = is.turn; kept = refl; coming = is.coming; live = is.live };
  to_give = is.to_give;
  taken_in = is.taken_in;
}

pub sound_without : (v : View) → IsSoundView v → IsSoundView (without_ticket v)
sound_without v q = record { own = q.own; out = q.out; room = q.room; small = q.small; few = q.few }
