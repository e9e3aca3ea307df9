-- Each step of a turn keeps the rule.
use Rattle.std.proofs.Common.{◌≡◌, ◌≢◌, ℕ, ◌+◌, ◌%◌, ◌<◌, ◌≤◌, Bool, true, false, List, [], ◌∷◌, ◌++◌, length, set, get_or, refl, ap, sym, ◌∙◌, subst, inl, inr, ⊎_elim, arith, length-set}
use Rattle.std.specs.Prelude.{Option, Some, None}
use mathlib.Core.Logic.{dite}
use mathlib.Core.Option.{some, none}
use mathlib.Core.List.{IsPrefix}
use native.Mathlib.Decide.{ℕ_discrete}
use lib.ListN.{get_elem?}
use Rattle.atomic_table.specs.Table.{State, Me, Act, step, keeps, takes, gives, stepped, Allows, Valid, carried_after}
use Rattle.atomic_table.proofs.Lists.{set_again}
use Rattle.farm_board.specs.Homes.{Home}
use Rattle.farm_board.specs.BoardState.{BoardState}
use Rattle.farm_board.specs.Histories.{board_after, next_board, is_no_memory, IsLegal, IsNext, IsOut, entries_by, pass_number, OutWereGiven, IsOpening}
use Rattle.farm_board.specs.Views.{with_ticket, with_turn, with_coming, with_entry, with_kept_ticket, without_ticket, to_give_after, Suits, IsResting, IsKeeping}
use Rattle.farm_board.specs.Rules.{IsComing, HasNumber, Fits, IsOver, SameTicket, Owns, SameNumber, IsIdle, IsConsistent}
use Rattle.farm_board.specs.Steps.{KnowsHistory, DrawsTicket, LooksForTurn, GoesOn, MarksEntry, FinishesTurn, KeepsTicket, GivesTicketUp}
use Rattle.farm_board.specs.declared.entries.Call.{Call}
use Rattle.farm_board.specs.declared.entries.HistoryEntry.{HistoryEntry}
use Rattle.farm_board.specs.declared.entries.HistoryEntry.TheVariants as entry
use Rattle.farm_board.specs.declared.view.View.{View}
use Rattle.farm_board.proofs.Prefixes.{prefix_self, prefix_more}
use Rattle.farm_board.proofs.Numbers.{in_end}
use Rattle.farm_board.proofs.Histories.{board_after_snoc, board_after_seats, legal_snoc, entries_mine, entries_other, Stays, out_next_board, room_next_board, given_after, given_opening, after_call_given, next_board_few, none_new}
use Rattle.farm_board.proofs.Views.{set_at, same_view, each_set, apart_set, apart_less, total_left_set, total_spare_set, total_spare_at, left_in, waiting_set, whole_set, idle_set, none_turn, dec_ticket}

-- the table, with these words
abbrev pub at_words : {S : Type 0} → State S View → List ℕ → State S View
at_words s ws = record { words = ws; homes = s.homes; views = s.views }

pub not_both : {A : Type 0} → (b : Bool) → b ≡ false → b ≡ true → A
not_both b off on = let both : false ≡ true = sym off ∙ on in absurd (cc both)

pub dead_or : {A : Type 0} → (b : Bool) → (b ≡ false → A) → (b ≡ true → A) → A
dead_or true live dead = dead refl
dead_or false live dead = live refl

-- Drawing

more_drawn : (start : BoardState) (history : List HistoryEntry) (served drawn more : ℕ) (v : View) → drawn ≤ more → Fits start history served drawn v → Fits start history served more v
more_drawn start history served drawn more v le f = record {
  start = f.start;
  seen = f.seen;
  mine = f.mine;
  to_give = f.to_give;
  taken_in = f.taken_in;
  out = f.out;
  ticket = λ k e. let h = f.ticket k e in (h.0, omega arith);
  turn = f.turn;
  kept = f.kept;
  coming = f.coming;
}

-- no view has a ticket that was not drawn
too_late : {S : Type 0} (state_of : S → BoardState) (start : BoardState) (s : State (Option S) View) (r : IsConsistent state_of start s) (j : ℕ) (u : View) → get_elem? s.views j ≡ some u → (k : ℕ) → u.ticket ≡ Some k → r.drawn ≡ k → ⊥
too_late state_of start s r j u e k is same = dead_or u.ended (λ (live : u.ended ≡ false). let h = (r.each j u e live).ticket k is in absurd (omega arith))
    (λ (dead : u.ended ≡ true). let no : None ≡ Some k = sym (r.over j u e dead).ticket ∙ is in absurd (cc no))

pub draws : {S : Type 0} (state_of : S → BoardState) (start : BoardState) (slots id : ℕ) (me : Me (Option S) View) → IsResting me.0 → 0 < me.0.left
    → Allows (IsConsistent state_of start) slots id me 0 (λ n. (n + 1) % 18446744073709551616) (DrawsTicket (step slots 0 1 0 none) me)
draws {S} state_of start slots id me at_rest some_left s r _ at small =
    let w : View = with_ticket me.0 r.drawn in
    let f = r.each id me.0 at at_rest.live in
    let sum = total_left_set s.views id me.0 w at in
    let spare = total_spare_set s.views id me.0 w at in
    let bound = r.bound in
    let room = r.room in
    let within = r.within in
    let grown : (r.drawn + 1) % 18446744073709551616 ≡ r.drawn + 1 = omega arith in
    let new : IsConsistent state_of start record { words = (r.drawn + 1) % 18446744073709551616 ∷ r.served ∷ []; homes = s.homes; views = set s.views id w } = record {
      history = r.history;
      drawn = r.drawn + 1;
      served = r.served;
      words = ap (λ (k : ℕ). k ∷ r.served ∷ []) grown;
      within = omega arith;
      begins = r.begins;
      legal = r.legal;
      bound = omega arith;
      few = r.few;
      room = omega arith;
      one_slot = r.one_slot;
      each = each_set (λ i v. v.ended ≡ false → Fits start r.history r.served (r.drawn + 1) v) s.views id w
          (λ live. record {
            start = f.start;
            seen = f.seen;
            mine = f.mine;
            to_give = f.to_give;
            taken_in = f.taken_in;
            out = f.out;
            ticket = λ k e. let same : r.drawn ≡ k = cc e in (omega arith, omega arith);
            turn = λ on. not_both me.0.turn at_rest.turn on;
            kept = λ on. absurd (cc on);
            coming = λ e is. let no : None ≡ Some e = sym at_rest.coming ∙ is in absurd (cc no);
          })
          (λ i v other e live. more_drawn start r.history r.served r.drawn (r.drawn + 1) v (omega arith) (r.each i v e live));
      over = each_set (λ i v. v.ended ≡ true → IsOver v) s.views id w (λ dead. not_both me.0.ended at_rest.live dead) (λ i v other e dead. r.over i v e dead);
      waiting = λ k from to. dite (ℕ_discrete k r.drawn)
          (λ is. (id, w, set_at s.views id me.0 w at, ap Some (sym is)))
          (λ other. waiting_set s.views id me.0 w k at (λ is. let no : None ≡ Some k = sym at_rest.ticket ∙ is in absurd (cc no)) (r.waiting k from (omega arith)));
      one_ticket = apart_set SameTicket s.views id w r.one_ticket
          (λ j u other e same. let t : r.drawn ≡ same.0 = cc (same.1) in absurd (too_late state_of start s r j u e same.0 same.2 t))
          (λ j u other e same. let t : r.drawn ≡ same.0 = cc (same.2) in absurd (too_late state_of start s r j u e same.0 same.1 t));
      one_number = apart_less SameNumber s.views id me.0 w at (λ u same. same) (λ u same. same) r.one_number;
      whole = whole_set r.history s.views id me.0 w at at_rest.live (λ is. is) r.whole;
      home = λ idle. r.home (idle_set s.views id me.0 w at at_rest.turn idle);
    } in
    let P : List ℕ → Type 0 = λ ws. (x : View) × (a : Act (Option S)) × Valid s.homes me.1 a
    × IsConsistent state_of start (stepped (at_words s ws) 0 ((get_or ws 0 0 + 1) % 18446744073709551616) id me.1 x a) × DrawsTicket (step slots 0 1 0 none) me (get_or ws 0 0) (x, carried_after me.1 a) in
    subst P (sym r.words) (w, keeps, tt, new, refl)

-- Looking, and taking what lies in the slot

knows : (start : BoardState) (history : List HistoryEntry) (served drawn : ℕ) (v : View) → Fits start history served drawn v → IsLegal start history → length (board_after start history).out + v.spare ≤ start.seats → (board_after start history).given ≤ 4611686018427387904 → IsOpening start → KnowsHistory v history
knows start history served drawn v f legal room few begins = record {
  longer = f.seen;
  legal = subst (λ (z : BoardState). IsLegal z history) (sym f.start) legal;
  mine = f.mine;
  taken_in = f.taken_in;
  out = λ n is. subst (λ (z : BoardState). IsOut n (board_after z history)) (sym f.start) (f.out n is);
  room = subst (λ (z : BoardState). length (board_after z history).out + v.spare ≤ z.seats) (sym f.start) room;
  few = subst (λ (z : BoardState). (board_after z history).given ≤ 4611686018427387904) (sym f.start) few;
  small = subst (λ (z : BoardState). z.seats < 65536) (sym f.start) begins.seats;
  given = subst (λ (z : BoardState). OutWereGiven (board_after z history)) (sym f.start) (given_after start history legal (given_opening start begins));
  fresh = subst (λ (z : BoardState). entries_by ((board_after z history).given + 1) history ≡ []) (sym f.start) (none_new start history ((board_after start history).given + 1) legal (given_opening start begins) (omega arith));
}

pub looks : {S : Type 0} (state_of : S → BoardState) (start : BoardState) (slots id : ℕ) (me : Me (Option S) View) → me.1 ≡ [] → me.0.turn ≡ false → me.0.coming ≡ None → me.0.ended ≡ false
    → Allows (IsConsistent state_of start) slots id me 1 (λ n. n) (LooksForTurn state_of (step slots 1 0 0 none) me)
looks {S} state_of start slots id me empty no_turn no_entry live s r _ at small =
    let P : List ℕ → Type 0 = λ ws. (x : View) × (a : Act (Option S)) × Valid s.homes me.1 a
    × IsConsistent state_of start (stepped (at_words s ws) 1 (get_or ws 1 0) id me.1 x a) × LooksForTurn state_of (step slots 1 0 0 none) me (get_or ws 1 0) (x, carried_after me.1 a) in
    let f = r.each id me.0 at live in
    subst P (sym r.words)
    (dite (dec_ticket me.0.ticket r.served)
    (λ mine.
    let idle : IsIdle s.views = λ i v e. none_turn v.turn (λ on.
    dead_or v.ended (λ u_live.
    let t = (r.each i v e u_live).turn on in
    let is : i ≡ id = r.one_ticket i id v me.0 e at (r.served, t.0, mine) in
    not_both v.turn (ap (λ (z : View). z.turn) (same_view s.views i id v me.0 is e at) ∙ no_turn) on)
    (λ dead. not_both v.turn (r.over i v e dead).turn on)) in
    let home = r.home idle in
    let h : S = home.0 in
    let w : View = with_turn me.0 r.history in
    let sum = total_left_set s.views id me.0 w at in
    let spare = total_spare_set s.views id me.0 w at in
    let all = total_spare_at s.views id me.0 at in
    let all_is = all.1 in
    let bound = r.bound in
    let room = r.room in
    let new : IsConsistent state_of start record { words = r.drawn ∷ r.served ∷ []; homes = set s.homes 0 none; views = set s.views id w } = record {
      history = r.history;
      drawn = r.drawn;
      served = r.served;
      words = refl;
      within = r.within;
      begins = r.begins;
      legal = r.legal;
      bound = omega arith;
      few = r.few;
      room = omega arith;
      one_slot = length-set s.homes 0 none ∙ r.one_slot;
      each = each_set (λ i v. v.ended ≡ false → Fits start r.history r.served r.drawn v) s.views id w
          (λ _. record {
            start = f.start;
            seen = prefix_self r.history;
            mine = f.mine;
            to_give = f.to_give;
            taken_in = f.taken_in;
            out = f.out;
            ticket = f.ticket;
            turn = λ _. (mine, refl);
            kept = λ _. (mine, refl);
            coming = λ e is. let no : None ≡ Some e = sym no_entry ∙ is in absurd (cc no);
          })
          (λ i v other e. r.each i v e);
      over = each_set (λ i v. v.ended ≡ true → IsOver v) s.views id w (λ dead. not_both me.0.ended live dead) (λ i v other e dead. r.over i v e dead);
      waiting = λ k from to. waiting_set s.views id me.0 w k at (λ is. is) (r.waiting k from to);
      one_ticket = apart_less SameTicket s.views id me.0 w at (λ u same. same) (λ u same. same) r.one_ticket;
      one_number = apart_less SameNumber s.views id me.0 w at (λ u same. same) (λ u same. same) r.one_number;
      whole = whole_set r.history s.views id me.0 w at live (λ is. refl) r.whole;
      home = λ none_has. not_both w.turn (none_has id w (set_at s.views id me.0 w at)) refl;
    } in (
      w,
      takes 0 (Some h),
      ap (λ (hs : List (Home (Option S))). get_elem? hs 0) home.1,
      new,
      (
        λ _. record {
          history = r.history;
          held = h;
          view = refl;
          slot = ap (λ (c : List (ℕ × Option S)). (0, Some h) ∷ c) empty;
          now = subst (λ (z : BoardState). state_of h ≡ board_after z r.history) (sym f.start) home.2;
          bound = (let drawn = f.ticket r.served mine in let part = left_in s.views id me.0 at in omega arith);
          knows = knows start r.history r.served r.drawn me.0 f r.legal (omega arith) (let few = r.few in let within = r.within in omega arith) r.begins;
        },
        λ other. absurd (other mine),
      ),
    ))
    (λ other.
    let new : IsConsistent state_of start record { words = r.drawn ∷ r.served ∷ []; homes = s.homes; views = set s.views id me.0 } =
    subst (λ (vs : List View). IsConsistent state_of start record { words = r.drawn ∷ r.served ∷ []; homes = s.homes; views = vs }) (sym (set_again s.views id me.0 at))
    (subst (λ (ws : List ℕ). IsConsistent state_of start (at_words s ws)) r.words r) in
    (me.0, keeps, tt, new, (λ mine. absurd (other mine), λ _. refl))))

-- Going on with the ticket that was kept

knows_after : (v : View) (k : ℕ) (history : List HistoryEntry) → KnowsHistory v history → KnowsHistory (with_ticket v k) history
knows_after v k history t = record { longer = t.longer; legal = t.legal; mine = t.mine; taken_in = t.taken_in; out = t.out; room = t.room; few = t.few; small = t.small; given = t.given; fresh = t.fresh }

pub goes_on : {S : Type 0} (state_of : S → BoardState) (start : BoardState) (slots id : ℕ) (me : Me (Option S) View) → me.1 ≡ [] → IsKeeping me.0
    → Allows (IsConsistent state_of start) slots id me 1 (λ n. n) (GoesOn state_of (step slots 1 0 0 none) me)
goes_on {S} state_of start slots id me empty keeping s r _ at small =
    let P : List ℕ → Type 0 = λ ws. (x : View) × (a : Act (Option S)) × Valid s.homes me.1 a
    × IsConsistent state_of start (stepped (at_words s ws) 1 (get_or ws 1 0) id me.1 x a) × GoesOn state_of (step slots 1 0 0 none) me (get_or ws 1 0) (x, carried_after me.1 a) in
    let f = r.each id me.0 at keeping.live in
    let mine : me.0.ticket ≡ Some r.served = (f.kept keeping.kept).0 in
    let idle : IsIdle s.views = λ i v e. none_turn v.turn (λ on.
    dead_or v.ended (λ u_live.
    let t = (r.each i v e u_live).turn on in
    let is : i ≡ id = r.one_ticket i id v me.0 e at (r.served, t.0, mine) in
    not_both v.turn (ap (λ (z : View). z.turn) (same_view s.views i id v me.0 is e at) ∙ keeping.turn) on)
    (λ dead. not_both v.turn (r.over i v e dead).turn on)) in
    let home = r.home idle in
    let h : S = home.0 in
    let w : View = with_turn (with_ticket me.0 r.served) r.history in
    let sum = total_left_set s.views id me.0 w at in
    let spare = total_spare_set s.views id me.0 w at in
    let all = total_spare_at s.views id me.0 at in
    let all_is = all.1 in
    let bound = r.bound in
    let room = r.room in
    let new : IsConsistent state_of start record { words = r.drawn ∷ r.served ∷ []; homes = set s.homes 0 none; views = set s.views id w } = record {
      history = r.history;
      drawn = r.drawn;
      served = r.served;
      words = refl;
      within = r.within;
      begins = r.begins;
      legal = r.legal;
      bound = omega arith;
      few = r.few;
      room = omega arith;
      one_slot = length-set s.homes 0 none ∙ r.one_slot;
      each = each_set (λ i v. v.ended ≡ false → Fits start r.history r.served r.drawn v) s.views id w
          (λ _. record {
            start = f.start;
            seen = prefix_self r.history;
            mine = f.mine;
            to_give = f.to_give;
            taken_in = f.taken_in;
            out = f.out;
            ticket = λ k is. f.ticket k (mine ∙ is);
            turn = λ _. (refl, refl);
            kept = λ on. absurd (cc on);
            coming = λ e is. let no : None ≡ Some e = sym keeping.coming ∙ is in absurd (cc no);
          })
          (λ i v other e. r.each i v e);
      over = each_set (λ i v. v.ended ≡ true → IsOver v) s.views id w (λ dead. not_both me.0.ended keeping.live dead) (λ i v other e dead. r.over i v e dead);
      waiting = λ k from to. waiting_set s.views id me.0 w k at (λ is. sym mine ∙ is) (r.waiting k from to);
      one_ticket = apart_less SameTicket s.views id me.0 w at (λ u same. (same.0, mine ∙ same.1, same.2)) (λ u same. (same.0, same.1, mine ∙ same.2)) r.one_ticket;
      one_number = apart_less SameNumber s.views id me.0 w at (λ u same. same) (λ u same. same) r.one_number;
      whole = whole_set r.history s.views id me.0 w at keeping.live (λ is. refl) r.whole;
      home = λ none_has. not_both w.turn (none_has id w (set_at s.views id me.0 w at)) refl;
    } in
    subst P (sym r.words) (
      w,
      takes 0 (Some h),
      ap (λ (hs : List (Home (Option S))). get_elem? hs 0) home.1,
      new,
      record {
        history = r.history;
        held = h;
        view = refl;
        slot = ap (λ (c : List (ℕ × Option S)). (0, Some h) ∷ c) empty;
        now = subst (λ (z : BoardState). state_of h ≡ board_after z r.history) (sym f.start) home.2;
        bound = (let drawn = f.ticket r.served mine in let part = left_in s.views id me.0 at in omega arith);
        knows = knows_after me.0 r.served r.history (knows start r.history r.served r.drawn me.0 f r.legal (omega arith) (let few = r.few in let within = r.within in omega arith) r.begins);
      },
    )

-- Marking

suits_coming : (e : HistoryEntry) (v : View) → Suits e v → Suits e (with_coming v e)
suits_coming (entry.Call call) v h = h
suits_coming (entry.Split number new) v h = h
suits_coming (entry.Join number old) v h = h

pub marks : {S : Type 0} (state_of : S → BoardState) (start : BoardState) (slots id : ℕ) (me : Me (Option S) View) (e : HistoryEntry) → me.0.turn ≡ true → me.0.ended ≡ false
    → pass_number e ≡ me.0.number → IsNext (board_after me.0.start.value me.0.seen) e → Suits e me.0
    → Allows (IsConsistent state_of start) slots id me 1 (λ n. n) (MarksEntry e (step slots 1 0 0 none) me)
marks {S} state_of start slots id me e on live own next suits s r _ at small =
    let P : List ℕ → Type 0 = λ ws. (x : View) × (a : Act (Option S)) × Valid s.homes me.1 a
    × IsConsistent state_of start (stepped (at_words s ws) 1 (get_or ws 1 0) id me.1 x a) × MarksEntry e (step slots 1 0 0 none) me (get_or ws 1 0) (x, carried_after me.1 a) in
    let f = r.each id me.0 at live in
    let w : View = with_coming me.0 e in
    let sum = total_left_set s.views id me.0 w at in
    let spare = total_spare_set s.views id me.0 w at in
    let bound = r.bound in
    let room = r.room in
    let may : IsNext (board_after start r.history) e = subst (λ (z : BoardState × List HistoryEntry). IsNext (board_after z.0 z.1) e) (λ k. (f.start k, (f.turn on).1 k)) next in
    let comes : (x : HistoryEntry) → Some e ≡ Some x → IsComing (board_after start r.history) w x = λ x is.
    let same : e ≡ x = cc is in
    subst (λ (z : HistoryEntry). IsComing (board_after start r.history) w z) same record { turn = on; own = own; next = may; suits = suits_coming e me.0 suits } in
    let new : IsConsistent state_of start record { words = r.drawn ∷ r.served ∷ []; homes = s.homes; views = set s.views id w } = record {
      history = r.history;
      drawn = r.drawn;
      served = r.served;
      words = refl;
      within = r.within;
      begins = r.begins;
      legal = r.legal;
      bound = omega arith;
      few = r.few;
      room = omega arith;
      one_slot = r.one_slot;
      each = each_set (λ i v. v.ended ≡ false → Fits start r.history r.served r.drawn v) s.views id w
          (λ _. record {
            start = f.start;
            seen = f.seen;
            mine = f.mine;
            to_give = f.to_give;
            taken_in = f.taken_in;
            out = f.out;
            ticket = f.ticket;
            turn = f.turn;
            kept = f.kept;
            coming = comes;
          })
          (λ i v other e. r.each i v e);
      over = each_set (λ i v. v.ended ≡ true → IsOver v) s.views id w (λ dead. not_both me.0.ended live dead) (λ i v other e dead. r.over i v e dead);
      waiting = λ k from to. waiting_set s.views id me.0 w k at (λ is. is) (r.waiting k from to);
      one_ticket = apart_less SameTicket s.views id me.0 w at (λ u same. same) (λ u same. same) r.one_ticket;
      one_number = apart_less SameNumber s.views id me.0 w at (λ u same. same) (λ u same. same) r.one_number;
      whole = whole_set r.history s.views id me.0 w at live (λ is. is) r.whole;
      home = λ idle. not_both w.turn (idle id w (set_at s.views id me.0 w at)) on;
    } in
    subst P (sym r.words) (w, keeps, tt, new, refl)

-- Finishing

one_home : {A : Type 0} (hs : List A) (x : A) → length hs ≡ 1 → set hs 0 x ≡ x ∷ []
one_home [] x e = absurd (omega arith)
one_home (y ∷ []) x e = refl
one_home (y ∷ z ∷ hs) x e = absurd (omega arith)

pub stays_apart : (e : HistoryEntry) (v : View) (n : ℕ) → Suits e v → ((m : ℕ) → v.taken_in ≡ Some m → n ≢ m) → Stays n e
stays_apart (entry.Call call) v n h apart = tt
stays_apart (entry.Split number new) v n h apart = tt
stays_apart (entry.Join number old) v n h apart = apart old h.1

-- a number to give is the next one
gift_new : (s : BoardState) (e : HistoryEntry) (n : ℕ) → IsNext s e → to_give_after e ≡ Some n → n ≡ s.given + 1
gift_new s (entry.Call call) n h is = absurd (cc is)
gift_new s (entry.Split number new) n h is = let same : new ≡ n = cc is in sym same ∙ h.2
gift_new s (entry.Join number old) n h is = absurd (cc is)

pub gift_out : (s : BoardState) (e : HistoryEntry) (n : ℕ) → to_give_after e ≡ Some n → IsOut n (next_board s e)
gift_out s (entry.Call call) n is = absurd (cc is)
gift_out s (entry.Split number new) n is = let same : new ≡ n = cc is in subst (λ (z : ℕ). IsOut z (next_board s (entry.Split number new))) same (in_end new s.out)
gift_out s (entry.Join number old) n is = absurd (cc is)

-- the view of the pass that ends its turn
fits_after_turn : (start : BoardState) (history : List HistoryEntry) (served later drawn : ℕ) (v : View) (e : HistoryEntry) → Fits start history served drawn v → v.turn ≡ true → IsComing (board_after start history) v e → IsLegal start history → IsOpening start
    → Fits start (history ++ e ∷ []) later drawn (with_entry v e)
fits_after_turn start history served later drawn v e f on c legal begins =
    let now : BoardState = board_after start history in
    let below : OutWereGiven now = given_after start history legal (given_opening start begins) in
    let is_next : board_after start (history ++ e ∷ []) ≡ next_board now e = board_after_snoc start history e in
    let there : v.number ≤ now.given = below v.number (f.out v.number (inl refl)) in
    let seen : v.seen ++ e ∷ [] ≡ history ++ e ∷ [] = ap (λ (z : List HistoryEntry). z ++ e ∷ []) (f.turn on).1 in record {
      start = f.start;
      seen = subst (λ (z : List HistoryEntry). IsPrefix z (history ++ e ∷ [])) (sym seen) (prefix_self (history ++ e ∷ []));
      mine = entries_mine v.number history e c.own ∙ ap (λ (z : List HistoryEntry). z ++ e ∷ []) f.mine;
      to_give = λ n is.
          let is_new = gift_new now e n c.next is in
          let own = c.own in (
            entries_other n history e (λ same. let no : n ≡ v.number = sym same ∙ own in absurd (omega arith)) ∙ none_new start history n legal (given_opening start begins) (omega arith),
            λ same. absurd (omega arith),
          );
      taken_in = λ n none_is. absurd (cc none_is);
      out = λ n names. subst (λ (z : BoardState). IsOut n z) (sym is_next)
          (⊎_elim
          (λ (is : n ≡ v.number). out_next_board now e n (f.out n (inl is)) (stays_apart e v n c.suits (λ m m_is same. (f.taken_in m m_is).1 (sym same ∙ is))))
          (λ q. ⊎_elim (λ is. gift_out now e n is) (λ (none_is : None ≡ Some n). absurd (cc none_is)) q) names);
      ticket = λ k none_is. absurd (cc none_is);
      turn = λ is. absurd (cc is);
      kept = λ is. absurd (cc is);
      coming = λ x none_is. absurd (cc none_is);
    }

-- the view of another pass
beside_turn : (start : BoardState) (history : List HistoryEntry) (served later drawn : ℕ) (v u : View) (e : HistoryEntry) → Fits start history served drawn u → IsComing (board_after start history) v e → v.ended ≡ false
    → later ≤ served + 1 → u.ticket ≢ Some served → ((n : ℕ) → HasNumber n u → HasNumber n v → ⊥)
    → Fits start (history ++ e ∷ []) later drawn u
beside_turn start history served later drawn v u e g c live next waits apart =
    let off : u.turn ≡ false = none_turn u.turn (λ on. waits (g.turn on).0) in
    let none_kept : u.kept ≡ false = none_turn u.kept (λ on. waits (g.kept on).0) in
    let other : (n : ℕ) → HasNumber n u → pass_number e ≢ n = λ n names same. apart n names (inl (sym same ∙ c.own)) in record {
      start = g.start;
      seen = prefix_more u.seen history e g.seen;
      mine = entries_other u.number history e (other u.number (inl refl)) ∙ g.mine;
      to_give = λ n is. let q = g.to_give n is in (entries_other n history e (other n (inr (inl is))) ∙ q.0, q.1);
      taken_in = λ n is. let q = g.taken_in n is in (entries_other n history e (other n (inr (inr is))) ∙ q.0, q.1, q.2, prefix_more u.taken_in_seen history e q.3, prefix_more u.seen_before history e q.4);
      out = λ n names. subst (λ (z : BoardState). IsOut n z) (sym (board_after_snoc start history e))
          (out_next_board (board_after start history) e n (g.out n names) (stays_apart e v n c.suits (λ m m_is same. apart n names (inr (inr (m_is ∙ ap Some (sym same)))))));
      ticket = λ k is. let q = g.ticket k is in let other_ticket : k ≢ served = λ same. waits (is ∙ ap Some same) in (omega arith, q.1);
      turn = λ on. not_both u.turn off on;
      kept = λ on. not_both u.kept none_kept on;
      coming = λ x is. not_both u.turn off (g.coming x is).turn;
    }

pub finishes : {S : Type 0} (state_of : S → BoardState) (start : BoardState) (slots id : ℕ) (v : View) (h : S) (e : HistoryEntry) → v.turn ≡ true → v.ended ≡ false → v.coming ≡ Some e
    → state_of h ≡ board_after v.start.value (v.seen ++ e ∷ [])
    → Allows (IsConsistent state_of start) slots id (v, (0, Some h) ∷ []) 1 (λ n. (n + 1) % 18446744073709551616) (FinishesTurn (step slots 1 1 0 none) (v, (0, Some h) ∷ []))
finishes {S} state_of start slots id v h e on live coming now_is s r _ at small =
    let me : Me (Option S) View = (v, (0, Some h) ∷ []) in
    let P : List ℕ → Type 0 = λ ws. (x : View) × (a : Act (Option S)) × Valid s.homes me.1 a
    × IsConsistent state_of start (stepped (at_words s ws) 1 ((get_or ws 1 0 + 1) % 18446744073709551616) id me.1 x a) × FinishesTurn (step slots 1 1 0 none) me (get_or ws 1 0) (x, carried_after me.1 a) in
    let f = r.each id v at live in
    let t = f.turn on in
    let c = f.coming e coming in
    let w : View = with_entry v e in
    let history : List HistoryEntry = r.history ++ e ∷ [] in
    let now : BoardState = board_after start r.history in
    let is_next : board_after start history ≡ next_board now e = board_after_snoc start r.history e in
    let drawn_more = f.ticket r.served t.0 in
    let bound = r.bound in
    let sum = total_left_set s.views id v w at in
    let all = total_spare_at s.views id v at in
    let all_is = all.1 in
    let all_new = all.2 w in
    let room_is = r.room in
    let seats_are = board_after_seats start r.history in
    let room = room_next_board now e v all.0 c.next c.suits (omega arith) in
    let out_is : length (board_after start history).out ≡ length (next_board now e).out = ap (λ (z : BoardState). length z.out) is_next in
    let up : (r.served + 1) % 18446744073709551616 ≡ r.served + 1 = omega arith in
    let few : (board_after start history).given ≤ r.served + 1 = (let is_given = ap (λ (z : BoardState). z.given) is_next in let step_few = next_board_few now e in let few = r.few in omega arith) in
    let below : OutWereGiven now = given_after start r.history r.legal (given_opening start r.begins) in
    let not_new : (n : ℕ) (j : ℕ) (u : View) → get_elem? s.views j ≡ some u → Owns n u → to_give_after e ≡ Some n → ⊥ = λ n j u there o is.
    let is_new = gift_new now e n c.next is in
    let given = below n ((r.each j u there o.0).out n o.1) in absurd (omega arith) in
    let seen : v.seen ++ e ∷ [] ≡ history = ap (λ (z : List HistoryEntry). z ++ e ∷ []) t.1 in
    let new : IsConsistent state_of start record { words = r.drawn ∷ (r.served + 1) % 18446744073709551616 ∷ []; homes = set s.homes 0 (some (Some h)); views = set s.views id w } = record {
      history = history;
      drawn = r.drawn;
      served = r.served + 1;
      words = ap (λ (k : ℕ). r.drawn ∷ k ∷ []) up;
      within = omega arith;
      begins = r.begins;
      legal = legal_snoc start r.history e r.legal c.next;
      bound = omega arith;
      few = few;
      room = omega arith;
      one_slot = length-set s.homes 0 (some (Some h)) ∙ r.one_slot;
      each = each_set (λ i u. u.ended ≡ false → Fits start history (r.served + 1) r.drawn u) s.views id w
          (λ _. fits_after_turn start r.history r.served (r.served + 1) r.drawn v e f on c r.legal r.begins)
          (λ i u other there u_live.
          let g = r.each i u there u_live in
          beside_turn start r.history r.served (r.served + 1) r.drawn v u e g c live (omega arith) (λ is. other (r.one_ticket i id u v there at (r.served, is, t.0)))
          (λ n a b. other (r.one_number i id u v there at (n, (u_live, a), (live, b)))));
      over = each_set (λ i u. u.ended ≡ true → IsOver u) s.views id w (λ dead. not_both v.ended live dead) (λ i u other there dead. r.over i u there dead);
      waiting = λ k from to. waiting_set s.views id v w k at
          (λ is. let same : Some r.served ≡ Some k = sym t.0 ∙ is in let k_is : r.served ≡ k = cc same in absurd (omega arith))
          (r.waiting k (omega arith) to);
      one_ticket = apart_set SameTicket s.views id w r.one_ticket
          (λ j u other there same. let n : None ≡ Some same.0 = same.1 in absurd (cc n))
          (λ j u other there same. let n : None ≡ Some same.0 = same.2 in absurd (cc n));
      one_number = apart_set SameNumber s.views id w r.one_number
          (λ j u other there same. ⊎_elim (λ (is : same.0 ≡ v.number). other (sym (r.one_number id j v u at there (same.0, (live, inl is), same.2))))
          (λ q. ⊎_elim (λ is. not_new same.0 j u there same.2 is) (λ (none_is : None ≡ Some same.0). absurd (cc none_is)) q) same.1.1)
          (λ j u other there same. ⊎_elim (λ (is : same.0 ≡ v.number). other (r.one_number j id u v there at (same.0, same.1, (live, inl is))))
          (λ q. ⊎_elim (λ is. not_new same.0 j u there same.1 is) (λ (none_is : None ≡ Some same.0). absurd (cc none_is)) q) same.2.1);
      whole = (id, w, set_at s.views id v w at, live, seen);
      home = λ _. (h, one_home s.homes (some (Some h)) r.one_slot, subst (λ (z : BoardState × List HistoryEntry). state_of h ≡ board_after z.0 z.1) (λ k. (f.start k, seen k)) now_is);
    } in
    subst P (sym r.words) (w, gives, tt, new, λ x is. let same : e ≡ x = cc (coming, is) in ap (λ (z : HistoryEntry). (with_entry v z, [])) same)

pub ends : {S : Type 0} (state_of : S → BoardState) (start : BoardState) (slots id : ℕ) (v : View) (h : S) (e : HistoryEntry) (me : Me (Option S) View) → me ≡ (v, (0, Some h) ∷ []) → v.turn ≡ true → v.ended ≡ false → v.coming ≡ Some e
    → state_of h ≡ board_after v.start.value (v.seen ++ e ∷ [])
    → Allows (IsConsistent state_of start) slots id me 1 (λ n. (n + 1) % 18446744073709551616) (FinishesTurn (step slots 1 1 0 none) me)
ends {S} state_of start slots id v h e me is on live coming now_is =
    let F : Me (Option S) View → Type 0 = λ m. Allows (IsConsistent state_of start) slots id m 1 (λ n. (n + 1) % 18446744073709551616) (FinishesTurn (step slots 1 1 0 none) m) in
    subst F (sym is) (finishes state_of start slots id v h e on live coming now_is)

-- Keeping the ticket

pub keeps_ticket : {S : Type 0} (state_of : S → BoardState) (start : BoardState) (slots id : ℕ) (v : View) (h : S) (call : Call) → v.turn ≡ true → v.ended ≡ false → v.coming ≡ Some (entry.Call call)
    → state_of h ≡ board_after v.start.value (v.seen ++ entry.Call call ∷ [])
    → Allows (IsConsistent state_of start) slots id (v, (0, Some h) ∷ []) 1 (λ n. n) (KeepsTicket (step slots 1 0 0 none) (v, (0, Some h) ∷ []))
keeps_ticket {S} state_of start slots id v h call on live coming now_is s r _ at small =
    let me : Me (Option S) View = (v, (0, Some h) ∷ []) in
    let e : HistoryEntry = entry.Call call in
    let P : List ℕ → Type 0 = λ ws. (x : View) × (a : Act (Option S)) × Valid s.homes me.1 a
    × IsConsistent state_of start (stepped (at_words s ws) 1 (get_or ws 1 0) id me.1 x a) × KeepsTicket (step slots 1 0 0 none) me (get_or ws 1 0) (x, carried_after me.1 a) in
    let f = r.each id v at live in
    let t = f.turn on in
    let c = f.coming e coming in
    let w : View = with_kept_ticket v e in
    let history : List HistoryEntry = r.history ++ e ∷ [] in
    let now : BoardState = board_after start r.history in
    let is_next : board_after start history ≡ next_board now e = board_after_snoc start r.history e in
    let few : (board_after start history).given ≤ r.served = (let is_given = ap (λ (z : BoardState). z.given) is_next in let same = after_call_given (is_no_memory call.reply) now call in let few = r.few in omega arith) in
    let bound = r.bound in
    let sum = total_left_set s.views id v w at in
    let all = total_spare_at s.views id v at in
    let all_is = all.1 in
    let all_new = all.2 w in
    let room_is = r.room in
    let seats_are = board_after_seats start r.history in
    let room = room_next_board now e v all.0 c.next c.suits (omega arith) in
    let out_is : length (board_after start history).out ≡ length (next_board now e).out = ap (λ (z : BoardState). length z.out) is_next in
    let seen : v.seen ++ e ∷ [] ≡ history = ap (λ (z : List HistoryEntry). z ++ e ∷ []) t.1 in
    let ended = fits_after_turn start r.history r.served r.served r.drawn v e f on c r.legal r.begins in
    let numbers : (n : ℕ) → HasNumber n w → HasNumber n v = λ n o. ⊎_elim (λ (is : n ≡ v.number). inl is)
    (λ q. ⊎_elim (λ (is : None ≡ Some n). absurd (cc is)) (λ (is : None ≡ Some n). absurd (cc is)) q) o in
    let new : IsConsistent state_of start record { words = r.drawn ∷ r.served ∷ []; homes = set s.homes 0 (some (Some h)); views = set s.views id w } = record {
      history = history;
      drawn = r.drawn;
      served = r.served;
      words = refl;
      within = r.within;
      begins = r.begins;
      legal = legal_snoc start r.history e r.legal c.next;
      bound = omega arith;
      few = few;
      room = omega arith;
      one_slot = length-set s.homes 0 (some (Some h)) ∙ r.one_slot;
      each = each_set (λ i u. u.ended ≡ false → Fits start history r.served r.drawn u) s.views id w
          (λ _. record {
            start = ended.start;
            seen = ended.seen;
            mine = ended.mine;
            to_give = ended.to_give;
            taken_in = ended.taken_in;
            out = ended.out;
            ticket = f.ticket;
            turn = λ is. absurd (cc is);
            kept = λ _. (t.0, seen);
            coming = λ x none_is. absurd (cc none_is);
          })
          (λ i u other there u_live.
          let g = r.each i u there u_live in
          beside_turn start r.history r.served r.served r.drawn v u e g c live (omega arith) (λ is. other (r.one_ticket i id u v there at (r.served, is, t.0)))
          (λ n a b. other (r.one_number i id u v there at (n, (u_live, a), (live, b)))));
      over = each_set (λ i u. u.ended ≡ true → IsOver u) s.views id w (λ dead. not_both v.ended live dead) (λ i u other there dead. r.over i u there dead);
      waiting = λ k from to. waiting_set s.views id v w k at (λ is. is) (r.waiting k from to);
      one_ticket = apart_less SameTicket s.views id v w at (λ u same. same) (λ u same. same) r.one_ticket;
      one_number = apart_less SameNumber s.views id v w at
          (λ u same. (same.0, (live, numbers same.0 same.1.1), same.2))
          (λ u same. (same.0, same.1, (live, numbers same.0 same.2.1))) r.one_number;
      whole = (id, w, set_at s.views id v w at, live, seen);
      home = λ _. (h, one_home s.homes (some (Some h)) r.one_slot, subst (λ (z : BoardState × List HistoryEntry). state_of h ≡ board_after z.0 z.1) (λ k. (f.start k, seen k)) now_is);
    } in
    subst P (sym r.words) (w, gives, tt, new, λ x is. let same : e ≡ x = cc (coming, is) in ap (λ (z : HistoryEntry). (with_kept_ticket v z, [])) same)

pub keeps_its_ticket : {S : Type 0} (state_of : S → BoardState) (start : BoardState) (slots id : ℕ) (v : View) (h : S) (call : Call) (me : Me (Option S) View) → me ≡ (v, (0, Some h) ∷ []) → v.turn ≡ true → v.ended ≡ false → v.coming ≡ Some (entry.Call call)
    → state_of h ≡ board_after v.start.value (v.seen ++ entry.Call call ∷ [])
    → Allows (IsConsistent state_of start) slots id me 1 (λ n. n) (KeepsTicket (step slots 1 0 0 none) me)
keeps_its_ticket {S} state_of start slots id v h call me is on live coming now_is =
    let F : Me (Option S) View → Type 0 = λ m. Allows (IsConsistent state_of start) slots id m 1 (λ n. n) (KeepsTicket (step slots 1 0 0 none) m) in
    subst F (sym is) (keeps_ticket state_of start slots id v h call on live coming now_is)

-- Giving the ticket up

-- another view, where the ticket that is served was given up
beside_given_up : (start : BoardState) (history : List HistoryEntry) (served drawn : ℕ) (u : View) → Fits start history served drawn u → u.ticket ≢ Some served → Fits start history (served + 1) drawn u
beside_given_up start history served drawn u g waits = record {
  start = g.start;
  seen = g.seen;
  mine = g.mine;
  to_give = g.to_give;
  taken_in = g.taken_in;
  out = g.out;
  ticket = λ k is. let q = g.ticket k is in let other_ticket : k ≢ served = λ same. waits (is ∙ ap Some same) in (omega arith, q.1);
  turn = λ on. absurd (waits (g.turn on).0);
  kept = λ on. absurd (waits (g.kept on).0);
  coming = g.coming;
}

pub gives_up : {S : Type 0} (state_of : S → BoardState) (start : BoardState) (slots id : ℕ) (me : Me (Option S) View) → IsKeeping me.0
    → Allows (IsConsistent state_of start) slots id me 1 (λ n. (n + 1) % 18446744073709551616) (GivesTicketUp (step slots 1 1 0 none) me)
gives_up {S} state_of start slots id me keeping s r _ at small =
    let P : List ℕ → Type 0 = λ ws. (x : View) × (a : Act (Option S)) × Valid s.homes me.1 a
    × IsConsistent state_of start (stepped (at_words s ws) 1 ((get_or ws 1 0 + 1) % 18446744073709551616) id me.1 x a) × GivesTicketUp (step slots 1 1 0 none) me (get_or ws 1 0) (x, carried_after me.1 a) in
    let live = keeping.live in
    let f = r.each id me.0 at live in
    let mine : me.0.ticket ≡ Some r.served = (f.kept keeping.kept).0 in
    let drawn_more = f.ticket r.served mine in
    let w : View = without_ticket me.0 in
    let sum = total_left_set s.views id me.0 w at in
    let spare = total_spare_set s.views id me.0 w at in
    let bound = r.bound in
    let room = r.room in
    let few = r.few in
    let up : (r.served + 1) % 18446744073709551616 ≡ r.served + 1 = omega arith in
    let new : IsConsistent state_of start record { words = r.drawn ∷ (r.served + 1) % 18446744073709551616 ∷ []; homes = s.homes; views = set s.views id w } = record {
      history = r.history;
      drawn = r.drawn;
      served = r.served + 1;
      words = ap (λ (k : ℕ). r.drawn ∷ k ∷ []) up;
      within = omega arith;
      begins = r.begins;
      legal = r.legal;
      bound = omega arith;
      few = omega arith;
      room = omega arith;
      one_slot = r.one_slot;
      each = each_set (λ i v. v.ended ≡ false → Fits start r.history (r.served + 1) r.drawn v) s.views id w
          (λ _. record {
            start = f.start;
            seen = f.seen;
            mine = f.mine;
            to_give = f.to_give;
            taken_in = f.taken_in;
            out = f.out;
            ticket = λ k none_is. absurd (cc none_is);
            turn = λ on. not_both me.0.turn keeping.turn on;
            kept = λ on. absurd (cc on);
            coming = λ e is. let no : None ≡ Some e = sym keeping.coming ∙ is in absurd (cc no);
          })
          (λ i u other there u_live. beside_given_up start r.history r.served r.drawn u (r.each i u there u_live) (λ is. other (r.one_ticket i id u me.0 there at (r.served, is, mine))));
      over = each_set (λ i u. u.ended ≡ true → IsOver u) s.views id w (λ dead. not_both me.0.ended live dead) (λ i u other there dead. r.over i u there dead);
      waiting = λ k from to. waiting_set s.views id me.0 w k at
          (λ is. let same : Some r.served ≡ Some k = sym mine ∙ is in let k_is : r.served ≡ k = cc same in absurd (omega arith))
          (r.waiting k (omega arith) to);
      one_ticket = apart_set SameTicket s.views id w r.one_ticket
          (λ j u other there same. let n : None ≡ Some same.0 = same.1 in absurd (cc n))
          (λ j u other there same. let n : None ≡ Some same.0 = same.2 in absurd (cc n));
      one_number = apart_less SameNumber s.views id me.0 w at (λ u same. same) (λ u same. same) r.one_number;
      whole = whole_set r.history s.views id me.0 w at live (λ is. is) r.whole;
      home = λ idle. r.home (idle_set s.views id me.0 w at keeping.turn idle);
    } in
    subst P (sym r.words) (w, keeps, tt, new, refl)
