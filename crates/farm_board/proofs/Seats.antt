-- Splitting and joining seats keeps the rule.
use Rattle.std.proofs.Common.{◌≡◌, ◌≢◌, ℕ, ◌<◌, ◌≤◌, ◌⊎◌, Bool, true, false, List, length, set, refl, ap, sym, ◌∙◌, subst, ⊎_elim, inl, inr, arith}
use Rattle.std.specs.Prelude.{Option, Some, None, if◌then◌else◌, nat_lt}
use Rattle.std.specs.Option.{unwrap_or}
use Rattle.std.proofs.lemmas.Bool.Decides.{nat_tests}
use mathlib.Core.Logic.{dite}
use mathlib.Core.Option.{some}
use mathlib.Core.List.{IsPrefix}
use native.Mathlib.Decide.{ℕ_discrete}
use lib.ListN.{get_elem?}
use Rattle.atomic_table.specs.Table.{State, Splits, Joins}
use Rattle.atomic_table.proofs.Lists.{set_else, at_set}
use Rattle.farm_board.specs.BoardState.{BoardState}
use Rattle.farm_board.specs.Histories.{board_after, IsOut, entries_by}
use Rattle.farm_board.specs.Views.{split_left, split_right, joined_view, ended_view, IsFree}
use Rattle.farm_board.specs.Passes.{IsGiving}
use Rattle.farm_board.specs.Rules.{HasNumber, Fits, IsOver, Apart, SameTicket, Owns, SameNumber, SomeHasSeenAll, IsConsistent}
use Rattle.farm_board.specs.declared.entries.HistoryEntry.{HistoryEntry}
use Rattle.farm_board.specs.declared.view.View.{View}
use Rattle.farm_board.proofs.Prefixes.{prefix_length, prefix_whole}
use Rattle.farm_board.proofs.Views.{set_at, same_view, each_set, each_more, apart_less, apart_more, total_left_set, total_spare_set, total_left_more, total_spare_more, waiting_set, waiting_more, whole_set, whole_more, idle_set, idle_less}
use Rattle.farm_board.proofs.Turns.{not_both}

-- Splitting

-- the left part has the numbers of the whole but the one to give
left_names : (n share : ℕ) (v : View) → HasNumber n (split_left share v) → (n ≡ v.number) ⊎ (v.taken_in ≡ Some n)
left_names n share v o = ⊎_elim (λ a. inl a) (λ r. ⊎_elim (λ (a : None ≡ Some n). absurd (cc a)) (λ a. inr a) r) o

left_whole : (n share : ℕ) (v : View) → HasNumber n (split_left share v) → HasNumber n v
left_whole n share v o = ⊎_elim (λ a. inl a) (λ a. inr (inr a)) (left_names n share v o)

-- the right part has the number to give alone
right_names : (n g share : ℕ) (v : View) → v.to_give ≡ Some g → v.taken_in ≡ None → HasNumber n (split_right share v) → n ≡ g
right_names n g share v to_give none_taken o =
    ⊎_elim (λ (a : n ≡ unwrap_or v.to_give 0). a ∙ ap (λ (z : Option ℕ). unwrap_or z 0) to_give)
    (λ r. ⊎_elim (λ (a : None ≡ Some n). absurd (cc a)) (λ (a : v.taken_in ≡ Some n). let no : None ≡ Some n = sym none_taken ∙ a in absurd (cc no)) r) o

pub splits : {S : Type 0} (state_of : S → BoardState) (start : BoardState) (id g share : ℕ) (v : View) → IsGiving g v → share ≤ v.left
    → Splits (IsConsistent state_of start) id v (split_left share v) (split_right share v)
splits {S} state_of start id g share v is few s r at =
    let l : View = split_left share v in
    let w : View = split_right share v in
    let live = is.resting.live in
    let f = r.each id v at live in
    let number : w.number ≡ g = ap (λ (z : Option ℕ). unwrap_or z 0) is.to_give in
    let to_give = f.to_give g is.to_give in
    let gives : Owns g v = (live, inr (inl is.to_give)) in
    let sum = total_left_set s.views id v l at in
    let sum' = total_left_more (set s.views id l) w in
    let spare = total_spare_set s.views id v l at in
    let spare' = total_spare_more (set s.views id l) w in
    let bound = r.bound in
    let room = r.room in
    let none_comes : (x : HistoryEntry) → v.coming ≡ Some x → ⊥ = λ x some_is. let no : None ≡ Some x = sym is.resting.coming ∙ some_is in absurd (cc no) in
    let none_taken : (n : ℕ) → v.taken_in ≡ Some n → ⊥ = λ n some_is. let no : None ≡ Some n = sym is.taken_in ∙ some_is in absurd (cc no) in
    let no_ticket : (k : ℕ) → v.ticket ≡ Some k → ⊥ = λ k some_is. let no : None ≡ Some k = sym is.resting.ticket ∙ some_is in absurd (cc no) in
    let left_fits : Fits start r.history r.served r.drawn l = record {
      start = f.start;
      seen = f.seen;
      mine = f.mine;
      to_give = λ n none_is. absurd (cc none_is);
      taken_in = λ n some_is. absurd (none_taken n some_is);
      out = λ n o. f.out n (left_whole n share v o);
      ticket = f.ticket;
      turn = f.turn;
      kept = f.kept;
      coming = λ x some_is. absurd (none_comes x some_is);
    } in
    let right_fits : Fits start r.history r.served r.drawn w = record {
      start = f.start;
      seen = f.seen;
      mine = ap (λ (n : ℕ). entries_by n r.history) number ∙ to_give.0;
      to_give = λ n none_is. absurd (cc none_is);
      taken_in = λ n some_is. absurd (none_taken n some_is);
      out = λ n o. subst (λ (z : ℕ). IsOut z (board_after start r.history)) (sym (right_names n g share v is.to_give is.taken_in o)) (f.out g (inr (inl is.to_give)));
      ticket = λ k some_is. absurd (no_ticket k some_is);
      turn = λ on. not_both v.turn is.resting.turn on;
      kept = λ on. not_both v.kept is.resting.kept on;
      coming = λ x some_is. absurd (none_comes x some_is);
    } in
    -- no other view owns the number to give
    let alone : (j : ℕ) (u : View) → get_elem? (set s.views id l) j ≡ some u → Owns g u → ⊥ = λ j u e o. ⊎_elim
    (λ (t : (j ≡ id) × (l ≡ u)).
    let o' : Owns g l = subst (λ (z : View). Owns g z) (sym t.1) o in
    ⊎_elim (λ a. to_give.1 a) (λ a. none_taken g a) (left_names g share v o'.1))
    (λ (t : (j ≢ id) × (get_elem? s.views j ≡ some u)). t.0 (sym (r.one_number id j v u at t.1 (g, gives, o))))
    (at_set s.views id j l u e) in record {
      history = r.history;
      drawn = r.drawn;
      served = r.served;
      words = r.words;
      within = r.within;
      begins = r.begins;
      legal = r.legal;
      bound = omega arith;
      few = r.few;
      room = omega arith;
      one_slot = r.one_slot;
      each = each_more (λ u. u.ended ≡ false → Fits start r.history r.served r.drawn u) (set s.views id l) w (λ _. right_fits)
          (each_set (λ i u. u.ended ≡ false → Fits start r.history r.served r.drawn u) s.views id l (λ _. left_fits) (λ i u other e. r.each i u e));
      over = each_more (λ u. u.ended ≡ true → IsOver u) (set s.views id l) w (λ dead. not_both v.ended live dead)
          (each_set (λ i u. u.ended ≡ true → IsOver u) s.views id l (λ dead. not_both v.ended live dead) (λ i u other e. r.over i u e));
      waiting = λ k from to. waiting_more (set s.views id l) w k (waiting_set s.views id v l k at (λ some_is. some_is) (r.waiting k from to));
      one_ticket = apart_more SameTicket (set s.views id l) w (λ j u e same. no_ticket same.0 same.1) (λ j u e same. no_ticket same.0 same.2)
          (apart_less SameTicket s.views id v l at (λ u same. same) (λ u same. same) r.one_ticket);
      one_number = apart_more SameNumber (set s.views id l) w
          (λ j u e same. alone j u e (subst (λ (z : ℕ). Owns z u) (right_names same.0 g share v is.to_give is.taken_in same.1.1) same.2))
          (λ j u e same. alone j u e (subst (λ (z : ℕ). Owns z u) (right_names same.0 g share v is.to_give is.taken_in same.2.1) same.1))
          (apart_less SameNumber s.views id v l at (λ u same. (same.0, (live, left_whole same.0 share v same.1.1), same.2)) (λ u same. (same.0, same.1, (live, left_whole same.0 share v same.2.1))) r.one_number);
      whole = whole_more r.history (set s.views id l) w (whole_set r.history s.views id v l at live (λ seen_is. seen_is) r.whole);
      home = λ idle. r.home (idle_set s.views id v l at is.resting.turn (idle_less (set s.views id l) w idle));
    }

-- Joining

longer_fits : (history xs ys : List HistoryEntry) (b : Bool) → IsPrefix xs history → IsPrefix ys history → IsPrefix (if b then ys else xs) history
longer_fits history xs ys true p q = q
longer_fits history xs ys false p q = p

whole_either : (history xs ys : List HistoryEntry) → IsPrefix xs history → IsPrefix ys history → (xs ≡ history) ⊎ (ys ≡ history) → (b : Bool) → nat_lt (length xs) (length ys) ≡ b → (if b then ys else xs) ≡ history
whole_either history xs ys p q is true e =
    let more : length xs < length ys = grind (arith, nat_tests) in
    ⊎_elim (λ (a : xs ≡ history). let l = prefix_length ys history q in let n : length xs ≡ length history = ap length a in absurd (omega arith)) (λ (a : ys ≡ history). a) is
whole_either history xs ys p q is false e =
    let less : length ys ≤ length xs = grind (arith, nat_tests) in
    ⊎_elim (λ (a : xs ≡ history). a) (λ (a : ys ≡ history). let n : length ys ≡ length history = ap length a in prefix_whole xs history p (omega arith)) is

-- who of the two owned the number before the join
record Former {S : Type 0} (s : State (Option S) View) (id other n : ℕ) : Type 0 where
  k : ℕ
  u : View
  which : (k ≡ id) ⊎ (k ≡ other)
  at : get_elem? s.views k ≡ some u
  owns : Owns n u

-- another view, which owned it before
record Beside {S : Type 0} (s : State (Option S) View) (id other n i : ℕ) (a : View) : Type 0 where
  not_id : i ≢ id
  not_other : i ≢ other
  at : get_elem? s.views i ≡ some a
  owns : Owns n a

abbrev Owner : {S : Type 0} (s : State (Option S) View) (id other n i : ℕ) (a : View) → Type 0
Owner s id other n i a = ((i ≡ id) × Former s id other n) ⊎ Beside s id other n i a

pub joins : {S : Type 0} (state_of : S → BoardState) (start : BoardState) (id other : ℕ) (v w : View) → IsFree v → IsFree w → Joins (IsConsistent state_of start) id v other w (joined_view v w) ended_view
joins {S} state_of start id other v w vf wf s r at apart there =
    let b : View = joined_view v w in
    let v1 : List View = set s.views id b in
    let vl = vf.resting.live in
    let wl = wf.resting.live in
    let f = r.each id v at vl in
    let there' : get_elem? s.views other ≡ some w = ⊎_elim (λ (t : (other ≡ id) × (b ≡ w)). absurd (apart t.0)) (λ (t : (other ≢ id) × (get_elem? s.views other ≡ some w)). t.1) (at_set s.views id other b w there) in
    let g = r.each other w there' wl in
    let v_owns : Owns v.number v = (vl, inl refl) in
    let w_owns : Owns w.number w = (wl, inl refl) in
    let sum = total_left_set s.views id v b at in
    let sum' = total_left_set v1 other w ended_view there in
    let spare = total_spare_set s.views id v b at in
    let spare' = total_spare_set v1 other w ended_view there in
    let bound = r.bound in
    let room = r.room in
    let no_gift : (n : ℕ) → v.to_give ≡ Some n → ⊥ = λ n some_is. let no : None ≡ Some n = sym vf.to_give ∙ some_is in absurd (cc no) in
    let apart_numbers : w.number ≢ v.number = λ same. apart (sym (r.one_number id other v w at there' (v.number, v_owns, (wl, inl (sym same))))) in
    let both_fits : Fits start r.history r.served r.drawn b = record {
      start = f.start;
      seen = longer_fits r.history v.seen w.seen (nat_lt (length v.seen) (length w.seen)) f.seen g.seen;
      mine = f.mine;
      to_give = λ n some_is. absurd (no_gift n some_is);
      taken_in = λ n some_is. let is : w.number ≡ n = cc some_is in (ap (λ (z : ℕ). entries_by z r.history) (sym is) ∙ g.mine, λ same. apart_numbers (is ∙ same), λ gift_is. no_gift n gift_is, g.seen, f.seen);
      out = λ n o. ⊎_elim (λ (a : n ≡ v.number). f.out n (inl a)) (λ q. ⊎_elim (λ (a : v.to_give ≡ Some n). absurd (no_gift n a)) (λ (a : Some w.number ≡ Some n). let is : w.number ≡ n = cc a in g.out n (inl (sym is))) q) o;
      ticket = λ k some_is. let no : None ≡ Some k = sym vf.resting.ticket ∙ some_is in absurd (cc no);
      turn = λ on. not_both v.turn vf.resting.turn on;
      kept = λ on. not_both v.kept vf.resting.kept on;
      coming = λ x some_is. let no : None ≡ Some x = sym vf.resting.coming ∙ some_is in absurd (cc no);
    } in
    let owner : (n i : ℕ) (a : View) → get_elem? (set v1 other ended_view) i ≡ some a → Owns n a → Owner s id other n i a = λ n i a e o. ⊎_elim
    (λ (t : (i ≡ other) × (ended_view ≡ a)). let dead : true ≡ a.ended = ap (λ (z : View). z.ended) t.1 in not_both a.ended o.0 (sym dead))
    (λ (t : (i ≢ other) × (get_elem? v1 i ≡ some a)). ⊎_elim
    (λ (t' : (i ≡ id) × (b ≡ a)).
    let o' : Owns n b = subst (λ (z : View). Owns n z) (sym t'.1) o in
    inl (
      t'.0,
      ⊎_elim (λ (x : n ≡ v.number). record { k = id; u = v; which = inl refl; at = at; owns = (vl, inl x) })
          (λ q. ⊎_elim (λ (x : v.to_give ≡ Some n). absurd (no_gift n x)) (λ (x : Some w.number ≡ Some n). let is : w.number ≡ n = cc x in record { k = other; u = w; which = inr refl; at = there'; owns = (wl, inl (sym is)) }) q) o'.1,
    ))
    (λ (t' : (i ≢ id) × (get_elem? s.views i ≡ some a)). inr record { not_id = t'.0; not_other = t.0; at = t'.1; owns = o }) (at_set s.views id i b a t.1))
    (at_set v1 other i ended_view a e) in
    let numbers : Apart SameNumber (set v1 other ended_view) = λ i j a c ia jc same. let n = same.0 in ⊎_elim
    (λ p. ⊎_elim (λ q. p.0 ∙ sym q.0)
    (λ q. let m = p.1 in let k : m.k ≡ j = r.one_number m.k j m.u c m.at q.at (n, m.owns, q.owns) in ⊎_elim (λ (h : m.k ≡ id). absurd (q.not_id (sym k ∙ h))) (λ (h : m.k ≡ other). absurd (q.not_other (sym k ∙ h))) m.which) (owner n j c jc same.2))
    (λ p. ⊎_elim
    (λ q. let m = q.1 in let k : m.k ≡ i = r.one_number m.k i m.u a m.at p.at (n, m.owns, p.owns) in ⊎_elim (λ (h : m.k ≡ id). absurd (p.not_id (sym k ∙ h))) (λ (h : m.k ≡ other). absurd (p.not_other (sym k ∙ h))) m.which)
    (λ q. r.one_number i j a c p.at q.at (n, p.owns, q.owns)) (owner n j c jc same.2))
    (owner n i a ia same.1) in
    let at_both : get_elem? (set v1 other ended_view) id ≡ some b = set_else v1 other id ended_view (λ e. apart (sym e)) ∙ set_at s.views id v b at in
    let seen_whole : (v.seen ≡ r.history) ⊎ (w.seen ≡ r.history) → SomeHasSeenAll r.history (set v1 other ended_view) = λ is.
    (id, b, at_both, vl, whole_either r.history v.seen w.seen f.seen g.seen is (nat_lt (length v.seen) (length w.seen)) refl) in
    let whole : SomeHasSeenAll r.history (set v1 other ended_view) = (let q = r.whole in dite (ℕ_discrete q.0 id)
    (λ same. seen_whole (inl (ap (λ (z : View). z.seen) (sym (same_view s.views q.0 id q.1 v same q.2 at)) ∙ q.4)))
    (λ not_id. dite (ℕ_discrete q.0 other)
    (λ same. seen_whole (inr (ap (λ (z : View). z.seen) (sym (same_view s.views q.0 other q.1 w same q.2 there')) ∙ q.4)))
    (λ not_other. (q.0, q.1, set_else v1 other q.0 ended_view not_other ∙ (set_else s.views id q.0 b not_id ∙ q.2), q.3, q.4)))) in record {
      history = r.history;
      drawn = r.drawn;
      served = r.served;
      words = r.words;
      within = r.within;
      begins = r.begins;
      legal = r.legal;
      bound = omega arith;
      few = r.few;
      room = omega arith;
      one_slot = r.one_slot;
      each = each_set (λ i u. u.ended ≡ false → Fits start r.history r.served r.drawn u) v1 other ended_view (λ no. absurd (cc no))
          (λ i u _ e. each_set (λ j z. z.ended ≡ false → Fits start r.history r.served r.drawn z) s.views id b (λ _. both_fits) (λ j z _ e'. r.each j z e') i u e);
      over = each_set (λ i u. u.ended ≡ true → IsOver u) v1 other ended_view (λ _. record { left = refl; spare = refl; ticket = refl; turn = refl })
          (λ i u _ e. each_set (λ j z. z.ended ≡ true → IsOver z) s.views id b (λ dead. not_both v.ended vl dead) (λ j z _ e'. r.over j z e') i u e);
      waiting = λ k from to. waiting_set v1 other w ended_view k there (λ some_is. let no : None ≡ Some k = sym wf.resting.ticket ∙ some_is in absurd (cc no))
          (waiting_set s.views id v b k at (λ some_is. some_is) (r.waiting k from to));
      one_ticket = apart_less SameTicket v1 other w ended_view there (λ u same. let n : None ≡ Some same.0 = same.1 in absurd (cc n)) (λ u same. let n : None ≡ Some same.0 = same.2 in absurd (cc n))
          (apart_less SameTicket s.views id v b at (λ u same. same) (λ u same. same) r.one_ticket);
      one_number = numbers;
      whole = whole;
      home = λ idle. r.home (idle_set s.views id v b at vf.resting.turn (idle_set v1 other w ended_view there wf.resting.turn idle));
    }
