-- The board at its start and at its end.
use Rattle.std.proofs.Common.{◌≡◌, ◌+◌, ℕ, zero, suc, ◌<◌, ◌≤◌, Bool, List, [], ◌∷◌, length, refl, ap, sym, ◌∙◌, subst, inl, ⊎_elim, arith}
use Rattle.std.specs.Prelude.{Option, Some, None}
use Rattle.std.specs.declared.snapshot.Snapshot.{Snapshot}
use mathlib.Core.Option.{some, some-injective, some-ne-none}
use lib.ListN.{get_elem?}
use Rattle.atomic_table.specs.Table.{Final, Seen, opening as table_opening}
use Rattle.farm_board.specs.Homes.{Home}
use Rattle.farm_board.specs.BoardState.{BoardState}
use Rattle.farm_board.specs.Histories.{board_after, IsOut, IsAlone, IsOpening, opening_board, entries_by, is_in}
use Rattle.farm_model.specs.State.{State as FarmState}
use Rattle.farm_board.specs.Views.{opening_view, IsResting}
use Rattle.farm_board.specs.Passes.{IsSoundView}
use Rattle.farm_board.specs.Rules.{Fits, IsIdle, IsConsistent}
use Rattle.farm_board.specs.declared.entries.HistoryEntry.{HistoryEntry}
use Rattle.farm_board.specs.declared.view.View.{View}
use Rattle.farm_board.proofs.Numbers.{in_here, in_single}
use Rattle.farm_board.proofs.Histories.{whole_if_alone}
use Rattle.farm_board.proofs.Views.{same_view, none_turn}
use Rattle.farm_board.proofs.Turns.{not_both, dead_or}

only : (w : View) (i : ℕ) (v : View) → get_elem? (w ∷ []) i ≡ some v → (i ≡ 0) × (w ≡ v)
only w zero v e = (refl, some-injective w v e)
only w (suc i) v e = absurd (some-ne-none v (sym e))

pub opens : {S : Type 0} (state_of : S → BoardState) (start : Snapshot BoardState) (h : S) (slots : List (Option S)) → slots ≡ Some h ∷ [] → state_of h ≡ start.value → IsOpening start.value → 1 ≤ start.value.seats
    → IsConsistent state_of start.value (table_opening (0 ∷ 0 ∷ []) slots (opening_view start))
opens {S} state_of start h slots are is begins some_seat =
    let w : View = opening_view start in
    let out : IsOut 0 start.value = ap (λ (xs : List ℕ). is_in 0 xs) begins.out ∙ in_here 0 [] in
    let one_out : length start.value.out ≡ 1 = ap (λ (xs : List ℕ). length xs) begins.out in
    let fits : Fits start.value [] 0 0 w = record {
      start = refl;
      seen = ([], refl);
      mine = refl;
      to_give = λ n none_is. absurd (cc none_is);
      taken_in = λ n none_is. absurd (cc none_is);
      out = λ n names. ⊎_elim (λ (e : n ≡ 0). subst (λ (z : ℕ). IsOut z start.value) (sym e) out)
          (λ q. ⊎_elim (λ (e : None ≡ Some n). absurd (cc e)) (λ (e : None ≡ Some n). absurd (cc e)) q) names;
      ticket = λ k none_is. absurd (cc none_is);
      turn = λ no. absurd (cc no);
      kept = λ no. absurd (cc no);
      coming = λ e none_is. absurd (cc none_is);
    } in
    subst (λ (z : List (Option S)). IsConsistent state_of start.value (table_opening (0 ∷ 0 ∷ []) z w)) (sym are) record {
      history = [];
      drawn = 0;
      served = 0;
      words = refl;
      within = omega arith;
      begins = begins;
      legal = tt;
      bound = omega arith;
      few = (let none = begins.given in omega arith);
      room = omega arith;
      one_slot = refl;
      each = λ i v e live. subst (λ (z : View). Fits start.value [] 0 0 z) (only w i v e).1 fits;
      over = λ i v e dead. absurd (not_both w.ended refl (ap (λ (z : View). z.ended) (only w i v e).1 ∙ dead));
      waiting = λ k from to. absurd (omega arith);
      one_ticket = λ i j v u a b same. (only w i v a).0 ∙ sym (only w j u b).0;
      one_number = λ i j v u a b same. (only w i v a).0 ∙ sym (only w j u b).0;
      whole = (0, w, refl, refl, refl);
      home = λ _. (h, refl, is);
    }

-- where one pass alone is out in what it has seen, that is the whole history, and the board in the slot is the one after it
pub closes : {S : Type 0} (state_of : S → BoardState) (start : BoardState) (words : List ℕ) (slots : List (Option S)) (id : ℕ) (v : View) → IsResting v → entries_by v.number v.seen ≡ v.mine
    → IsAlone v.number (board_after v.start.value v.seen) → Final (Seen (IsConsistent state_of start) id v) words slots
    → (h : S) × (get_elem? slots 0 ≡ some (Some h)) × (state_of h ≡ board_after v.start.value v.seen)
closes {S} state_of start words slots id v at_rest own alone f =
    let s = f.0 in
    let r = f.1.0 in
    let at = f.1.1 in
    let live = at_rest.live in
    let fit = r.each id v at live in
    let whole : r.history ≡ v.seen = whole_if_alone start v.number v.seen r.history fit.seen r.legal (subst (λ (z : BoardState). IsAlone v.number (board_after z v.seen)) fit.start alone) (fit.mine ∙ sym own) in
    let alone_now : IsAlone v.number (board_after start r.history) = subst (λ (z : BoardState × List HistoryEntry). IsAlone v.number (board_after z.0 z.1)) (λ k. (fit.start k, sym whole k)) alone in
    let idle : IsIdle s.views = λ i u e. none_turn u.turn (λ on. dead_or u.ended
    (λ u_live.
    let same : u.number ≡ v.number = alone_now u.number ((r.each i u e u_live).out u.number (inl refl)) in
    let is : i ≡ id = r.one_number i id u v e at (u.number, (u_live, inl refl), (live, inl same)) in
    not_both u.turn (ap (λ (z : View). z.turn) (same_view s.views i id u v is e at) ∙ at_rest.turn) on)
    (λ dead. not_both u.turn (r.over i u e dead).turn on)) in
    let home = r.home idle in
    let h = home.0 in
    (h, f.4 0 (Some h) (ap (λ (hs : List (Home (Option S))). get_elem? hs 0) home.1), home.2 ∙ (ap (λ (z : BoardState). board_after z r.history) (sym fit.start) ∙ ap (λ (z : List HistoryEntry). board_after v.start.value z) whole))

pub third : {P Q R : Type 0} → P × Q × R → R
third t = t.2

pub begins : (s : BoardState) (state : FarmState) (seats : ℕ) (journal : Bool) → s ≡ opening_board state seats journal → seats < 65536 → IsOpening s
begins s state seats journal is small = subst (λ (z : BoardState). IsOpening z) (sym is) record { out = refl; given = refl; seats = small }

-- where all seats but the pass's own are spare, no other pass is out
pub alone : (v : View) → IsSoundView v → v.start.value.seats ≤ v.spare + 1 → IsAlone v.number (board_after v.start.value v.seen)
alone v k all_spare m out = let room = k.room in in_single v.number m (board_after v.start.value v.seen).out (omega arith) k.out out
