-- Lists of views of which one is set, or that are one longer.
use Rattle.std.proofs.Common.{◌≡◌, ◌≢◌, ℕ, zero, suc, ◌+◌, ◌<◌, ◌≤◌, ◌⊎◌, Bool, true, false, List, [], ◌∷◌, ◌++◌, length, set, refl, ap, sym, ◌∙◌, subst, ⊎_elim, inl, inr, arith}
use Rattle.std.specs.Prelude.{Option, Some, None}
use mathlib.Core.Logic.{dite}
use mathlib.Core.Option.{some, some-injective, some-ne-none}
use native.Mathlib.Decide.{ℕ_discrete}
use lib.ListN.{get_elem?}
use Rattle.atomic_table.proofs.Lists.{at_set, set_here, set_else, at_longer}
use Rattle.farm_board.specs.declared.entries.HistoryEntry.{HistoryEntry}
use Rattle.farm_board.specs.declared.view.View.{View}
use Rattle.farm_board.specs.Rules.{total_left, total_spare, Apart, SomeHasTicket, SomeHasSeenAll, IsIdle}

inside : (views : List View) (i : ℕ) (v : View) → get_elem? views i ≡ some v → i < length views
inside [] i v e = absurd (some-ne-none v (sym e))
inside (x ∷ xs) zero v e = omega arith
inside (x ∷ xs) (suc i) v e = let r = inside xs i v e in omega arith

pub set_at : (views : List View) (i : ℕ) (v w : View) → get_elem? views i ≡ some v → get_elem? (set views i w) i ≡ some w
set_at views i v w e = set_here views i w (inside views i v e)

pub same_view : (views : List View) (i j : ℕ) (v w : View) → i ≡ j → get_elem? views i ≡ some v → get_elem? views j ≡ some w → v ≡ w
same_view views i j v w e a b = some-injective v w (sym a ∙ (ap (λ (k : ℕ). get_elem? views k) e ∙ b))

pub at_end : (l : List View) (a b : View) (j : ℕ) → get_elem? (l ++ a ∷ []) j ≡ some b → (get_elem? l j ≡ some b) ⊎ ((j ≡ length l) × (a ≡ b))
at_end [] a b zero e = inr (refl, some-injective a b e)
at_end [] a b (suc j) e = absurd (some-ne-none b (sym e))
at_end (x ∷ xs) a b zero e = inl e
at_end (x ∷ xs) a b (suc j) e = ⊎_elim (λ h. inl h) (λ (t : (j ≡ length xs) × (a ≡ b)). inr (ap suc t.0, t.1)) (at_end xs a b j e)

-- What holds of each view

pub each_set : (P : ℕ → View → Type 0) (views : List View) (id : ℕ) (w : View) → P id w → ((i : ℕ) (v : View) → i ≢ id → get_elem? views i ≡ some v → P i v)
    → (i : ℕ) (v : View) → get_elem? (set views id w) i ≡ some v → P i v
each_set P views id w mine others i v e = ⊎_elim (λ (t : (i ≡ id) × (w ≡ v)). subst (λ (x : ℕ × View). P x.0 x.1) (λ k. (sym t.0 k, t.1 k)) mine)
    (λ (t : (i ≢ id) × (get_elem? views i ≡ some v)). others i v t.0 t.1) (at_set views id i w v e)

pub each_more : (P : View → Type 0) (views : List View) (w : View) → P w → ((i : ℕ) (v : View) → get_elem? views i ≡ some v → P v)
    → (i : ℕ) (v : View) → get_elem? (views ++ w ∷ []) i ≡ some v → P v
each_more P views w mine others i v e = ⊎_elim (others i v) (λ (t : (i ≡ length views) × (w ≡ v)). subst P t.1 mine) (at_end views w v i e)

-- Views that are apart

-- the view that is set is related to no other that the old one was not related to
pub apart_set : (R : View → View → Type 0) (views : List View) (id : ℕ) (w : View) → Apart R views
    → ((j : ℕ) (u : View) → j ≢ id → get_elem? views j ≡ some u → R w u → ⊥) → ((j : ℕ) (u : View) → j ≢ id → get_elem? views j ≡ some u → R u w → ⊥)
    → Apart R (set views id w)
apart_set R views id w apart right left i j v u a b r =
    ⊎_elim
    (λ (s : (i ≡ id) × (w ≡ v)). ⊎_elim (λ (t : (j ≡ id) × (w ≡ u)). s.0 ∙ sym t.0)
    (λ (t : (j ≢ id) × (get_elem? views j ≡ some u)). absurd (right j u t.0 t.1 (subst (λ (z : View). R z u) (sym s.1) r))) (at_set views id j w u b))
    (λ (s : (i ≢ id) × (get_elem? views i ≡ some v)). ⊎_elim (λ (t : (j ≡ id) × (w ≡ u)). absurd (left i v s.0 s.1 (subst (λ (z : View). R v z) (sym t.1) r)))
    (λ (t : (j ≢ id) × (get_elem? views j ≡ some u)). apart i j v u s.1 t.1 r) (at_set views id j w u b))
    (at_set views id i w v a)

-- the same, where the view that is set has at most what the old one had
pub apart_less : (R : View → View → Type 0) (views : List View) (id : ℕ) (old w : View) → get_elem? views id ≡ some old → ((u : View) → R w u → R old u) → ((u : View) → R u w → R u old)
    → Apart R views → Apart R (set views id w)
apart_less R views id old w at less more apart =
    apart_set R views id w apart (λ j u other e r. other (sym (apart id j old u at e (less u r)))) (λ j u other e r. other (apart j id u old e at (more u r)))

pub apart_more : (R : View → View → Type 0) (views : List View) (w : View) → ((j : ℕ) (u : View) → get_elem? views j ≡ some u → R w u → ⊥) → ((j : ℕ) (u : View) → get_elem? views j ≡ some u → R u w → ⊥)
    → Apart R views → Apart R (views ++ w ∷ [])
apart_more R views w right left apart i j v u a b r =
    ⊎_elim
    (λ (s : get_elem? views i ≡ some v). ⊎_elim (λ (t : get_elem? views j ≡ some u). apart i j v u s t r)
    (λ (t : (j ≡ length views) × (w ≡ u)). absurd (left i v s (subst (λ (z : View). R v z) (sym t.1) r))) (at_end views w u j b))
    (λ (s : (i ≡ length views) × (w ≡ v)). ⊎_elim (λ (t : get_elem? views j ≡ some u). absurd (right j u t (subst (λ (z : View). R z u) (sym s.1) r)))
    (λ (t : (j ≡ length views) × (w ≡ u)). s.0 ∙ sym t.0) (at_end views w u j b))
    (at_end views w v i a)

-- Sums

pub total_left_set : (views : List View) (i : ℕ) (v w : View) → get_elem? views i ≡ some v → total_left (set views i w) + v.left ≡ total_left views + w.left
total_left_set [] i v w e = absurd (some-ne-none v (sym e))
total_left_set (x ∷ xs) zero v w e = let s : x.left ≡ v.left = ap (λ (u : View). u.left) (some-injective x v e) in omega arith
total_left_set (x ∷ xs) (suc i) v w e = let r = total_left_set xs i v w e in omega arith

pub left_in : (views : List View) (i : ℕ) (v : View) → get_elem? views i ≡ some v → v.left ≤ total_left views
left_in [] i v e = absurd (some-ne-none v (sym e))
left_in (x ∷ xs) zero v e = let s : x.left ≡ v.left = ap (λ (u : View). u.left) (some-injective x v e) in omega arith
left_in (x ∷ xs) (suc i) v e = let r = left_in xs i v e in omega arith

pub total_spare_set : (views : List View) (i : ℕ) (v w : View) → get_elem? views i ≡ some v → total_spare (set views i w) + v.spare ≡ total_spare views + w.spare
total_spare_set [] i v w e = absurd (some-ne-none v (sym e))
total_spare_set (x ∷ xs) zero v w e = let s : x.spare ≡ v.spare = ap (λ (u : View). u.spare) (some-injective x v e) in omega arith
total_spare_set (x ∷ xs) (suc i) v w e = let r = total_spare_set xs i v w e in omega arith

pub total_left_more : (views : List View) (w : View) → total_left (views ++ w ∷ []) ≡ total_left views + w.left
total_left_more [] w = omega arith
total_left_more (x ∷ xs) w = let r = total_left_more xs w in omega arith

pub total_spare_more : (views : List View) (w : View) → total_spare (views ++ w ∷ []) ≡ total_spare views + w.spare
total_spare_more [] w = omega arith
total_spare_more (x ∷ xs) w = let r = total_spare_more xs w in omega arith

-- the rest of the sum
pub total_spare_at : (views : List View) (i : ℕ) (v : View) → get_elem? views i ≡ some v → (others : ℕ) × (total_spare views ≡ others + v.spare) × ((w : View) → total_spare (set views i w) ≡ others + w.spare)
total_spare_at [] i v e = absurd (some-ne-none v (sym e))
total_spare_at (x ∷ xs) zero v e = let s : x.spare ≡ v.spare = ap (λ (u : View). u.spare) (some-injective x v e) in (total_spare xs, omega arith, λ w. omega arith)
total_spare_at (x ∷ xs) (suc i) v e = let r = total_spare_at xs i v e in let is = r.1 in (x.spare + r.0, omega arith, λ w. let q = r.2 w in omega arith)

-- Some view

-- the ticket is still in some view, where the view that is set keeps its own
pub waiting_set : (views : List View) (id : ℕ) (v w : View) (k : ℕ) → get_elem? views id ≡ some v → (v.ticket ≡ Some k → w.ticket ≡ Some k) → SomeHasTicket views k → SomeHasTicket (set views id w) k
waiting_set views id v w k at same q = dite (ℕ_discrete q.0 id)
    (λ is. (id, w, set_at views id v w at, same (ap (λ (z : View). z.ticket) (sym (same_view views q.0 id q.1 v is q.2 at)) ∙ q.3)))
    (λ other. (q.0, q.1, set_else views id q.0 w other ∙ q.2, q.3))

pub waiting_more : (views : List View) (w : View) (k : ℕ) → SomeHasTicket views k → SomeHasTicket (views ++ w ∷ []) k
waiting_more views w k q = (q.0, q.1, at_longer views (w ∷ []) q.0 q.1 q.2, q.3)

pub whole_set : (history : List HistoryEntry) (views : List View) (id : ℕ) (v w : View) → get_elem? views id ≡ some v → w.ended ≡ false → (v.seen ≡ history → w.seen ≡ history) → SomeHasSeenAll history views → SomeHasSeenAll history (set views id w)
whole_set history views id v w at live same q = dite (ℕ_discrete q.0 id)
    (λ is. (id, w, set_at views id v w at, live, same (ap (λ (z : View). z.seen) (sym (same_view views q.0 id q.1 v is q.2 at)) ∙ q.4)))
    (λ other. (q.0, q.1, set_else views id q.0 w other ∙ q.2, q.3, q.4))

pub whole_more : (history : List HistoryEntry) (views : List View) (w : View) → SomeHasSeenAll history views → SomeHasSeenAll history (views ++ w ∷ [])
whole_more history views w q = (q.0, q.1, at_longer views (w ∷ []) q.0 q.1 q.2, q.3, q.4)

-- no view has the turn if none has it once the view is set, which has not got it either
pub idle_set : (views : List View) (id : ℕ) (v w : View) → get_elem? views id ≡ some v → v.turn ≡ false → IsIdle (set views id w) → IsIdle views
idle_set views id v w at off idle i u e = dite (ℕ_discrete i id)
    (λ is. ap (λ (z : View). z.turn) (same_view views i id u v is e at) ∙ off)
    (λ other. idle i u (set_else views id i w other ∙ e))

pub idle_less : (views : List View) (w : View) → IsIdle (views ++ w ∷ []) → IsIdle views
idle_less views w idle i u e = idle i u (at_longer views (w ∷ []) i u e)

pub none_turn : (b : Bool) → (b ≡ true → ⊥) → b ≡ false
none_turn true h = absurd (h refl)
none_turn false h = refl

pub dec_ticket : (o : Option ℕ) (n : ℕ) → Dec (o ≡ Some n)
dec_ticket None n = no (λ e. absurd cc)
dec_ticket (Some t) n = dite (ℕ_discrete t n) (λ e. yes (ap Some e)) (λ ne. no (λ e. ne (cc e)))
