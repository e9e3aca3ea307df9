-- The rejudging of a number, which is open, and what closing it makes.
use Rattle.std.proofs.Common.{ℕ, ◌≡◌, ◌-◌, List, [], ◌∷◌, Option, Some, None, true, false, cond, refl, sym, ap, ◌∙◌, set, nat_lt}
use Rattle.std.specs.List.{slice_get}
use Rattle.std.specs.Option.{option_map, option_and_then, is_some}
use Rattle.farm_kinds.specs.declared.outcomes.How.{How}
use Rattle.farm_model.specs.declared.records.Rejudging.{Rejudging}
use Rattle.farm_model.specs.declared.records.RejudgeState.{RejudgeState}
use Rattle.farm_model.specs.declared.records.RejudgeState.TheVariants as state
use Rattle.farm_model.specs.Numbered.{item_of, change_item}
use Rattle.farm_model.specs.Refusing.{first_of, unless}
use Rattle.farm_model.specs.Rejudgings.{how_closed, close_as, closed, twice_refusal, busy_refusal}
use Rattle.rejudge_book.specs.declared.faults.CloseFault.TheVariants as close
use Rattle.rejudge_book.specs.declared.faults.BookFault.{BookFault}
use Rattle.rejudge_book.specs.declared.faults.BookFault.TheVariants as fault
use Rattle.rejudge_book.specs.Refusals.{close_refusal, reserve_refusal}

-- the item of a number stands at the place before it
pub item_place : {X : Type 0} (xs : List X) (n : ℕ) (x : X) → item_of xs n ≡ Some x → slice_get xs (n - 1) ≡ Some x
item_place xs n x e = elim (nat_lt 0 n) as (λ t. cond t (slice_get xs (n - 1)) None ≡ Some x → slice_get xs (n - 1) ≡ Some x) [ true ↦ λ h. h | false ↦ λ h. cc ] e

pub is_open : (s : RejudgeState) → how_closed s ≡ None → s ≡ state.Open
is_open state.Open e = refl
is_open state.Applied e = cc
is_open state.Cancelled e = cc

pub accepted : (rs : List Rejudging) (n : ℕ) (r : Rejudging) → item_of rs n ≡ Some r → r.state ≡ state.Open → close_refusal rs n ≡ None
accepted rs n r e o =
    ap (λ (i : Option Rejudging). first_of (unless (is_some i) close.NoRejudging ∷ option_map close.Closed (option_and_then how_closed (option_map (λ (x : Rejudging). x.state) i)) ∷ [])) e
    ∙ ap (λ (s : RejudgeState). first_of (None ∷ option_map close.Closed (how_closed s) ∷ [])) o

pub closed_is : (rs : List Rejudging) (n : ℕ) (r : Rejudging) (w : How) → item_of rs n ≡ Some r → closed rs n w ≡ set rs (n - 1) (close_as w r)
closed_is rs n r w e = ap (λ (i : Option Rejudging). change_item rs n (close_as w) i) e

state_open : (s : RejudgeState) → first_of (None ∷ option_map close.Closed (how_closed s) ∷ []) ≡ None → s ≡ state.Open
state_open state.Open h = refl
state_open state.Applied h = cc
state_open state.Cancelled h = cc

-- one that is not refused to be closed is open
pub was_open : (rs : List Rejudging) (n : ℕ) (r : Rejudging) → item_of rs n ≡ Some r → close_refusal rs n ≡ None → r.state ≡ state.Open
was_open rs n r item h =
    state_open r.state (sym (ap (λ (i : Option Rejudging). first_of (unless (is_some i) close.NoRejudging ∷ option_map close.Closed (option_and_then how_closed (option_map (λ (x : Rejudging). x.state) i)) ∷ [])) item) ∙ h)

last_none : (a b : Option BookFault) → first_of (a ∷ b ∷ []) ≡ None → b ≡ None
last_none None None h = refl
last_none None (Some x) h = cc
last_none (Some x) b h = cc

-- where a list is not refused, none of it is busy
pub none_busy : (rs : List Rejudging) (list : List ℕ) → reserve_refusal rs list ≡ None → busy_refusal fault.Busy rs list ≡ None
none_busy rs list h = last_none (twice_refusal fault.Twice list) (busy_refusal fault.Busy rs list) h
