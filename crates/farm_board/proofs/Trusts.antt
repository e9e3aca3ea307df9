-- Steps keep what a board's trust keeps.
use Rattle.std.proofs.Common.{cond, arith, ◌≡◌, ℕ, ◌⊎◌, Bool, true, false, List, [], ◌∷◌, ◌++◌, refl, ap, sym, ◌∙◌, subst, inl, inr, ⊎_elim, ◌-◌}
use Rattle.std.specs.Prelude.{Option, Some, None, All, slice_get, nat_lt, if◌then◌else◌}
use Rattle.std.proofs.lemmas.List.Elements.{All-push, All-nil}
use Rattle.std.proofs.lemmas.Bool.Decides.{nat_tests}
use Rattle.std.specs.Option.{option_or, unwrap_or, option_and_then}
use Rattle.farm_kinds.specs.RuleValue.{RuleValue}
use Rattle.farm_kinds.specs.Rules.{remap_of}
use Rattle.farm_kinds.specs.declared.outcomes.Task.{Task}
use Rattle.farm_kinds.specs.declared.events.Reply.TheVariants as reply
use Rattle.farm_model.specs.Leases.{same_task}
use Rattle.farm_model.specs.Judgings.{task_of, cell_of, Judging}
use Rattle.farm_model.specs.Numbered.{item_of}
use Rattle.farm_model.specs.Replay.{given_by, if_counted, counted_by}
use Rattle.farm_laws.proofs.Cells.{cell_at}
use Rattle.farm_laws.proofs.Steps.{steps, one_cell}
use Rattle.farm_model.specs.State.{State, SettingsValue, start}
use Rattle.farm_model.specs.Farm.{farm_step}
use Rattle.farm_kinds.specs.declared.kinds.Kind.{Kind}
use Rattle.farm_kinds.specs.declared.events.Event.{Event}
use Rattle.farm_kinds.specs.declared.events.Reply.{Reply}
use Rattle.farm_board.specs.BoardState.{BoardState}
use Rattle.farm_board.specs.Histories.{is_no_memory, journal_with_call, board_after_call, opening_board, next_board}
use Rattle.farm_board.specs.Trusts.{Admits, IsAdmitted, AreBacked, AreAdmitted, IsTrusted}
use Rattle.farm_board.specs.declared.entries.Call.{Call}
use Rattle.farm_board.specs.declared.entries.HistoryEntry.TheVariants as entry

-- A step of the farm

cell_is : (o : Option (Option Kind)) (kind : Kind) → o ≡ Some (Some kind) → unwrap_or o None ≡ Some kind
cell_is o kind e = ap (λ (z : Option (Option Kind)). unwrap_or z None) e

pub cell_was : (o : Option (Option Kind)) (kind : Kind) → unwrap_or o None ≡ Some kind → o ≡ Some (Some kind)
cell_was None kind e = absurd (cc e)
cell_was (Some o) kind e = ap Some e

either_cell : (a b : Option Kind) (kind : Kind) → option_or a b ≡ Some kind → (a ≡ Some kind) ⊎ (b ≡ Some kind)
either_cell None b kind e = inr e
either_cell (Some x) b kind e = inl e

same_place : (a b : Task) → same_task a b ≡ true → a ≡ b
same_place a b e = grind (arith, nat_tests)

-- the result that counted is the one that the event gives
from_counted : (r : Reply) (o : Option (Task × Kind)) (g : Task × Kind) → if_counted r o ≡ Some g → o ≡ Some g
from_counted reply.Counted o g e = e
from_counted r o g e = absurd (cc e)

cond_backed : (b : Bool) (admits : Admits) (rule : RuleValue) (p : Task × Kind) (task : Task) (kind : Kind) → same_task p.0 task ≡ b → ((t : Task) (k : Kind) → Some p ≡ Some (t, k) → admits t k ≡ true)
    → cond b (Some (remap_of rule p.1)) None ≡ Some kind → ∥ ((k : Kind) × (admits task k ≡ true) × (kind ≡ remap_of rule k)) ∥₁
cond_backed true admits rule p task kind same a e =
    let place : p.0 ≡ task = same_place p.0 task same in
    let is : remap_of rule p.1 ≡ kind = cc e in
    ∣ (p.1, subst (λ (t : Task). admits t p.1 ≡ true) place (a p.0 p.1 refl), sym is) ∣₁
cond_backed false admits rule p task kind same a e = absurd (cc e)

one_backed : (admits : Admits) (rule : RuleValue) (given : Option (Task × Kind)) (task : Task) (kind : Kind) → ((t : Task) (k : Kind) → given ≡ Some (t, k) → admits t k ≡ true)
    → one_cell rule given task ≡ Some kind → ∥ ((k : Kind) × (admits task k ≡ true) × (kind ≡ remap_of rule k)) ∥₁
one_backed admits rule None task kind a e = absurd (cc e)
one_backed admits rule (Some p) task kind a e = cond_backed (same_task p.0 task) admits rule p task kind refl a e

pub backed_step : (admits : Admits) (s : State) (e : Event) → IsAdmitted admits e → AreBacked admits s → AreBacked admits (farm_step s e).0
backed_step admits s e a h j t kind is =
    let q = steps s e in
    let either = either_cell (cell_at s.judge.judgings j t) _ kind (sym (q.cells j t) ∙ cell_is (cell_of (farm_step s e).0.judge.judgings j t) kind is) in
    subst (λ (rule : RuleValue). ∥ ((k : Kind) × (admits (task_of j t) k ≡ true) × (kind ≡ remap_of rule k)) ∥₁) (sym q.rule)
    (⊎_elim (λ old. h j t kind (cell_was (cell_of s.judge.judgings j t) kind old))
    (λ new. one_backed admits s.judge.rule (counted_by (e, (farm_step s e).1)) (task_of j t) kind (λ task k g. a task k (from_counted (farm_step s e).1 (given_by e) (task, k) g)) new) either)

-- An entry

journal_admitted : (admits : Admits) (j : Option (List Call)) (call : Call) → IsAdmitted admits call.event → AreAdmitted admits j → AreAdmitted admits (journal_with_call j call)
journal_admitted admits None call a h calls is = absurd (cc is)
journal_admitted admits (Some before) call a h calls is =
    let same : before ++ call ∷ [] ≡ calls = cc is in
    subst (λ (z : List Call). All (λ x. IsAdmitted admits x.event) z) same
    (All-push (λ (x : Call). IsAdmitted admits x.event) before call (h before refl) a)

trusted_after_call : (admits : Admits) (b : Bool) (s : BoardState) (call : Call) → IsAdmitted admits call.event → IsTrusted admits s → IsTrusted admits (board_after_call b s call)
trusted_after_call admits true s call a h = h
trusted_after_call admits false s call a h = record { cells = backed_step admits s.state call.event a h.cells; journal = journal_admitted admits s.journal call a h.journal }

pub trusted_call : (admits : Admits) (s : BoardState) (call : Call) → IsAdmitted admits call.event → IsTrusted admits s → IsTrusted admits (next_board s (entry.Call call))
trusted_call admits s call a h = trusted_after_call admits (is_no_memory call.reply) s call a h

pub trusted_opening : (admits : Admits) (state : State) (seats : ℕ) (journal : Bool) → AreBacked admits state → IsTrusted admits (opening_board state seats journal)
trusted_opening admits state seats true h = record {
  cells = h;
  journal = λ calls is. let same : [] ≡ calls = cc is in subst (λ (z : List Call). All (λ x. IsAdmitted admits x.event) z) same (All-nil (λ (x : Call). IsAdmitted admits x.event));
}
trusted_opening admits state seats false h = record { cells = h; journal = λ calls is. absurd (cc is) }

-- The empty farm

no_item : (b : Bool) (n : ℕ) (t : ℕ) (kind : Kind) → option_and_then (λ (judging : Judging). item_of judging.row t) (if b then slice_get [] n else None) ≡ Some (Some kind) → ⊥
no_item true n t kind e = absurd (cc e)
no_item false n t kind e = absurd (cc e)

-- it has no filled cells
pub backed_start : (admits : Admits) (settings : SettingsValue) → AreBacked admits (start settings)
backed_start admits settings j t kind e = absurd (no_item (nat_lt 0 j) (j - 1) t kind e)
