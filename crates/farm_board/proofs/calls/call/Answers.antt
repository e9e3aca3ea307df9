use Rattle.std.proofs.Common.{rules, ◌≡◌, refl, ap}
use Rattle.atomic_table.specs.Table.{Me}
use Rattle.farm_board.specs.Views.{with_coming}
use Rattle.farm_board.specs.Steps.{EndsTurn}
use Rattle.farm_board.specs.Passes.{call_of}
use Rattle.farm_board.specs.declared.entries.HistoryEntry.{HistoryEntry}
use Rattle.farm_board.specs.declared.entries.HistoryEntry.TheVariants as entry
use Rattle.farm_board.specs.declared.view.View.{View}
use Rattle.farm_board.proofs.Passes.{then_is, ends_turn, empty_after_turn, next_call, calls_after_turn, free_after_turn, keeps_after_turn, live_between, call_suits}
use Rattle.farm_board.proofs.calls.call.Goals as goal

abbrev its_entry : (g : _) → goal.After-end_turn g → HistoryEntry
its_entry g c = entry.Call (call_of c.args.number c.args.event.now c.call-reply.result)

pub end_turn-requires-clause-entry : goal.end_turn-requires-clause-entry
end_turn-requires-clause-entry g c =
    let w = c.have_turn-held.new.seat.me.0 in
    let e : HistoryEntry = entry.Call (call_of c.args.number c.args.event.now c.call-reply.result) in
    let x_is : c.mark_entry.new.seat.me.0 ≡ with_coming w e = ap (λ (m : Me _ View). m.0) c.mark_entry.ensures.view in
    (e, ap (λ (z : View). z.coming) x_is, then_is c.args.seat.now.me.0 w c.mark_entry.new.seat.me.0 _ _ e c.have_turn-held.ensures.turn c.call-reply.ensures.next x_is)

ended : (g : _) (c : goal.After-end_turn g) → EndsTurn c.args.seat.now.me.0 c.end_turn.new.seat.me.0 (its_entry g c)
ended g c =
    let t = c.have_turn-held.ensures.turn in
    ends_turn c.args.seat.now.me.0 c.have_turn-held.new.seat.me.0 _ (its_entry g c) c.mark_entry.new.seat.me c.end_turn.new.seat.me t (ap (λ (m : Me _ View). m.0) c.mark_entry.ensures.view) c.end_turn.ensures.view
    (next_call _ _ _ _ _ _ t c.requires.number c.call-reply.ensures.reply)

pub returns-clause-free : goal.returns-clause-free
returns-clause-free g c = (
  free_after_turn (ended g c) (live_between _ _ c.requires.between.0) refl,
  empty_after_turn c.have_turn-held.new.seat.me.0 (its_entry g c) c.mark_entry.new.seat.me c.end_turn.new.seat.me (ap (λ (m : Me _ View). m.0) c.mark_entry.ensures.view) c.end_turn.ensures.view,
)

pub returns-clause-calls : goal.returns-clause-calls
returns-clause-calls g c =
    let same : c.end_turn.new.seat.table_id ≡ c.args.seat.now.table_id = search rules in
    calls_after_turn same (ended g c) c.requires.number c.requires.left

pub returns-clause-keeps : goal.returns-clause-keeps
returns-clause-keeps g c = keeps_after_turn (ended g c) c.requires.number (call_suits _ _ c.requires.between.0)
