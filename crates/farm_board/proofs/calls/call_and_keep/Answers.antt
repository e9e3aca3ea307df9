use Rattle.std.proofs.Common.{rules, ◌≡◌, ap}
use Rattle.atomic_table.specs.Table.{Me}
use Rattle.farm_board.specs.Views.{with_coming}
use Rattle.farm_board.specs.Steps.{KeepsTurn}
use Rattle.farm_board.specs.Passes.{call_of}
use Rattle.farm_board.specs.declared.entries.HistoryEntry.{HistoryEntry}
use Rattle.farm_board.specs.declared.entries.HistoryEntry.TheVariants as entry
use Rattle.farm_board.specs.declared.view.View.{View}
use Rattle.farm_board.proofs.Passes.{then_is, keeps_turn, empty_after_kept, next_call, calls_after_kept, keeping_after_call, sound_after_kept, live_between, call_suits}
use Rattle.farm_board.proofs.calls.call_and_keep.Goals as goal

abbrev its_entry : (g : _) → goal.After-keep_ticket g → HistoryEntry
its_entry g c = entry.Call (call_of c.args.number c.args.event.now c.call-reply.result)

pub keep_ticket-requires-clause-entry : goal.keep_ticket-requires-clause-entry
keep_ticket-requires-clause-entry g c =
    let w = c.have_turn-held.new.seat.me.0 in
    let e : HistoryEntry = entry.Call (call_of c.args.number c.args.event.now c.call-reply.result) in
    let x_is : c.mark_entry.new.seat.me.0 ≡ with_coming w e = ap (λ (m : Me _ View). m.0) c.mark_entry.ensures.view in
    (call_of c.args.number c.args.event.now c.call-reply.result, ap (λ (z : View). z.coming) x_is, then_is c.args.seat.now.me.0 w c.mark_entry.new.seat.me.0 _ _ e c.have_turn-held.ensures.turn c.call-reply.ensures.next x_is)

kept : (g : _) (c : goal.After-keep_ticket g) → KeepsTurn c.args.seat.now.me.0 c.keep_ticket.new.seat.me.0 (its_entry g c)
kept g c =
    let t = c.have_turn-held.ensures.turn in
    keeps_turn c.args.seat.now.me.0 c.have_turn-held.new.seat.me.0 _ (its_entry g c) c.mark_entry.new.seat.me c.keep_ticket.new.seat.me t (ap (λ (m : Me _ View). m.0) c.mark_entry.ensures.view) c.keep_ticket.ensures.view
    (next_call _ _ _ _ _ _ t c.requires.number c.call-reply.ensures.reply)

pub returns-clause-keeping : goal.returns-clause-keeping
returns-clause-keeping g c = (
  keeping_after_call (kept g c) (live_between _ _ c.requires.between.0),
  empty_after_kept c.have_turn-held.new.seat.me.0 (its_entry g c) c.mark_entry.new.seat.me c.keep_ticket.new.seat.me (ap (λ (m : Me _ View). m.0) c.mark_entry.ensures.view) c.keep_ticket.ensures.view,
)

pub returns-clause-calls : goal.returns-clause-calls
returns-clause-calls g c =
    let same : c.keep_ticket.new.seat.table_id ≡ c.args.seat.now.table_id = search rules in
    calls_after_kept same (kept g c) c.requires.number c.requires.left

pub returns-clause-keeps : goal.returns-clause-keeps
returns-clause-keeps g c = sound_after_kept (kept g c) c.requires.number (call_suits _ _ c.requires.between.0)
