use Rattle.std.proofs.Common.{rules, ◌≡◌, ap}
use Rattle.atomic_table.specs.Table.{Me}
use Rattle.farm_board.specs.Views.{with_coming}
use Rattle.farm_board.specs.declared.entries.HistoryEntry.{HistoryEntry}
use Rattle.farm_board.specs.declared.entries.HistoryEntry.TheVariants as entry
use Rattle.farm_board.specs.declared.view.View.{View}
use Rattle.farm_board.proofs.Passes.{then_is, ends_turn, empty_after_turn, next_split, next_there, room_for, few_given}
use Rattle.farm_board.proofs.calls.split_turn.Goals as goal

abbrev its_entry : (g : _) → goal.After-end_turn g → HistoryEntry
its_entry g c = entry.Split c.args.number c.split-new.result

pub split-new-requires-clause-room : goal.split-new-requires-clause-room
split-new-requires-clause-room g c = room_for _ _ _ c.take_turn-held.ensures.turn c.requires.spare

pub split-new-requires-clause-few : goal.split-new-requires-clause-few
split-new-requires-clause-few g c = few_given _ _ _ c.take_turn-held.ensures.turn

pub mark_entry-requires-clause-next : goal.mark_entry-requires-clause-next
mark_entry-requires-clause-next g c =
    let t = c.take_turn-held.ensures.turn in
    next_there _ _ _ (entry.Split c.args.number c.split-new.result) t (next_split _ _ _ _ _ t c.requires.number c.requires.spare c.split-new.ensures.number)

pub end_turn-requires-clause-entry : goal.end_turn-requires-clause-entry
end_turn-requires-clause-entry g c =
    let w = c.take_turn-held.new.seat.me.0 in
    let e : HistoryEntry = entry.Split c.args.number c.split-new.result in
    let x_is : c.mark_entry.new.seat.me.0 ≡ with_coming w e = ap (λ (m : Me _ View). m.0) c.mark_entry.ensures.view in
    (e, ap (λ (z : View). z.coming) x_is, then_is c.args.seat.now.me.0 w c.mark_entry.new.seat.me.0 _ _ e c.take_turn-held.ensures.turn c.split-new.ensures.next x_is)

pub returns-clause-table : goal.returns-clause-table
returns-clause-table g c = (
  search rules,
  empty_after_turn c.take_turn-held.new.seat.me.0 (its_entry g c) c.mark_entry.new.seat.me c.end_turn.new.seat.me (ap (λ (m : Me _ View). m.0) c.mark_entry.ensures.view) c.end_turn.ensures.view,
)

pub returns-clause-ended : goal.returns-clause-ended
returns-clause-ended g c =
    let t = c.take_turn-held.ensures.turn in
    ends_turn c.args.seat.now.me.0 c.take_turn-held.new.seat.me.0 _ (its_entry g c) c.mark_entry.new.seat.me c.end_turn.new.seat.me t (ap (λ (m : Me _ View). m.0) c.mark_entry.ensures.view) c.end_turn.ensures.view
    (next_split _ _ _ _ _ t c.requires.number c.requires.spare c.split-new.ensures.number)
