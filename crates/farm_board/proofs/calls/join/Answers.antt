use Rattle.std.proofs.Common.{rules, ◌≡◌, Some, refl, ap, sym, subst}
use Rattle.atomic_table.specs.Table.{Me}
use Rattle.farm_board.specs.Views.{with_coming, joined_view}
use Rattle.farm_board.specs.Steps.{EndsTurn}
use Rattle.farm_board.specs.declared.entries.HistoryEntry.{HistoryEntry}
use Rattle.farm_board.specs.declared.entries.HistoryEntry.TheVariants as entry
use Rattle.farm_board.specs.declared.view.View.{View}
use Rattle.farm_board.specs.Steps.{InTurn}
use Rattle.farm_board.proofs.Seats.{joins}
use Rattle.farm_board.proofs.Passes.{then_is, ends_turn, empty_after_turn, next_join, takes_after_turn, free_after_turn, keeps_after_turn}
use Rattle.farm_board.proofs.calls.join.Goals as goal

abbrev its_entry : (g : _) → goal.After-end_turn g → HistoryEntry
its_entry g c = entry.Join c.args.number c.args.old

pub join_seat-requires : goal.join_seat-requires
join_seat-requires g c = (search rules, search rules, c.requires.free_old.1, search rules, joins _ _ _ _ _ _ c.requires.free.0 c.requires.free_old.0)

pub end_turn-requires-clause-entry : goal.end_turn-requires-clause-entry
end_turn-requires-clause-entry g c =
    let w = c.take_turn-held.new.seat.me.0 in
    let e : HistoryEntry = entry.Join c.args.number c.args.old in
    let x_is : c.mark_entry.new.seat.me.0 ≡ with_coming w e = ap (λ (m : Me _ View). m.0) c.mark_entry.ensures.view in
    (e, ap (λ (z : View). z.coming) x_is, then_is _ w c.mark_entry.new.seat.me.0 _ _ e c.take_turn-held.ensures.turn c.join.ensures x_is)

in_turn : (g : _) (c : goal.After-end_turn g) → InTurn (joined_view c.args.seat.now.me.0 c.args.from.me.0) c.take_turn-held.new.seat.me.0 c.take_turn-held.result.contents
in_turn g c = subst (λ (m : Me _ View). InTurn m.0 c.take_turn-held.new.seat.me.0 c.take_turn-held.result.contents) c.join_seat.ensures.2 c.take_turn-held.ensures.turn

ended : (g : _) (c : goal.After-end_turn g) → EndsTurn (joined_view c.args.seat.now.me.0 c.args.from.me.0) c.end_turn.new.seat.me.0 (its_entry g c)
ended g c =
    let t = in_turn g c in
    ends_turn (joined_view c.args.seat.now.me.0 c.args.from.me.0) c.take_turn-held.new.seat.me.0 _ (its_entry g c) c.mark_entry.new.seat.me c.end_turn.new.seat.me t (ap (λ (m : Me _ View). m.0) c.mark_entry.ensures.view) c.end_turn.ensures.view
    (next_join c.args.seat.now.me.0 c.args.from.me.0 c.take_turn-held.new.seat.me.0 _ _ _ t c.requires.number.0 c.requires.number.1)

pub returns-clause-free : goal.returns-clause-free
returns-clause-free g c = (
  free_after_turn (ended g c) c.requires.free.0.resting.live refl,
  empty_after_turn c.take_turn-held.new.seat.me.0 (its_entry g c) c.mark_entry.new.seat.me c.end_turn.new.seat.me (ap (λ (m : Me _ View). m.0) c.mark_entry.ensures.view) c.end_turn.ensures.view,
)

pub returns-clause-joins : goal.returns-clause-joins
returns-clause-joins g c =
    let same : c.end_turn.new.seat.table_id ≡ c.args.seat.now.table_id = search rules in
    takes_after_turn same c.args.seat.now.me.0 c.args.from.me.0 (ended g c) c.requires.number.0 c.requires.number.1 c.requires.left

pub returns-clause-keeps : goal.returns-clause-keeps
returns-clause-keeps g c = keeps_after_turn (ended g c) c.requires.number.0 (c.requires.free.0.to_give, ap Some (sym c.requires.number.1))
