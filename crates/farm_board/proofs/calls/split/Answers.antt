use Rattle.std.proofs.Common.{rules, ◌≡◌, ℕ, ap, sym, ◌∙◌, subst, arith}
use Rattle.std.specs.Prelude.{Option}
use Rattle.atomic_table.specs.Table.{Me}
use Rattle.farm_board.specs.Views.{split_left, split_right, IsFree}
use Rattle.farm_board.specs.Passes.{pass_of, SplitsOff, IsSoundView}
use Rattle.farm_board.specs.declared.view.View.{View}
use Rattle.std.specs.Option.{unwrap_or}
use Rattle.farm_board.proofs.Passes.{gives_after_turn, left_after_turn, splits_after_turn, free_left, free_right, keeps_after_turn, keeps_left, keeps_right_after_turn}
use Rattle.farm_board.proofs.calls.split.Goals as goal

pub split_off-requires-clause-to_give : goal.split_off-requires-clause-to_give
split_off-requires-clause-to_give g c = gives_after_turn c.split_turn-new.ensures.ended c.requires.free.0.resting.live

pub split_off-requires-clause-share : goal.split_off-requires-clause-share
split_off-requires-clause-share g c =
    let some_left = c.requires.left in
    let is = left_after_turn c.split_turn-new.ensures.ended (omega arith) in omega arith

pub returns-clause-free : goal.returns-clause-free
returns-clause-free g c =
    let z = gives_after_turn c.split_turn-new.ensures.ended c.requires.free.0.resting.live in
    (subst (λ (m : Me _ View). IsFree m.0) (sym c.split_off.ensures.left) (free_left _ _ _ z), ap (λ (m : Me _ View). m.1) c.split_off.ensures.left ∙ c.split_turn-new.ensures.table.1)

pub returns-clause-free_new : goal.returns-clause-free_new
returns-clause-free_new g c =
    let z = gives_after_turn c.split_turn-new.ensures.ended c.requires.free.0.resting.live in
    (subst (λ (m : Me _ View). IsFree m.0) (sym c.split_off.ensures.right) (free_right _ _ _ z), ap (λ (m : Me _ View). m.1) c.split_off.ensures.right)

pub returns-clause-number : goal.returns-clause-number
returns-clause-number g c =
    let z = gives_after_turn c.split_turn-new.ensures.ended c.requires.free.0.resting.live in
    sym (ap (λ (m : Me _ View). m.0.number) c.split_off.ensures.right ∙ ap (λ (o : Option ℕ). unwrap_or o 0) z.to_give)

pub returns-clause-splits : goal.returns-clause-splits
returns-clause-splits g c =
    let same : c.split_off.new.seat.table_id ≡ c.args.seat.now.table_id = search rules in
    let same_other : c.split_off.result.table_id ≡ c.args.seat.now.table_id = search rules in
    let q = splits_after_turn same same_other c.args.share c.split_turn-new.ensures.ended c.requires.number c.requires.left c.requires.spare in
    let y = c.split_turn-new.new.seat.me.0 in
    let left : c.split_off.new.seat.me.0 ≡ split_left c.args.share y = ap (λ (m : Me _ View). m.0) c.split_off.ensures.left in
    let right : c.split_off.result.me.0 ≡ split_right c.args.share y = ap (λ (m : Me _ View). m.0) c.split_off.ensures.right in
    subst (λ (z : View × View). SplitsOff (pass_of c.args.seat.now.table_id c.args.seat.now.me.0) (pass_of c.split_off.new.seat.table_id z.0) (pass_of c.split_off.result.table_id z.1) c.args.share) (λ i. (sym left i, sym right i)) q

pub returns-clause-keeps : goal.returns-clause-keeps
returns-clause-keeps g c =
    let some_left = c.requires.left in
    let is = left_after_turn c.split_turn-new.ensures.ended (omega arith) in
    let q = keeps_after_turn c.split_turn-new.ensures.ended c.requires.number (c.requires.free.0.to_give, c.requires.free.0.taken_in, c.requires.spare) in (
      subst (λ (m : Me _ View). IsSoundView m.0) (sym c.split_off.ensures.left) (keeps_left _ _ q),
      subst (λ (m : Me _ View). IsSoundView m.0) (sym c.split_off.ensures.right) (keeps_right_after_turn c.args.share c.split_turn-new.ensures.ended c.requires.number q (omega arith)),
    )
