use Rattle.std.proofs.Common.{◌≤◌, ◌-◌, subst, arith}
use Rattle.std.proofs.lemmas.Grind.{common_steps}
use Rattle.std.proofs.lemmas.Bool.Decides.{nat_tests}
use Rattle.farm_board.specs.Histories.{IsAlone}
use Rattle.farm_board.specs.Passes.{PassValue, board_seen}
use Rattle.farm_board.proofs.Ends.{alone}
use Rattle.farm_board.proofs.board.Pass+A.is_alone.Goals as goal

pub returns-clause-alone : goal.returns-clause-alone
returns-clause-alone g c is =
    let p = c.self.inside in
    let i = c.self.invariant in
    let least : p.seats - 1 ≤ p.spare = grind (arith, nat_tests) in
    let spare = i.3.1 in
    let seats = i.3.3 in
    subst (λ (p : PassValue). IsAlone p.number (board_seen p)) c.self.view_is (alone p.seat.me.0 i.2 (omega arith))

pub overflow_sub-result : goal.overflow_sub-result
overflow_sub-result g c = grind (arith, common_steps)
