use Rattle.std.proofs.Common.{◌≡◌, [], false, map, refl, ap, ◌∙◌, arith}
use Rattle.farm_model.specs.State.{start}
use Rattle.farm_board.specs.Histories.{opening_board, IsOpening}
use Rattle.farm_board.specs.Passes.{PassValue, opening_pass}
use Rattle.parallel_judge.specs.Entering.{problem_event}
use Rattle.parallel_judge.specs.Hosts.{HasEntered}
use Rattle.parallel_judge.specs.Table.{named_problem}
use Rattle.parallel_judge.proofs.Opening.{nothing_entered}
use Rattle.contest_server.specs.Contest.{seats}
use Rattle.contest_server.proofs.contest.open_board.Goals as goal

pub returns-clause-entered : goal.returns-clause-entered
returns-clause-entered g c =
    let roster = c.args.roster.now in
    let pass = c.in_ok-board.pass in
    let lanes = c.requires.lanes in
    let s = opening_board (start roster.settings) (seats c.args.lanes) false in
    let o : IsOpening s = record { out = refl; given = refl; seats = omega (arith, lanes) } in
    let farm = c.new-farm.ensures ∙ ap start (c.in_ok-copy.ensures ∙ c.settings.ensures.settings) in
    let is : pass ≡ opening_pass c.in_ok-board.board.id s = c.in_ok-board.ensures.pass ∙ ap (λ f. opening_pass c.in_ok-board.board.id (opening_board f (seats c.args.lanes) false)) farm in
    let none : HasEntered s [] pass =
    nothing_entered s pass (ap (λ (p : PassValue). p.seen) is) (ap (λ (p : PassValue). p.mine) is) (ap (λ (p : PassValue). p.number) is) (ap (λ (p : PassValue). p.start) is) in
    record {
      before = c.enter_submissions.new.pass;
      entered = c.in_ok-enter_submissions.ensures.entered s (map problem_event (map named_problem roster.problems)) o (c.in_ok-enter_problems.ensures.entered s [] o none);
      split = c.split-own.ensures.split;
    }

pub returns-clause-fresh : goal.returns-clause-fresh
returns-clause-fresh g c =
    let roster = c.args.roster.now in
    let pass = c.in_ok-board.pass in
    let lanes = c.requires.lanes in
    let s = opening_board (start roster.settings) (seats c.args.lanes) false in
    let o : IsOpening s = record { out = refl; given = refl; seats = omega (arith, lanes) } in
    let farm = c.new-farm.ensures ∙ ap start (c.in_ok-copy.ensures ∙ c.settings.ensures.settings) in
    let is : pass ≡ opening_pass c.in_ok-board.board.id s = c.in_ok-board.ensures.pass ∙ ap (λ f. opening_pass c.in_ok-board.board.id (opening_board f (seats c.args.lanes) false)) farm in
    let none : HasEntered s [] pass =
    nothing_entered s pass (ap (λ (p : PassValue). p.seen) is) (ap (λ (p : PassValue). p.mine) is) (ap (λ (p : PassValue). p.number) is) (ap (λ (p : PassValue). p.start) is) in
    let entered = c.in_ok-enter_submissions.ensures.entered s (map problem_event (map named_problem roster.problems)) o (c.in_ok-enter_problems.ensures.entered s [] o none) in
    let split = c.split-own.ensures.split in
    record {
      of_board = split.other_board ∙ c.in_ok-enter_submissions.ensures.board ∙ c.in_ok-enter_problems.ensures.board ∙ ap (λ (p : PassValue). p.board) c.in_ok-board.ensures.pass;
      begins = split.other_start ∙ entered.begins;
      numbered = refl;
      mine = split.other_mine;
      left = split.other_left;
      turn = c.split-own.ensures.turn.1;
    }
