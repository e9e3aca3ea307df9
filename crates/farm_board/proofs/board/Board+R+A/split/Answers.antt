use Rattle.std.proofs.Common.{◌≡◌, ℕ, sym, ap, ◌∙◌, subst, arith}
use Rattle.farm_board.specs.BoardState.{BoardState}
use Rattle.farm_board.specs.Passes.{PassValue, at_rest, SplitsOff}
use Rattle.farm_board.proofs.board.Board+R+A.split.Goals as goal

-- a split is the same where the turn was kept before
splits_at_rest : (old rest new other : PassValue) (share : ℕ) → rest ≡ at_rest old → SplitsOff rest new other share → SplitsOff old new other share
splits_at_rest old rest new other share e h =
    let x = subst (λ (z : PassValue). SplitsOff z new other share) e h in
    let y = x.grows in
    record {
      grows = record { between = y.between; seen = y.seen; legal = y.legal; mine = y.mine; own = y.own; board = y.board; number = y.number; start = y.start };
      left = x.left;
      spare = x.spare;
      other_board = x.other_board;
      other_start = x.other_start;
      other_seen = x.other_seen;
      other_mine = x.other_mine;
      other_spare = x.other_spare;
      other_left = x.other_left;
    }

pub invariant_of-pass : goal.invariant_of-pass
invariant_of-pass g c =
    let s = c.split-seat.ensures in
    let i = c.pass.invariant.3 in
    let same = c.let_go.ensures.same in (
      s.free.1,
      s.free.0,
      s.keeps.0,
      (
        i.0 ∙ sym (s.splits.grows.number ∙ ap (λ (p : PassValue). p.number) same),
        omega (arith, i.1, s.splits.spare, ap (λ (p : PassValue). p.spare) same),
        omega (arith, i.2, s.splits.left, ap (λ (p : PassValue). p.left) same),
        i.3 ∙ sym (ap (λ (b : BoardState). b.seats) s.splits.grows.start ∙ ap (λ (p : PassValue). p.start.seats) same),
      ),
    )

pub returns-clause-split : goal.returns-clause-split
returns-clause-split g c = splits_at_rest _ _ _ _ _ (c.let_go.ensures.same ∙ ap at_rest c.pass.view_is) c.split-seat.ensures.splits
