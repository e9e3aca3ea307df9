use Rattle.std.proofs.Common.{sym, ap, ◌∙◌, arith}
use Rattle.farm_board.specs.BoardState.{BoardState}
use Rattle.farm_board.specs.Passes.{PassValue}
use Rattle.farm_board.proofs.board.Board+R+A.join.Goals as goal

pub invariant_of-into : goal.invariant_of-into
invariant_of-into g c =
    let j = c.join.ensures in
    let i = c.into.invariant.3 in
    let f = c.from.invariant.3 in
    let from = c.let_go.ensures.same in
    let same = c.let_go-2.ensures.same in (
      j.free.1,
      j.free.0,
      j.keeps,
      (
        i.0 ∙ sym (j.joins.number ∙ ap (λ (p : PassValue). p.number) same),
        omega (arith, i.1, f.1, j.joins.spare, ap (λ (p : PassValue). p.spare) same, ap (λ (p : PassValue). p.spare) from),
        omega (arith, i.2, f.2, j.joins.left, ap (λ (p : PassValue). p.left) same, ap (λ (p : PassValue). p.left) from),
        i.3 ∙ sym (ap (λ (b : BoardState). b.seats) j.joins.start ∙ ap (λ (p : PassValue). p.start.seats) same),
      ),
    )
