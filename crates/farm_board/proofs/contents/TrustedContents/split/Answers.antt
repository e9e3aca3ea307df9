use Rattle.std.proofs.Common.{sym, subst}
use Rattle.farm_board.specs.BoardState.{BoardState}
use Rattle.farm_board.specs.Trusts.{IsTrusted}
use Rattle.farm_board.proofs.contents.TrustedContents.split.Goals as goal

pub invariant_of-self : goal.invariant_of-self
invariant_of-self g c = let t = c.args.self.now.trusted in record {
  trusted = subst (λ (s : BoardState). IsTrusted g.A.Admission.admits s) (sym c.split.ensures.next) record { cells = t.cells; journal = t.journal };
}
