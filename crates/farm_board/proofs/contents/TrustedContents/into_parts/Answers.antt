use Rattle.std.proofs.Common.{sym, subst, Option, List}
use Rattle.farm_model.specs.State.{State}
use Rattle.farm_board.specs.declared.entries.Call.{Call}
use Rattle.farm_board.specs.Trusts.{AreBacked, AreAdmitted}
use Rattle.farm_board.proofs.contents.TrustedContents.into_parts.Goals as goal

pub returns-clause-trusted : goal.returns-clause-trusted
returns-clause-trusted g c = (
  subst (λ (s : State). AreBacked g.A.Admission.admits s) (sym c.into_parts.ensures.0) c.args.self.trusted.cells,
  subst (λ (j : Option (List Call)). AreAdmitted g.A.Admission.admits j) (sym c.into_parts.ensures.1) c.args.self.trusted.journal,
)
