use Rattle.std.proofs.Common.{rules, sym, subst}
use Rattle.farm_board.specs.BoardState.{BoardState}
use Rattle.farm_board.specs.Passes.{call_of}
use Rattle.farm_board.specs.Trusts.{IsTrusted}
use Rattle.farm_board.proofs.Trusts.{trusted_call}
use Rattle.farm_board.proofs.Agreeing.{reply_never_differs}
use Rattle.farm_board.proofs.contents.TrustedContents.call.Goals as goal

pub invariant_of-self : goal.invariant_of-self
invariant_of-self g c = record {
  trusted = subst (λ (s : BoardState). IsTrusted g.A.Admission.admits s) (sym c.call.ensures.next)
      (trusted_call g.A.Admission.admits c.args.self.now.contents (call_of c.args.number c.args.event.now c.call.result) c.requires c.args.self.now.trusted);
}

pub returns-clause-reply : goal.returns-clause-reply
returns-clause-reply g c = search rules

pub returns-clause-next : goal.returns-clause-next
returns-clause-next g c = search rules

pub returns-clause-agrees : goal.returns-clause-agrees
returns-clause-agrees g c one = reply_never_differs g.A.Admission.admits c.args.self.now.contents c.args.event.now c.call.result one c.requires c.args.self.now.trusted c.call.ensures.reply
