use Rattle.std.proofs.Common.{sym, ap, subst, ◌∙◌, arith}
use Rattle.farm_board.specs.BoardState.{BoardState}
use Rattle.farm_board.specs.Passes.{BoardValue}
use Rattle.farm_board.specs.Trusts.{Admits, IsAdmitted, AdmitsOne}
use Rattle.farm_board.proofs.board.Board+R+A.step_and_keep.Goals as goal

pub call_and_keep-reply-requires-clause-admitted : goal.call_and_keep-reply-requires-clause-admitted
call_and_keep-reply-requires-clause-admitted g c = subst (λ (a : Admits). IsAdmitted a c.args.event.now) (sym (c.self.invariant.2 ∙ ap (λ (b : BoardValue g.row.R.Denot). g.R.Trust.admits b.trust) c.self.view_is)) c.requires.admitted

pub returns-clause-agrees : goal.returns-clause-agrees
returns-clause-agrees g c one = c.call_and_keep-reply.ensures.agrees (subst (λ (a : Admits). AdmitsOne a) (sym (c.self.invariant.2 ∙ ap (λ (b : BoardValue g.row.R.Denot). g.R.Trust.admits b.trust) c.self.view_is)) one)

pub invariant_of-pass : goal.invariant_of-pass
invariant_of-pass g c =
    let e = c.call_and_keep-reply.ensures in
    let i = c.pass.invariant.3 in
    (e.keeping.1, e.keeping.0, e.keeps, (i.0 ∙ sym e.calls.grows.number, i.1 ∙ sym e.calls.spare, omega (arith, i.2, e.calls.left), i.3 ∙ ap (λ (b : BoardState). b.seats) (sym e.calls.grows.start)))
