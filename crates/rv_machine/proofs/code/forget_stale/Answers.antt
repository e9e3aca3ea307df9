use Rattle.rv_machine.specs.Decoded.{IsStale}
use Rattle.rv_machine.proofs.code.forget_stale.Goals as goal

pub returns-in-Some : goal.returns-in-Some
returns-in-Some c = λ m k. let s : IsStale m c.args.code.now c.in-Some.stored = rw c.in-Some.is at k in c.forget.ensures.fresh s.before m s.code s.written.differs
