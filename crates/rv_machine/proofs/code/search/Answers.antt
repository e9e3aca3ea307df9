use Rattle.rv_machine.proofs.Kept.{between}
use Rattle.rv_machine.proofs.code.search.Goals as goal

pub returns-clause-between : goal.returns-clause-between
returns-clause-between c = between c.args.numbers.now.items c.args.number c.binary_search.result (rw c.as_slice.ensures.value at c.binary_search.ensures.position)
