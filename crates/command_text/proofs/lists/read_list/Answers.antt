use Rattle.command_text.proofs.PartLemmas.{parts_fit}
use Rattle.command_text.proofs.lists.read_list.Goals as goal

pub numbers_in-requires-clause-enough : goal.numbers_in-requires-clause-enough
numbers_in-requires-clause-enough c = parts_fit c.args.list.now c.in-Some.count _ c.in-Some.ensures c.in_ok-room.ensures.capacity
