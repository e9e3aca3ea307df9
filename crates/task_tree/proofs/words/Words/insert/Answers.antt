use Rattle.std.proofs.Common.{rules}
use Rattle.task_tree.proofs.Bitwise.{inserted_at}
use Rattle.task_tree.proofs.words.Words.insert.Goals as goal

pub returns : goal.returns
returns c =
    let xs = c.self.inside.words.items in
    inserted_at xs c.args.self.now c.args.number c.index-word.result.now c.with_bit.result c.self.view_is (search rules) c.index-word.ensures c.with_bit.ensures.set c.with_bit.ensures.others
