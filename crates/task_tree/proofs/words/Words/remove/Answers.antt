use Rattle.std.proofs.Common.{rules}
use Rattle.task_tree.proofs.Bitwise.{removed_at}
use Rattle.task_tree.proofs.words.Words.remove.Goals as goal

pub returns-clause-removed : goal.returns-clause-removed
returns-clause-removed c =
    let xs = c.self.inside.words.items in
    removed_at xs c.args.self.now c.args.number c.index-word.result.now c.without_bit-left.result c.self.view_is (search rules) c.index-word.ensures c.without_bit-left.ensures.clear c.without_bit-left.ensures.others c.without_bit-left.ensures.zero
