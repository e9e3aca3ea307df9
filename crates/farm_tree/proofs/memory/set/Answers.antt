use Rattle.std.proofs.Common.{sym, rules}
use Rattle.farm_tree.proofs.Places.{set_there, set_new}
use Rattle.farm_tree.proofs.memory.set.Goals as goal

pub returns-in_default-clause-ok : goal.returns-in_default-clause-ok
returns-in_default-clause-ok c =
    let none = rw c.deref.ensures.value at c.in_default.ensures in
    rw (sym (set_new c.args.path.now c.args.file c.args.files.now.items c.requires.path none)) (search rules)

pub returns-clause-ok : goal.returns-clause-ok
returns-clause-ok c =
    let there = rw c.deref.ensures.value at c.in-Some.ensures in
    set_there c.args.path.now c.args.file c.args.files.now.items c.in-Some.at c.requires.path there
