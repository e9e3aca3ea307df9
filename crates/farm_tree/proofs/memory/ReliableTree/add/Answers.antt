use Rattle.std.proofs.Common.{◌≡◌, sym, subst, rules}
use Rattle.std.specs.Prelude.{List, OnOk}
use Rattle.std.proofs.lemmas.Result.{on_ok_weaker}
use Rattle.farm_tree.specs.declared.reads.TreeFile.{TreeFile}
use Rattle.farm_tree.specs.MemoryValue.{with_file, SetsFile}
use Rattle.farm_tree.proofs.Places.{sets_file}
use Rattle.farm_tree.proofs.memory.ReliableTree.add.Goals as goal

pub returns-clause-sets : goal.returns-clause-sets
returns-clause-sets c =
    let path = c.args.path.now in
    let bytes = c.args.bytes.now in
    let old = c.args.self.now in
    let new = c.set.new.files.items in
    let done : OnOk c.set.result (new ≡ with_file path bytes old) = search rules in
    on_ok_weaker c.set.result
    (λ (e : new ≡ with_file path bytes old). subst (λ (files : List TreeFile). SetsFile old files path bytes) (sym e) (sets_file path bytes old))
    done
