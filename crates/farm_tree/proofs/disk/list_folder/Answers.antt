use Rattle.std.proofs.Common.{◌≡◌, ◌∷◌, ◌++◌, [], All, IsUtf8, List, sym, subst, rules}
use Rattle.std.proofs.lemmas.List.Elements.{All-push}
use Rattle.farm_tree.specs.declared.entries.Entry.{Entry}
use Rattle.farm_tree.proofs.disk.list_folder.Goals as goal

pub loop-entry-preserved : goal.loop-entry-preserved
loop-entry-preserved g c =
    let is : c.push.new.self ≡ c.loop-entry.entries ++ c.in_ok-entry.entry ∷ [] = search rules in
    subst (λ (entries : List Entry). All (λ (entry : Entry). IsUtf8 entry.name) entries) (sym is)
    (All-push (λ (entry : Entry). IsUtf8 entry.name) c.loop-entry.entries c.in_ok-entry.entry c.loop-entry.invariant c.in_ok-entry.ensures.text)
