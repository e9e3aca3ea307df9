use Rattle.std.proofs.Common.{◌≡◌, ◌+◌, List, ℕ, drop, string_bytes, sym, ap, ◌∙◌, rules, arith}
use Rattle.std.proofs.lemmas.Grind.{common_steps}
use Rattle.package_folder.specs.Paths.{texts}
use Rattle.package_notes.specs.Files.{other_folder, other_folders_from, with_name}
use Rattle.package_notes.proofs.Paths.{folder_step}
use Rattle.package_notes.proofs.files.other_folders.Goals as goal

pub loop-path-preserved : goal.loop-path-preserved
loop-path-preserved c =
    let item = c.path-item.result in
    let root = c.args.root.now in
    let rest = drop (c.loop-path.path-index + 1) (texts c.args.paths.now) in
    let named : c.as_str.result.now ≡ string_bytes item = c.as_str.ensures.value in
    let is : c.add_name.new.names.items ≡ with_name c.loop-path.names.items (other_folder root c.as_str.result.now) = search rules in
    ap (λ (ns : List (List ℕ)). other_folders_from root ns rest) (is ∙ ap (λ (path : List ℕ). with_name c.loop-path.names.items (other_folder root path)) named)
    ∙ sym (folder_step root c.loop-path.names.items c.args.paths.now c.loop-path.path-index item c.loop-path-test.true c.path-item.is)
    ∙ c.loop-path.invariant

pub returns : goal.returns
returns c = grind (arith, common_steps)
