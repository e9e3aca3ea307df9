use Rattle.std.proofs.Common.{◌≡◌, ◌++◌, ◌∷◌, ◌+◌, [], List, ℕ, Some, None, Bool, codes, string_bytes, filter_map, take, append-nil, sym, ap, ◌∙◌, rules, arith}
use Rattle.std.proofs.lemmas.Grind.{common_steps}
use Rattle.farm_tree.specs.Listing.{in_folder}
use Rattle.package_folder.specs.Paths.{texts}
use Rattle.package_folder.specs.Names.{stem_of}
use Rattle.package_folder.proofs.Strings.{filter_map_step}
use Rattle.package_folder.proofs.stems.stems_among.Goals.{in-Some+in_ok-from_str+in_ok-push, in_default}
use Rattle.package_folder.proofs.stems.stems_among.Goals as goal

pub loop-path-preserved : goal.loop-path-preserved
loop-path-preserved c =
    let item = c.path-item.result in
    let folder = c.args.folder.now in
    let paths = c.args.paths.now in
    let at = c.loop-path.path-index in
    let sample : c.as_str.result.now ≡ in_folder folder (codes "sample") = c.as_str.ensures.value ∙ c.in_ok-sample.ensures in
    let secret : c.as_str-in-loop-path.result.now ≡ in_folder folder (codes "secret") = c.as_str-in-loop-path.ensures.value ∙ c.in_ok-secret.ensures in
    let named : c.as_str-in-loop-path-2.result.now ≡ string_bytes item = c.as_str-in-loop-path-2.ensures.value in
    elim c.match-stem_of.branch [
      | in-Some+in_ok-from_str+in_ok-push w ↦
          let found : stem_of folder (string_bytes item) ≡ Some w.in-Some.stem.now = sym (w.in-Some.ensures folder sample secret ∙ ap (stem_of folder) named) in
          let is : c.match-stem_of.stems ≡ c.loop-path.stems ++ w.in-Some.stem.now ∷ [] = search rules in
          is ∙ ap (λ (ts : List (List ℕ)). ts ++ w.in-Some.stem.now ∷ []) c.loop-path.invariant
          ∙ sym (filter_map_step (stem_of folder) paths at item (Some w.in-Some.stem.now) c.loop-path-test.true c.path-item.is found)
      | in_default w ↦
          let none : stem_of folder (string_bytes item) ≡ None = sym (w.in_default.ensures folder sample secret ∙ ap (stem_of folder) named) in
          w.stems-is ∙ c.loop-path.invariant ∙ sym (append-nil (filter_map (stem_of folder) (take at (texts paths))))
          ∙ sym (filter_map_step (stem_of folder) paths at item None c.loop-path-test.true c.path-item.is none)
    ]

pub returns : goal.returns
returns c = grind (arith, common_steps)
