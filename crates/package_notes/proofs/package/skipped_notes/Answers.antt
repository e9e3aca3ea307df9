use Rattle.std.proofs.Common.{ℕ, ◌≡◌, List, Option, Bor, codes, option_map, ap, ◌∙◌}
use Rattle.package_folder.specs.Names.{paths_below}
use Rattle.package_folder.specs.Reading.{data_of}
use Rattle.package_notes.specs.Package.{text_in}
use Rattle.package_notes.proofs.Parts.{notes_by}
use Rattle.package_notes.proofs.package.skipped_notes.Goals as goal

pub returns-clause-notes : goal.returns-clause-notes
returns-clause-notes g c = λ files told.
    let path = c.args.path.now in
    let second = c.in_ok-yaml.ensures.same ∙ told in
    let third = c.in_ok-ini.ensures.same ∙ second in
    let fourth = c.in_ok-paths.ensures.same ∙ third in
    let bytes = λ (text : Option (Bor (List ℕ))). option_map (λ (b : Bor (List ℕ)). b.now) text in
    let yaml : bytes c.bytes_of-yaml.result ≡ text_in files path (codes "problem.yaml") = c.bytes_of-yaml.ensures ∙ c.in_ok-yaml.ensures.text files told in
    let ini : bytes c.bytes_of-ini.result ≡ text_in files path (codes "domjudge-problem.ini") = c.bytes_of-ini.ensures ∙ c.in_ok-ini.ensures.text files second in
    let root : c.as_str.result.now ≡ data_of path = c.as_str.ensures.value ∙ c.in_ok-root.ensures in
    let paths : c.in_ok-paths.paths ≡ paths_below (data_of path) files = c.in_ok-paths.ensures.paths files third ∙ ap (λ (d : List ℕ). paths_below d files) root in
    c.in_ok-notes_from.ensures ∙ notes_by path _ _ _ _ _ _ _ _ yaml ini paths (c.in_ok-has.ensures.has files fourth)
