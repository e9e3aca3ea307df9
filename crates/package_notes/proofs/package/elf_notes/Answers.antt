use Rattle.std.proofs.Common.{ℕ, ◌≡◌, [], List, Option, Bool, true, false, cond, Bor, codes, option_map, filter_map, ap, ◌∙◌, rules}
use Rattle.std.proofs.lemmas.Result.{IfOk-weaker}
use Rattle.package_folder.specs.Names.{paths_below}
use Rattle.package_folder.specs.Paths.{texts}
use Rattle.package_folder.specs.Reading.{validators_of}
use Rattle.package_notes.specs.Files.{says_custom}
use Rattle.package_notes.specs.Package.{elf_note, text_in}
use Rattle.package_notes.proofs.package.elf_notes.Goals as goal

pub returns-then-not-branch-clause-notes : goal.returns-then-not-branch-clause-notes
returns-then-not-branch-clause-notes g c = λ files told.
    let path = c.args.path.now in
    let bytes = λ (text : Option (Bor (List ℕ))). option_map (λ (b : Bor (List ℕ)). b.now) text in
    let yaml : bytes c.bytes_of.result ≡ text_in files path (codes "problem.yaml") = c.bytes_of.ensures ∙ c.in_ok-yaml.ensures.text files told in
    let read : false ≡ says_custom (bytes c.bytes_of.result) = search rules in
    let said : false ≡ says_custom (text_in files path (codes "problem.yaml")) = read ∙ ap says_custom yaml in
    c.new.ensures.items ∙ ap (λ (t : Bool). cond t (filter_map (elf_note files path) (paths_below (validators_of path) files)) []) said

pub returns-clause-notes : goal.returns-clause-notes
returns-clause-notes g c = λ files told.
    let path = c.args.path.now in
    let all = filter_map (elf_note files path) (paths_below (validators_of path) files) in
    let second = c.in_ok-yaml.ensures.same ∙ told in
    let third = c.in_ok-files.ensures.same ∙ second in
    let bytes = λ (text : Option (Bor (List ℕ))). option_map (λ (b : Bor (List ℕ)). b.now) text in
    let yaml : bytes c.bytes_of.result ≡ text_in files path (codes "problem.yaml") = c.bytes_of.ensures ∙ c.in_ok-yaml.ensures.text files told in
    let read : true ≡ says_custom (bytes c.bytes_of.result) = search rules in
    let said : true ≡ says_custom (text_in files path (codes "problem.yaml")) = read ∙ ap says_custom yaml in
    let root : c.as_str.result.now ≡ validators_of path = c.as_str.ensures.value ∙ c.in_ok-root.ensures in
    let paths : c.in_ok-files.files ≡ paths_below (validators_of path) files = c.in_ok-files.ensures.paths files second ∙ ap (λ (d : List ℕ). paths_below d files) root in
    let slice : texts c.as_slice.result.now ≡ c.in_ok-files.files = search rules in
    IfOk-weaker c.elf_notes_among.result _ _
    (λ notes is. is ∙ ap (filter_map (elf_note files path)) (slice ∙ paths) ∙ ap (λ (t : Bool). cond t all []) said)
    (c.elf_notes_among.ensures.notes files third)
