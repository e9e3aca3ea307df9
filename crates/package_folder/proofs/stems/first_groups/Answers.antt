use Rattle.std.proofs.Common.{◌≡◌, List, ℕ, Some, Bool, true, false, codes, string_bytes, sym, ap, ◌∙◌, rules}
use Rattle.std.proofs.lemmas.Str.Pattern.{ends_text}
use Rattle.package_folder.specs.Names.{is_groups}
use Rattle.package_folder.proofs.Strings.{find_step}
use Rattle.package_folder.proofs.stems.first_groups.Goals as goal

pub returns-then-ends_with : goal.returns-then-ends_with
returns-then-ends_with c =
    let item = c.path-item.result in
    let ends : true ≡ is_groups (string_bytes item) = ends_text true (codes "/testdata.yaml") (string_bytes item) (rw c.as_str.ensures.value at c.if-ends_with.ensures.cases) in
    ap Some c.as_str-then-ends_with.ensures.value
    ∙ sym (find_step is_groups c.args.paths.now c.loop-path.path-index item true c.loop-path-test.true c.path-item.is (sym ends))
    ∙ c.loop-path.invariant

pub loop-path-preserved : goal.loop-path-preserved
loop-path-preserved c =
    let item = c.path-item.result in
    let ends : false ≡ is_groups (string_bytes item) = ends_text false (codes "/testdata.yaml") (string_bytes item) (rw c.as_str.ensures.value at c.if-ends_with.ensures.cases) in
    sym (find_step is_groups c.args.paths.now c.loop-path.path-index item false c.loop-path-test.true c.path-item.is (sym ends))
    ∙ c.loop-path.invariant
