use Rattle.std.proofs.Common.{◌≡◌, Some, true, false, string_bytes, sym, ap, ◌∙◌}
use Rattle.package_folder.proofs.Strings.{find_step}
use Rattle.contest_folder.specs.Problems.{is_bad_name}
use Rattle.contest_folder.proofs.Folders.{bad_by}
use Rattle.contest_folder.proofs.problems.first_bad_name.Goals as goal

pub returns-then-is_none : goal.returns-then-is_none
returns-then-is_none c =
    let item = c.short-item.result in
    let named : c.as_bytes.result.now ≡ string_bytes item = c.as_bytes.ensures.value ∙ c.as_str.ensures.value in
    let bad : is_bad_name (string_bytes item) ≡ true = bad_by (string_bytes item) c.read.result true (rw named at c.read.ensures) c.if-is_none.ensures in
    ap Some c.as_str-then-is_none.ensures.value
    ∙ sym (find_step is_bad_name c.args.shorts.now c.loop-short.short-index item true c.loop-short-test.true c.short-item.is bad)
    ∙ c.loop-short.invariant

pub loop-short-preserved : goal.loop-short-preserved
loop-short-preserved c =
    let item = c.short-item.result in
    let named : c.as_bytes.result.now ≡ string_bytes item = c.as_bytes.ensures.value ∙ c.as_str.ensures.value in
    let good : is_bad_name (string_bytes item) ≡ false = bad_by (string_bytes item) c.read.result false (rw named at c.read.ensures) c.if-is_none.ensures in
    sym (find_step is_bad_name c.args.shorts.now c.loop-short.short-index item false c.loop-short-test.true c.short-item.is good)
    ∙ c.loop-short.invariant
