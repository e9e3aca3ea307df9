use Rattle.std.proofs.Common.{◌≡◌, ◌++◌, List, ℕ, Some, Bool, true, false, not, codes, string_bytes, bytes_eq, sym, ap, ◌∙◌, rules}
use Rattle.std.specs.List.{list_any}
use Rattle.package_folder.specs.Names.{lacks_answer, answer_path}
use Rattle.package_folder.proofs.Strings.{find_step}
use Rattle.package_folder.proofs.stems.first_lacking.Goals as goal

lacks_by : (paths : List (List ℕ)) (stem text : List ℕ) (b : Bool) → b ≡ list_any (bytes_eq text) paths → text ≡ answer_path stem → lacks_answer paths stem ≡ not b
lacks_by paths stem text b e is = ap not (sym (e ∙ ap (λ (t : List ℕ). list_any (bytes_eq t) paths) is))

pub returns-then-not-has : goal.returns-then-not-has
returns-then-not-has c =
    let item = c.stem-item.result in
    let paths = c.args.paths.now in
    let text : c.as_str-in-loop-stem.result.now ≡ answer_path (string_bytes item) = c.as_str-in-loop-stem.ensures.value ∙ rw c.as_str.ensures.value at c.in_ok-answer.ensures in
    let lacks : lacks_answer paths (string_bytes item) ≡ true = lacks_by paths (string_bytes item) c.as_str-in-loop-stem.result.now false c.if-not-has.ensures text in
    ap Some c.as_str-then-not-has.ensures.value
    ∙ sym (find_step (lacks_answer paths) c.args.stems.now c.loop-stem.stem-index item true c.loop-stem-test.true c.stem-item.is lacks)
    ∙ c.loop-stem.invariant

pub loop-stem-preserved : goal.loop-stem-preserved
loop-stem-preserved c =
    let item = c.stem-item.result in
    let paths = c.args.paths.now in
    let text : c.as_str-in-loop-stem.result.now ≡ answer_path (string_bytes item) = c.as_str-in-loop-stem.ensures.value ∙ rw c.as_str.ensures.value at c.in_ok-answer.ensures in
    let lacks : lacks_answer paths (string_bytes item) ≡ false = lacks_by paths (string_bytes item) c.as_str-in-loop-stem.result.now true c.if-not-has.ensures text in
    sym (find_step (lacks_answer paths) c.args.stems.now c.loop-stem.stem-index item false c.loop-stem-test.true c.stem-item.is lacks)
    ∙ c.loop-stem.invariant
