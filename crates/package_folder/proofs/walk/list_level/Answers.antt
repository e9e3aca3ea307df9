use Rattle.std.proofs.Common.{◌≡◌, ◌+◌, ◌++◌, ◌∷◌, List, ℕ, [], drop, string_bytes, Contains, sym, subst, ◌∙◌, add-one, suc, arith}
use Rattle.std.proofs.lemmas.Grind.{common_steps}
use Rattle.package_folder.specs.Paths.{texts}
use Rattle.package_folder.specs.Walk.{Reaches}
use Rattle.package_folder.proofs.Strings.{drop_text, text_among}
use Rattle.package_folder.proofs.Walks.{reaches_step, deepens_step}
use Rattle.package_folder.proofs.walk.list_level.Goals as goal

pub loop-folder-preserved : goal.loop-folder-preserved
loop-folder-preserved g c =
    let folders = c.args.folders.now in
    let items = c.as_slice-folder-items.result.now in
    let item = c.folder-item.result in
    let at = c.loop-folder.folder-index in
    let is : texts items ≡ folders = c.as_slice-folder-items.ensures in
    let named : c.as_str.result.now ≡ string_bytes item = c.as_str.ensures.value in
    let found = c.loop-folder.found in
    let inner = c.loop-folder.inner in
    let cut : drop at folders ≡ c.as_str.result.now ∷ drop (at + 1) folders =
    rw (named, add-one) (subst (λ (ps : List (List ℕ)). drop at ps ≡ string_bytes item ∷ drop (suc at) ps) is (drop_text items at item c.loop-folder-test.true c.folder-item.is)) in
    let among : Contains folders c.as_str.result.now =
    rw named (subst (λ (ps : List (List ℕ)). Contains ps (string_bytes item)) is (text_among items at item c.loop-folder-test.true c.folder-item.is)) in
    record {
      reaches = λ files told root before.
          let pending = subst (λ (ps : List (List ℕ)). Reaches files root found (ps ++ inner)) cut (c.loop-folder.invariant.reaches files told root before) in
          reaches_step files root c.as_str.result.now found c.list_folder.new.found (drop (at + 1) folders) inner c.list_folder.new.folders pending
          (c.in_ok-list_folder.ensures.visits files (c.loop-folder.invariant.same ∙ told));
      deepens = deepens_step folders c.as_str.result.now inner c.list_folder.new.folders among c.loop-folder.invariant.deepens c.in_ok-list_folder.ensures.deepens;
      same = c.in_ok-list_folder.ensures.same ∙ c.loop-folder.invariant.same;
      first = c.in_ok-list_folder.ensures.first (λ e. cc) ∙ c.loop-folder.invariant.first;
    }

pub returns-clause-reaches : goal.returns-clause-reaches
returns-clause-reaches g c = grind (arith, common_steps)
