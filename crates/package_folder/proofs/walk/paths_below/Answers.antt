use Rattle.std.proofs.Common.{◌≡◌, ◌<◌, ◌==◌, List, ℕ, [], ◌∷◌, length, false, true, subst, sym, ◌∙◌, rules, arith, refl, eqb-true}
use Rattle.package_folder.specs.Walk.{Reaches}
use Rattle.package_folder.proofs.Walks.{falls, reaches_all}
use Rattle.package_folder.proofs.walk.paths_below.Goals as goal

some : (paths : List (List ℕ)) → false ≡ (length paths == 0) → 0 < length paths
some [] e = cc
some (path ∷ paths) e = omega arith

none : (paths : List (List ℕ)) → true ≡ (length paths == 0) → paths ≡ []
none [] e = refl
none (path ∷ paths) e = absurd (let h : length (path ∷ paths) ≡ 0 = eqb-true (length (path ∷ paths)) 0 (sym e) in omega arith)

pub levels-smaller : goal.levels-smaller
levels-smaller g c = falls c.levels.folders c.in_ok-folders.folders (some c.levels.folders c.levels-test.ensures) c.in_ok-folders.ensures.deepens

pub returns-clause-paths : goal.returns-clause-paths
returns-clause-paths g c = λ files told.
    let reached = c.levels.invariant.reaches files told in
    let end : Reaches files c.args.folder.now c.levels.found [] = subst (λ (ps : List (List ℕ)). Reaches files c.args.folder.now c.levels.found ps) (none c.levels.folders c.levels-test.ensures) reached in
    c.put_in_order.ensures.order ∙ reaches_all files c.args.folder.now c.levels.found end
