use Rattle.std.proofs.Common.{◌≡◌, ◌∷◌, [], List, ℕ, Some, None, sym, ap, refl, cond, ◌∙◌, arith, length, eq-eqb, ne_eqb}
use Rattle.farm_tree.specs.Listing.{after_slash}
use Rattle.farm_tree.proofs.Components.{below_apart, below_behind}
use Rattle.farm_tree.proofs.listing.below.Goals as goal

nothing : (rest : List ℕ) → length rest ≡ 0 → None ≡ after_slash rest
nothing [] e = refl
nothing (b ∷ rest) e = absurd (omega arith)

slash : (rest after : List ℕ) (first : ℕ) → rest ≡ first ∷ after → first ≡ 47 → Some after ≡ after_slash rest
slash rest after first e h = sym (ap after_slash e ∙ ap (λ t. cond t (Some after) None) (eq-eqb first 47 h))

other : (rest after : List ℕ) (first : ℕ) → rest ≡ first ∷ after → (first ≡ 47 → ⊥) → None ≡ after_slash rest
other rest after first e h = sym (ap after_slash e ∙ ap (λ t. cond t (Some after) None) (ne_eqb first 47 h))

pub returns-in_err-rest : goal.returns-in_err-rest
returns-in_err-rest c =
    let prefix = rw c.as_bytes.ensures.value at c.in_err-rest.ensures.cases in
    rw c.from_residual.ensures (below_apart c.args.folder.now c.args.path.now prefix)

pub returns-in_err-first : goal.returns-in_err-first
returns-in_err-first c =
    let prefix = rw c.as_bytes.ensures.value at c.in_ok-rest.ensures.cases in
    rw c.from_residual-in_err-first.ensures
    (nothing c.in_ok-rest.rest.now c.in_err-first.ensures.cases ∙ below_behind c.args.folder.now c.args.path.now c.in_ok-rest.rest.now prefix.0 prefix.1)

pub returns-then-first-eq47 : goal.returns-then-first-eq47
returns-then-first-eq47 c =
    let prefix = rw c.as_bytes.ensures.value at c.in_ok-rest.ensures.cases in
    slash c.in_ok-rest.rest.now c.in_ok-first.after.now c.in_ok-first.first.now c.in_ok-first.ensures.cases.0 c.if-first-eq47.true
    ∙ below_behind c.args.folder.now c.args.path.now c.in_ok-rest.rest.now prefix.0 prefix.1

pub returns-else-first-eq47 : goal.returns-else-first-eq47
returns-else-first-eq47 c =
    let prefix = rw c.as_bytes.ensures.value at c.in_ok-rest.ensures.cases in
    other c.in_ok-rest.rest.now c.in_ok-first.after.now c.in_ok-first.first.now c.in_ok-first.ensures.cases.0 c.if-first-eq47.false
    ∙ below_behind c.args.folder.now c.args.path.now c.in_ok-rest.rest.now prefix.0 prefix.1
