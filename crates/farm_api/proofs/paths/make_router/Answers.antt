use Rattle.std.proofs.Common.{rules, ◌≡◌, fold, map, ap₂, ◌∙◌}
use Rattle.farm_api.specs.Table.{with_path, table, rows}
use Rattle.farm_api.proofs.paths.make_router.Goals as goal

pub returns : goal.returns
unfolding rows
returns c =
    let words_are : map (λ p. (p.0.now, p.1)) c.as_slice.result.now ≡ table = search rules in
    let e : c.add_all.new.router ≡ fold with_path c.new-router.result (map (λ p. (p.0.now, p.1)) c.as_slice.result.now) = search rules in
    e ∙ ap₂ (fold with_path) c.new-router.ensures words_are
