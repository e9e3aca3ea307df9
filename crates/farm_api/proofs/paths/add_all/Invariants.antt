use Rattle.std.proofs.Common.{◌≡◌, fold, map, drop}
use Rattle.farm_api.specs.Table.{with_path}
use Rattle.farm_api.proofs.paths.add_all.Given as goal

abbrev pub invariant-loop-path : goal.invariant-loop-path
invariant-loop-path l =
    fold with_path l.router (map (λ p. (p.0.now, p.1)) (drop l.path-index l.paths))
    ≡ fold with_path l.initial.router (map (λ p. (p.0.now, p.1)) l.paths)
