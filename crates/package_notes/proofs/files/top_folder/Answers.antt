use Rattle.std.proofs.Common.{Some, None, cond, ap, ◌∙◌}
use Rattle.std.specs.List.{before_first}
use Rattle.farm_tree.specs.Listing.{is_slash}
use Rattle.farm_tree.proofs.Components.{first_name, only_name}
use Rattle.package_notes.proofs.files.top_folder.Goals as goal

pub returns-in-Some : goal.returns-in-Some
returns-in-Some c =
    let rest = c.args.rest.now in
    let first = first_name rest c.in-Some.end c.in-Some.ensures in
    ap Some first.0 ∙ ap (λ t. cond t (Some (before_first is_slash rest)) None) first.1

pub returns-in-None : goal.returns-in-None
returns-in-None c =
    let rest = c.args.rest.now in
    ap (λ t. cond t (Some (before_first is_slash rest)) None) (only_name rest c.in-None.ensures).1
