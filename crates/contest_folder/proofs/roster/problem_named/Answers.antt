use Rattle.std.proofs.Common.{Some, Ok, Err, sym, ap, ◌∙◌, rules}
use Rattle.std.proofs.lemmas.Fn.{always_returns_same}
use Rattle.package_folder.specs.Order.{compare_bytes}
use Rattle.package_folder.proofs.Searches.{searched}
use Rattle.contest_folder.specs.declared.roster.Problem.{Problem}
use Rattle.contest_folder.proofs.roster.problem_named.Goals as goal

pub returns-in-Ok-clause-problem : goal.returns-in-Ok-clause-problem
returns-in-Ok-clause-problem c =
    let name = c.args.name.now in
    let by_name = c.in-Ok.ensures.position (λ (p : Problem). compare_bytes p.name name) (always_returns_same _ _ _ (λ a r g called. (search rules, search rules))) in
    let found = searched (λ (p : Problem). p.name) name c.args.problems.now (Ok c.in-Ok.at) c.requires c.in-Ok.ensures.bound by_name in
    ap Some (c.index-problems-at.is ∙ found.1 c.index-problems-at.result) ∙ sym found.2

pub returns-in-Err-clause-problem : goal.returns-in-Err-clause-problem
returns-in-Err-clause-problem c =
    let name = c.args.name.now in
    let by_name = c.in-Err.ensures.position (λ (p : Problem). compare_bytes p.name name) (always_returns_same _ _ _ (λ a r g called. (search rules, search rules))) in
    sym (searched (λ (p : Problem). p.name) name c.args.problems.now (Err c.in-Err.field-0) c.requires c.in-Err.ensures.bound by_name)
