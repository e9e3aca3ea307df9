use Rattle.std.proofs.Common.{◌≡◌, ◌+◌, Some, None, true, false, rules, sym, ap, ◌∙◌, get_or, arith}
use Rattle.std.proofs.lemmas.Grind.{common_steps}
use Rattle.farm_model.specs.State.{up_number}
use Rattle.farm_core.proofs.Named.{none_up, number_up, number_down}
use Rattle.farm_core.proofs.contest.ContestState.up_number.Goals as goal

pub returns-in_err-place-clause-number : goal.returns-in_err-place-clause-number
returns-in_err-place-clause-number c =
    let none : up_number c.self.inside.hosts.items c.args.name.now ≡ None = none_up c.args.name.now c.self.inside.hosts.items _ c.self.invariant.host_names (sym c.find.ensures.place ∙ c.in_err-place.was) in
    let same : up_number c.self.inside.hosts.items c.args.name.now ≡ up_number c.args.self.now.hosts c.args.name.now = ap (λ s. up_number s.hosts c.args.name.now) c.self.view_is in
    search rules

pub returns-then-not-index-clause-number : goal.returns-then-not-index-clause-number
returns-then-not-index-clause-number c =
    let here : c.index.result.now ≡ get_or c.self.inside.hosts.items c.in_ok-place.place c.index.result.now = search rules in
    let down : c.index.result.now.up ≡ false = search rules in
    let none : up_number c.self.inside.hosts.items c.args.name.now ≡ None = number_down c.args.name.now c.self.inside.hosts.items _ c.in_ok-place.place c.index.result.now c.find.ensures.once c.self.invariant.host_names (sym c.find.ensures.place ∙ c.in_ok-place.was) here down in
    sym none ∙ ap (λ s. up_number s.hosts c.args.name.now) c.self.view_is

pub returns-clause-number : goal.returns-clause-number
returns-clause-number c =
    let here : c.index.result.now ≡ get_or c.self.inside.hosts.items c.in_ok-place.place c.index.result.now = search rules in
    let up : c.index.result.now.up ≡ true = search rules in
    let some : up_number c.self.inside.hosts.items c.args.name.now ≡ Some (c.in_ok-place.place + 1) = number_up c.args.name.now c.self.inside.hosts.items _ c.in_ok-place.place c.index.result.now c.find.ensures.once c.self.invariant.host_names (sym c.find.ensures.place ∙ c.in_ok-place.was) here up in
    sym some ∙ ap (λ s. up_number s.hosts c.args.name.now) c.self.view_is

pub index-requires : goal.index-requires
index-requires c = grind (arith, common_steps)

pub overflow_cast-result : goal.overflow_cast-result
overflow_cast-result c = grind (arith, common_steps)

pub overflow_add-result : goal.overflow_add-result
overflow_add-result c = grind (arith, common_steps)

pub returns-clause-known : goal.returns-clause-known
returns-clause-known c = grind (arith, common_steps)
