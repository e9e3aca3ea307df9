use Rattle.task_tree.proofs.Levels.{least_below, empty_below, there, some_below}
use Rattle.task_tree.proofs.numbers.NumberSet.first.Goals as goal

pub returns-in-None-clause-none : goal.returns-in-None-clause-none
returns-in-None-clause-none g c =
    let a = c.self.inside in
    rw (← c.self.view_is) (empty_below a.middle a.bottom c.self.invariant.lower (empty_below a.top a.middle c.self.invariant.upper c.in-None.ensures.none))

pub returns-in-Some-clause-least : goal.returns-in-Some-clause-least
returns-in-Some-clause-least g c =
    let a = c.self.inside in
    rw (← c.self.view_is) (least_below a.middle a.bottom c.first_at-middle.result c.first_at.result c.self.invariant.lower
    (least_below a.top a.middle c.in-Some.top c.first_at-middle.result c.self.invariant.upper c.in-Some.ensures.least c.first_at-middle.ensures.least) c.first_at.ensures.least)

pub first_at-middle-requires : goal.first_at-middle-requires
first_at-middle-requires g c =
    let a = c.self.inside in
    let some = some_below a.top a.middle c.in-Some.top c.self.invariant.upper c.in-Some.ensures.least.here in
    record { within = there a.middle c.in-Some.top some; some = some }

pub first_at-requires : goal.first_at-requires
first_at-requires g c =
    let a = c.self.inside in
    let some = some_below a.middle a.bottom c.first_at-middle.result c.self.invariant.lower c.first_at-middle.ensures.least.here in
    record { within = there a.bottom c.first_at-middle.result some; some = some }
