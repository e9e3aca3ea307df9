use Rattle.std.proofs.Common.{◌≡◌, ◌∙◌, List, Bool, false, sym, ap, subst, arith}
use Rattle.task_tree.specs.Shown.{JudgingTasks, with_class}
use Rattle.judging_core.specs.Listed.{widths, AreTestsShown}
use Rattle.judging_core.proofs.Listed.{IsEntered, entered_class, entered_shown, entered_listed}
use Rattle.judging_core.proofs.Shown.{listed_same, widths_classed}
use Rattle.judging_core.proofs.listing.list_judging.Goals as goal

pub show_tests-requires-clause-wide : goal.show_tests-requires-clause-wide
show_tests-requires-clause-wide c =
    let same : widths c.set_class.new.self ≡ widths c.args.tasks.now = ap widths c.set_class.ensures ∙ widths_classed c.args.tasks.now c.args.judging _ in
    omega (arith, listed_same c.args.tasks.now c.set_class.new.self c.args.judging same, c.requires.wide)

pub returns-then-asked-clause-listed : goal.returns-then-asked-clause-listed
returns-then-asked-clause-listed c = λ rule mode tests judgings leases here room within upto cells h.
    let shown : AreTestsShown c.args.judging c.args.wanted (with_class c.args.tasks.now c.args.judging c.args.class) c.show_tests.new.tasks =
    subst (λ (ts : List JudgingTasks). AreTestsShown c.args.judging c.args.wanted ts c.show_tests.new.tasks) c.set_class.ensures c.show_tests.ensures.shown in
    let entered = entered_shown c.args.class c.args.judging c.args.wanted c.args.tasks.now c.show_tests.new.tasks c.requires.numbered c.requires.known c.requires.hidden shown in
    entered_listed rule judgings leases c.args.tasks.now c.show_tests.new.tasks c.args.class mode c.args.asked c.args.judging tests c.args.wanted h here c.requires.known room within upto cells
    (subst (λ (asked : Bool). IsEntered c.args.class asked c.args.judging c.args.wanted c.args.tasks.now c.show_tests.new.tasks) (sym c.if-asked.true) entered)

pub returns-else-asked-clause-listed : goal.returns-else-asked-clause-listed
returns-else-asked-clause-listed c = λ rule mode tests judgings leases here room within upto cells h.
    let entered = entered_class c.args.class c.args.judging c.args.wanted c.args.tasks.now c.requires.numbered c.requires.known c.requires.hidden in
    let same : IsEntered c.args.class false c.args.judging c.args.wanted c.args.tasks.now c.set_class.new.self = rw c.set_class.ensures entered in
    entered_listed rule judgings leases c.args.tasks.now c.set_class.new.self c.args.class mode c.args.asked c.args.judging tests c.args.wanted h here c.requires.known room within upto cells
    (subst (λ (asked : Bool). IsEntered c.args.class asked c.args.judging c.args.wanted c.args.tasks.now c.set_class.new.self) (sym c.if-asked.false) same)

pub returns-then-asked-clause-widths : goal.returns-then-asked-clause-widths
returns-then-asked-clause-widths c = c.show_tests.ensures.shown.widths ∙ ap widths c.set_class.ensures ∙ widths_classed c.args.tasks.now c.args.judging _

pub returns-else-asked-clause-widths : goal.returns-else-asked-clause-widths
returns-else-asked-clause-widths c = ap widths c.set_class.ensures ∙ widths_classed c.args.tasks.now c.args.judging _
