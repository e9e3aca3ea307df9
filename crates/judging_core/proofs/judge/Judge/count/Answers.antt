use Rattle.std.proofs.Common.{arith, ℕ, ◌≡◌, ◌≤◌, ◌-◌, ◌∙◌, Some, None, rules, not, refl, ap, sym, subst, length, List, false, set}
use Rattle.std.proofs.lemmas.Grind.{common_steps}
use Rattle.std.proofs.lemmas.List.{length-set}
use Rattle.farm_model.specs.Leases.{same_task, without_task}
use Rattle.farm_model.specs.Judgings.{task_of}
use Rattle.judging_core.specs.Holding.{IsHeldWell, AreOnEmptyCells}
use Rattle.farm_kinds.specs.declared.outcomes.Answer.{Answer}
use Rattle.farm_model.specs.Judgings.{Judging, cell_of, with_result, fill_cell, judging_answer}
use Rattle.judging_core.specs.declared.judgings.KeptJudging.{KeptJudging}
use Rattle.judging_core.proofs.Shown.{widths_shown, widths_behind, same_size}
use Rattle.lazy_stop.specs.Matters.{IsPossible}
use Rattle.judging_core.specs.JudgeValue.{JudgeValue, in_state}
use Rattle.judging_core.specs.JudgeLayout.{judge_value}
use Rattle.judging_core.specs.JudgeShape.{judging_values, answers_by, AreRuledBy, IsReported, cells_in, reserved_of}
use Rattle.judging_core.proofs.Reported.{answers_changed}
use Rattle.lease_book.specs.Behind.{without_behind}
use Rattle.farm_kinds.specs.declared.kinds.Kind.{Kind}
use Rattle.judging_core.specs.Listed.{widths, IsListed, IsLastWanted, HasRoom}
use Rattle.judging_core.proofs.Listed.{cell_there, cell_room, count_is}
use Rattle.judging_core.proofs.Wider.{ahead_kept}
use Rattle.judging_core.proofs.Items.{item_within, change_same}
use Rattle.judging_core.proofs.Cells.{filled_cells}
use Rattle.judging_core.proofs.CellCount.{cells_changed}
use Rattle.judging_core.proofs.Vain.{vain_held, vain_cells, vain_behind, result_listed}
use Rattle.farm_kinds.specs.RuleValue.{RuleValue}
use Rattle.farm_model.specs.declared.records.Lease.{Lease}
use Rattle.farm_model.specs.Numbered.{item_of}
use Rattle.farm_model.specs.Judge.{without_vain, counted}
use Rattle.lease_book.specs.Book.{room}
use Rattle.judging_core.proofs.Held.{some_held}
use Rattle.judging_core.proofs.judge.Judge.count.Goals as goal

-- the test of a cell is one from 1 on
test_from_1 : (js : List Judging) (j test : ℕ) → cell_of js j test ≡ Some None → 1 ≤ test
test_from_1 js j test e = let at = cell_there js j test (item_of js j) refl e in (item_within at.0.row test None at.2).0

seen_empty : (judgings : List KeptJudging) (judge : JudgeValue) (j test : ℕ) → judging_values judgings ≡ judge.state.judgings → cell_of judge.state.judgings j test ≡ Some None → cell_of (judging_values judgings) j test ≡ Some None
seen_empty judgings judge j test e empty = ap (λ (js : List Judging). cell_of js j test) e ∙ empty

pub hide_task-requires : goal.hide_task-requires
hide_task-requires c =
    let at = c.self.inside in
    cell_room (judging_values at.judgings.items) at.tasks c.args.judging c.args.test c.self.invariant.listed.wide
    (seen_empty at.judgings.items c.args.self.now c.args.judging c.args.test (ap (λ (v : JudgeValue). v.state.judgings) c.self.view_is) c.requires.empty)

-- up to which rank cells are wanted, of the judgings as the definition has them
last_of : (rule : RuleValue) (js : List KeptJudging) (values : List Judging) (j last : ℕ) → judging_values js ≡ values → IsLastWanted rule (judging_values js) j last → IsLastWanted rule values j last
last_of rule js values j last e wanted = subst (λ (xs : List Judging). IsLastWanted rule xs j last) e wanted

-- the answer of the judging that has one result more is kept, and those of the others stay
answer_kept : (rule : RuleValue) (js : List Judging) (new : List KeptJudging) (answers : List Answer) (j test : ℕ) (kind : Kind) (answer : Answer) → cell_of js j test ≡ Some None
    → judging_values new ≡ with_result js j test kind → answers ≡ answers_by rule js → IsReported rule (judging_values new) j answer → set answers (j - 1) answer ≡ answers_by rule (judging_values new)
answer_kept rule js new answers j test kind answer empty e kept reported =
    let at = cell_there js j test (item_of js j) refl empty in
    let x : Judging = fill_cell test kind at.0 in
    let here : item_of (with_result js j test kind) j ≡ Some x = change_same js j (fill_cell test kind) at.0 at.1 in
    let is : answer ≡ judging_answer rule x = reported.each x (ap (λ (xs : List Judging). item_of xs j) e ∙ here) in
    ap (λ (xs : List Answer). set xs (j - 1) answer) kept
    ∙ ap (λ (a : Answer). set (answers_by rule js) (j - 1) a) is
    ∙ answers_changed rule js j (fill_cell test kind) x here
    ∙ sym (ap (answers_by rule) e)

-- the leases that end are those in vain
vain_ended : (rule : RuleValue) (js : List Judging) (ls new : List Lease) (j test last : ℕ) (kind : Kind) → cell_of js j test ≡ Some None → AreOnEmptyCells js ls
    → IsLastWanted rule (with_result js j test kind) j last → new ≡ without_behind (without_task ls (task_of j test)) j last → new ≡ without_vain rule (with_result js j test kind) j (without_task ls (task_of j test))
vain_ended rule js ls new j test last kind empty cells upto e =
    let at = cell_there js j test (item_of js j) refl empty in
    e ∙ sym (vain_behind rule (with_result js j test kind) j last (fill_cell test kind at.0) (without_task ls (task_of j test)) (change_same js j (fill_cell test kind) at.0 at.1) upto
    (filled_cells js ls j test kind (test_from_1 js j test empty) cells))

pub hide_behind-requires-clause-known : goal.hide_behind-requires-clause-known
hide_behind-requires-clause-known c =
    let at = c.self.inside in
    let same : length c.hide_task.new.self ≡ length at.tasks = same_size at.tasks c.hide_task.new.self (ap widths c.hide_task.ensures ∙ widths_shown at.tasks (task_of c.args.judging c.args.test) false) in
    let known : c.args.judging ≤ length at.judgings.items = omega (arith, c.requires.known, count_is at.judgings.items, ap (λ (v : JudgeValue). length v.state.judgings) c.self.view_is) in
    let there = c.self.invariant.ahead.known c.args.judging (omega (arith, known)) (omega (arith, known, c.self.invariant.few)) in
    omega (arith, there, same)

pub invariant_of-self : goal.invariant_of-self
invariant_of-self c =
    let at = c.self.inside in
    let js = judging_values at.judgings.items in
    let task = task_of c.args.judging c.args.test in
    let new = with_result js c.args.judging c.args.test c.args.given in
    let left = without_task at.leases.leases task in
    let empty = seen_empty at.judgings.items c.args.self.now c.args.judging c.args.test (ap (λ (v : JudgeValue). v.state.judgings) c.self.view_is) c.requires.empty in
    let possible : IsPossible at.rule c.args.given = subst (λ (v : JudgeValue). IsPossible v.state.rule c.args.given) (sym c.self.view_is) c.requires.possible in
    let ruled : AreRuledBy at.rule c.fill-standing.new.judgings.items = c.fill-standing.ensures.ruled at.rule c.self.invariant.ruled in
    let upto : IsLastWanted at.rule new c.args.judging c.fill-standing.result.last = last_of at.rule c.fill-standing.new.judgings.items new c.args.judging c.fill-standing.result.last c.fill-standing.ensures.value (c.fill-standing.ensures.last at.rule c.self.invariant.ruled) in
    let vain : c.end_counted.new.leases.leases ≡ without_vain at.rule new c.args.judging left =
    vain_ended at.rule js at.leases.leases c.end_counted.new.leases.leases c.args.judging c.args.test c.fill-standing.result.last c.args.given empty c.self.invariant.cells upto c.end_counted.ensures.leases in
    let held : IsHeldWell at.hosts c.end_counted.new.leases.leases =
    rw vain (vain_held at.hosts at.rule new c.args.judging left (some_held at.hosts (λ lease. not (same_task lease.task task)) at.leases.leases c.self.invariant.held)) in
    let cells : AreOnEmptyCells (judging_values c.fill-standing.new.judgings.items) c.end_counted.new.leases.leases =
    rw (c.fill-standing.ensures.value, vain) (vain_cells at.rule new c.args.judging left (filled_cells js at.leases.leases c.args.judging c.args.test c.args.given (test_from_1 js c.args.judging c.args.test empty) c.self.invariant.cells)) in
    let counted : at.cells ≡ cells_in c.fill-standing.new.judgings.items = c.self.invariant.counted ∙ sym (cells_changed at.judgings.items c.fill-standing.new.judgings.items c.args.judging (fill_cell c.args.test c.args.given) c.fill-standing.ensures.value (λ x. length-set x.row (c.args.test - 1) (Some c.args.given))) in
    let room : room c.end_counted.new.leases ≡ room at.leases = c.end_counted.ensures.room in
    let answered : c.keep_answer.new.answers.items ≡ answers_by at.rule (judging_values c.fill-standing.new.judgings.items) =
    c.keep_answer.ensures.answers
    ∙ answer_kept at.rule js c.fill-standing.new.judgings.items at.answers.items c.args.judging c.args.test c.args.given c.fill-standing.result.answer empty c.fill-standing.ensures.value c.self.invariant.answered
    (c.fill-standing.ensures.answer at.rule c.self.invariant.ruled) in
    let same : widths c.hide_behind.new.self ≡ widths at.tasks =
    ap widths c.hide_behind.ensures ∙ widths_behind c.hide_task.new.self c.args.judging c.fill-standing.result.last ∙ ap widths c.hide_task.ensures ∙ widths_shown at.tasks task false in
    let listed : IsListed at.rule (judging_values c.fill-standing.new.judgings.items) c.end_counted.new.leases.leases c.hide_behind.new.self =
    rw (c.fill-standing.ensures.value, vain, c.hide_behind.ensures, c.hide_task.ensures)
    (result_listed at.rule js at.leases.leases at.tasks c.args.judging c.args.test c.fill-standing.result.last c.args.given c.self.invariant.listed empty possible upto) in
    let ahead : HasRoom (length c.fill-standing.new.judgings.items) (reserved_of at.prepared.items) c.hide_behind.new.self = ahead_kept (length at.judgings.items) (length c.fill-standing.new.judgings.items) (reserved_of at.prepared.items) at.tasks c.hide_behind.new.self c.fill-standing.ensures.count same c.self.invariant.ahead in
    search rules

pub returns-clause-state : goal.returns-clause-state
returns-clause-state c =
    let at = c.self.inside in
    let new = with_result (judging_values at.judgings.items) c.args.judging c.args.test c.args.given in
    let left = without_task at.leases.leases (task_of c.args.judging c.args.test) in
    let start : JudgeValue = judge_value at in
    let js = judging_values at.judgings.items in
    let empty = seen_empty at.judgings.items c.args.self.now c.args.judging c.args.test (ap (λ (v : JudgeValue). v.state.judgings) c.self.view_is) c.requires.empty in
    let upto : IsLastWanted at.rule new c.args.judging c.fill-standing.result.last = last_of at.rule c.fill-standing.new.judgings.items new c.args.judging c.fill-standing.result.last c.fill-standing.ensures.value (c.fill-standing.ensures.last at.rule c.self.invariant.ruled) in
    let vain : c.end_counted.new.leases.leases ≡ without_vain at.rule new c.args.judging left =
    vain_ended at.rule js at.leases.leases c.end_counted.new.leases.leases c.args.judging c.args.test c.fill-standing.result.last c.args.given empty c.self.invariant.cells upto c.end_counted.ensures.leases in
    ap (λ (js : List Judging). record start { state = record start.state { judgings = js; leases = c.end_counted.new.leases.leases } }) c.fill-standing.ensures.value
    ∙ ap (λ (leases : List Lease). record start { state = record start.state { judgings = new; leases = leases } }) vain
    ∙ ap (λ (v : JudgeValue). in_state v (counted v.state c.args.judging c.args.test c.args.given).0) c.self.view_is

pub fill-standing-requires-clause-known : goal.fill-standing-requires-clause-known
fill-standing-requires-clause-known c = grind (arith, common_steps)

pub keep_answer-requires-clause-known : goal.keep_answer-requires-clause-known
keep_answer-requires-clause-known c = grind (arith, common_steps)
