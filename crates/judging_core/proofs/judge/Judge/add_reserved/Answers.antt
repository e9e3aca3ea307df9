use Rattle.std.proofs.Common.{ℕ, ◌≡◌, ◌≤◌, ◌<◌, ◌+◌, ◌∙◌, rules, ap, subst, arith, List, ◌++◌, ◌∷◌, [], Bool, true, false, if◌then◌else◌, length}
use Rattle.std.proofs.lemmas.Grind.{common_steps}
use Rattle.std.proofs.lemmas.List.{length_push, map_push}
use Rattle.std.proofs.lemmas.List.Elements.{All-push}
use Rattle.farm_kinds.specs.RuleValue.{RuleValue}
use Rattle.farm_model.specs.Rows.{answer_of}
use Rattle.farm_model.specs.Judgings.{Judging, task_of, empty_judging, judging_answer}
use Rattle.lease_book.specs.Book.{room}
use Rattle.task_tree.specs.Shown.{tests_listed}
use Rattle.judging_core.specs.JudgeValue.{JudgeValue}
use Rattle.judging_core.specs.JudgeShape.{judging_value, judging_values, answers_by, IsWellKept, AreWellKept, IsRuledBy, AreRuledBy, cells_in, ArePrepared, reserved_of}
use Rattle.judging_core.specs.Holding.{AreOnEmptyCells, most_held}
use Rattle.judging_core.specs.Listed.{IsListed, HasRoom}
use Rattle.judging_core.specs.declared.judgings.KeptJudging.{KeptJudging}
use Rattle.judging_core.proofs.Listed.{count_is, none_listed_past, row_size, wanted_of_new}
use Rattle.judging_core.proofs.Wider.{ahead_kept, next_room, room_left}
use Rattle.judging_core.proofs.Cells.{added_cells}
use Rattle.judging_core.proofs.CellCount.{cells_few, cells_pushed, cells_taken}
use Rattle.judging_core.proofs.Reported.{answers_pushed}
use Rattle.judging_core.proofs.judge.Judge.add_reserved.Goals as goal

one_more : {X : Type 0} (n : ℕ) (pushed : Bool) (xs : List X) (x : X) → length xs < n → length (if pushed then xs ++ x ∷ [] else xs) ≤ n
one_more n true xs x lt = omega (arith, length_push xs x)
one_more n false xs x lt = omega arith

small : (judgings : List KeptJudging) (judge : JudgeValue) → judging_values judgings ≡ judge.state.judgings → length judge.state.judgings < 400000 → length judgings < 400000
small judgings judge e few = omega (arith, few, count_is judgings, ap length e)

pub overflow_add-self : goal.overflow_add-self
overflow_add-self c = omega (arith, c.from.ensures, c.requires.short, c.self.invariant.counted, cells_few c.self.inside.judgings.items c.self.invariant.rows, c.self.invariant.few)

pub list_judging-requires-clause-known : goal.list_judging-requires-clause-known
list_judging-requires-clause-known c =
    let at = c.self.inside in
    let few = small at.judgings.items c.args.self.now (ap (λ (v : JudgeValue). v.state.judgings) c.self.view_is) c.requires.few in
    let n = c.len-number.ensures in
    let l = c.push_reserved.ensures.len in
    c.self.invariant.ahead.known c.len-number.result (omega (arith, n, l, at.judgings.ok, ap length c.in-Some.ensures.left)) (omega (arith, n, l, few, at.judgings.ok))

pub list_judging-requires-clause-wide : goal.list_judging-requires-clause-wide
list_judging-requires-clause-wide c =
    let at = c.self.inside in
    let few = small at.judgings.items c.args.self.now (ap (λ (v : JudgeValue). v.state.judgings) c.self.view_is) c.requires.few in
    let n = c.len-number.ensures in
    let l = c.push_reserved.ensures.len in
    let place : length at.judgings.items + 1 ≡ c.len-number.result = omega (arith, n, l, at.judgings.ok) in
    let wide : c.args.tests ≤ tests_listed at.tasks c.len-number.result =
    subst (λ (k : ℕ). c.args.tests ≤ tests_listed at.tasks k) place
    (next_room (length at.judgings.items) (reserved_of at.prepared.items) (reserved_of c.take_prepared.new.prepared.items) c.args.tests at.tasks c.in-Some.ensures.left (omega (arith, few)) c.self.invariant.ahead) in
    omega (arith, wide, c.wanted_up_to-wanted.ensures.within, row_size c.in-Some.judging c.args.class c.args.tests c.args.mode c.args.asked c.in-Some.ensures.value)

pub list_judging-requires-clause-hidden : goal.list_judging-requires-clause-hidden
list_judging-requires-clause-hidden c = λ test.
    let at = c.self.inside in
    let n = c.len-number.ensures in
    let l = c.push_reserved.ensures.len in
    none_listed_past at.rule (judging_values at.judgings.items) at.leases.leases at.tasks (task_of c.len-number.result test) c.self.invariant.listed (omega (arith, n, l, at.judgings.ok, count_is at.judgings.items))

pub invariant_of-self-2 : goal.invariant_of-self-2
invariant_of-self-2 c =
    let inside = c.self.inside in
    let at = c.self.inside.judgings.items in
    let judging = c.in-Some.judging in
    let n = c.len-number.ensures in
    let l = c.push_reserved.ensures.len in
    let rows : AreWellKept c.push_reserved.new.self.items = rw c.push_reserved.ensures.items (All-push IsWellKept at judging c.self.invariant.rows c.in-Some.ensures.short) in
    let ruled : AreRuledBy c.self.inside.rule c.push_reserved.new.self.items = rw c.push_reserved.ensures.items (All-push (IsRuledBy c.self.inside.rule) at judging c.self.invariant.ruled (c.in-Some.ensures.ruled_itself c.self.inside.rule c.self.invariant.prepared_ruled)) in
    let others_ruled : AreRuledBy c.self.inside.rule c.take_prepared.new.prepared.items = c.in-Some.ensures.ruled c.self.inside.rule c.self.invariant.prepared_ruled in
    let others : ArePrepared c.take_prepared.new.prepared.items = c.in-Some.ensures.prepared in
    let few : length c.push_reserved.new.self.items ≤ 400000 = rw c.push_reserved.ensures.items (one_more 400000 true at judging (small at c.args.self.now (ap (λ (v : JudgeValue). v.state.judgings) c.self.view_is) c.requires.few)) in
    let here : length (judging_values at) + 1 ≡ c.len-number.result = omega (arith, n, l, inside.judgings.ok, count_is at) in
    let value : judging_values c.push_reserved.new.self.items ≡ judging_values at ++ empty_judging c.args.class c.args.tests c.args.mode c.args.asked ∷ [] =
    ap judging_values c.push_reserved.ensures.items ∙ map_push judging_value at judging ∙ ap (λ (j : Judging). judging_values at ++ j ∷ []) c.in-Some.ensures.value in
    let by : judging.row.rule ≡ inside.rule = c.in-Some.ensures.ruled_itself inside.rule c.self.invariant.prepared_ruled in
    let few_before = small at c.args.self.now (ap (λ (v : JudgeValue). v.state.judgings) c.self.view_is) c.requires.few in
    let place : length at + 1 ≡ c.len-number.result = omega (arith, n, l, inside.judgings.ok) in
    let wide : c.args.tests ≤ tests_listed inside.tasks c.len-number.result =
    subst (λ (k : ℕ). c.args.tests ≤ tests_listed inside.tasks k) place
    (next_room (length at) (reserved_of inside.prepared.items) (reserved_of c.take_prepared.new.prepared.items) c.args.tests inside.tasks c.in-Some.ensures.left (omega (arith, few_before)) c.self.invariant.ahead) in
    let size = row_size judging c.args.class c.args.tests c.args.mode c.args.asked c.in-Some.ensures.value in
    let within : c.wanted_up_to-wanted.result ≤ c.args.tests = omega (arith, size, c.wanted_up_to-wanted.ensures.within) in
    let upto = wanted_of_new inside.rule judging c.args.class c.args.tests c.args.mode c.args.asked c.wanted_up_to-wanted.result by c.in-Some.ensures.value c.wanted_up_to-wanted.ensures.wanted in
    let listed : IsListed inside.rule (judging_values c.push_reserved.new.self.items) inside.leases.leases c.list_judging.new.tasks =
    rw value (c.list_judging.ensures.listed inside.rule c.args.mode c.args.tests (judging_values at) inside.leases.leases here wide within upto c.self.invariant.cells c.self.invariant.listed) in
    let cells : AreOnEmptyCells (judging_values c.push_reserved.new.self.items) inside.leases.leases =
    rw value (added_cells (judging_values at) (empty_judging c.args.class c.args.tests c.args.mode c.args.asked) inside.leases.leases c.self.invariant.cells) in
    let tests : cells_in inside.prepared.items ≡ c.args.tests + cells_in c.take_prepared.new.prepared.items =
    cells_taken inside.prepared.items c.take_prepared.new.prepared.items c.args.tests c.in-Some.ensures.left in
    let counted : inside.cells + c.from.result ≡ cells_in c.push_reserved.new.self.items =
    omega (arith, c.from.ensures, c.self.invariant.counted, ap cells_in c.push_reserved.ensures.items, cells_pushed at judging c.args.class c.args.tests c.args.mode c.args.asked c.in-Some.ensures.value) in
    let roomy : most_held inside.hosts (inside.cells + c.from.result + cells_in c.take_prepared.new.prepared.items) ≤ room inside.leases =
    omega (arith, c.from.ensures, tests, c.self.invariant.roomy) in
    let empty = empty_judging c.args.class c.args.tests c.args.mode c.args.asked in
    let answer : c.answer_of-answer.result ≡ judging_answer inside.rule empty = c.answer_of-answer.ensures ∙ ap (λ (r : RuleValue). answer_of r judging.mode judging.row.cells) by ∙ ap (judging_answer inside.rule) c.in-Some.ensures.value in
    let answered : c.push_reserved-2.new.self.items ≡ answers_by inside.rule (judging_values c.push_reserved.new.self.items) =
    c.push_reserved-2.ensures.items ∙ answers_pushed inside.rule (judging_values at) (judging_values c.push_reserved.new.self.items) empty inside.answers.items c.answer_of-answer.result c.self.invariant.answered value answer in
    let more : length c.push_reserved.new.self.items ≡ length at + 1 = ap length c.push_reserved.ensures.items ∙ length_push at judging in
    let left = room_left (length at) (reserved_of inside.prepared.items) (reserved_of c.take_prepared.new.prepared.items) c.args.tests inside.tasks c.in-Some.ensures.left c.self.invariant.ahead in
    let ahead : HasRoom (length c.push_reserved.new.self.items) (reserved_of c.take_prepared.new.prepared.items) c.list_judging.new.tasks =
    ahead_kept (length at + 1) (length c.push_reserved.new.self.items) (reserved_of c.take_prepared.new.prepared.items) inside.tasks c.list_judging.new.tasks more c.list_judging.ensures.widths left in
    search rules

pub returns-clause-number : goal.returns-clause-number
returns-clause-number c = grind (arith, common_steps)

pub returns-clause-added : goal.returns-clause-added
returns-clause-added c = grind (arith, common_steps)
