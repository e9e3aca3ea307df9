use Rattle.std.proofs.Common.{ℕ, ◌≡◌, ◌∙◌, ◌≤◌, ◌<◌, ◌+◌, rules, sym, ap, arith, List, ◌++◌, ◌∷◌, [], Bool, true, false, if◌then◌else◌, is_ok, length}
use Rattle.std.proofs.lemmas.Grind.{common_steps}
use Rattle.std.specs.List.{All}
use Rattle.std.proofs.lemmas.List.{length_push, length-map, map_push, map-append}
use Rattle.std.proofs.lemmas.List.Elements.{All-push}
use Rattle.farm_model.specs.declared.records.Lease.{Lease}
use Rattle.farm_model.specs.Judge.{add_judging}
use Rattle.farm_kinds.specs.RuleValue.{RuleValue}
use Rattle.farm_model.specs.Rows.{answer_of}
use Rattle.farm_model.specs.Judgings.{Judging, task_of, empty_judging, judging_answer}
use Rattle.lease_book.specs.Book.{room}
use Rattle.task_tree.specs.Shown.{is_shown}
use Rattle.judging_core.specs.declared.judge.Judge.TheInside.{Inside}
use Rattle.judging_core.specs.JudgeValue.{JudgeValue, with_judging, starts_with}
use Rattle.judging_core.specs.JudgeLayout.{judge_value}
use Rattle.judging_core.specs.declared.judgings.KeptJudging.{KeptJudging}
use Rattle.judging_core.specs.JudgeShape.{judging_value, judging_values, answers_by, IsWellKept, AreWellKept, IsRuledBy, AreRuledBy, cells_in, reserved_of}
use Rattle.judging_core.specs.Holding.{IsHeldWell, AreOnEmptyCells, most_held}
use Rattle.judging_core.specs.Listed.{IsListed, HasRoom}
use Rattle.judging_core.proofs.Listed.{count_is, none_listed_past, row_size, wanted_of_new}
use Rattle.judging_core.proofs.Shown.{same_size}
use Rattle.judging_core.proofs.Wider.{wider_listed, wider_ahead, room_none}
use Rattle.judging_core.proofs.MadeAhead.{none_left}
use Rattle.judging_core.proofs.Cells.{added_cells}
use Rattle.judging_core.proofs.CellCount.{cells_few, cells_pushed}
use Rattle.judging_core.proofs.Reported.{answers_pushed}
use Rattle.judging_core.proofs.judge.Judge.add_judging.Goals as goal

-- whether or not the item was pushed
all_with : {X : Type 0} (P : X → Type 0) (pushed : Bool) (xs : List X) (x : X) → All P xs → P x → All P (if pushed then xs ++ x ∷ [] else xs)
all_with P true xs x h k = All-push P xs x h k
all_with P false xs x h k = h

one_more : {X : Type 0} (n : ℕ) (pushed : Bool) (xs : List X) (x : X) → length xs < n → length (if pushed then xs ++ x ∷ [] else xs) ≤ n
one_more n true xs x lt = omega (arith, length_push xs x)
one_more n false xs x lt = omega arith

small : (judgings : List KeptJudging) (judge : JudgeValue) → judging_values judgings ≡ judge.state.judgings → length judge.state.judgings < 400000 → length judgings < 400000
small judgings judge e few = omega (arith, few, count_is judgings, ap length e)

-- of a judging to come no task is listed
hidden_next : (at : Inside) (n test : ℕ) → IsListed at.rule (judging_values at.judgings.items) at.leases.leases at.tasks → n ≡ length at.judgings.items → is_shown at.tasks (task_of (n + 1) test) ≡ false
hidden_next at n test h e =
    none_listed_past at.rule (judging_values at.judgings.items) at.leases.leases at.tasks (task_of (n + 1) test) h (omega (arith, e, count_is at.judgings.items))

pub make_room-requires-clause-next : goal.make_room-requires-clause-next
make_room-requires-clause-next c =
    let at = c.self.inside in
    let n = c.len-number.ensures in
    let there = c.self.invariant.ahead.known (length at.judgings.items) (omega arith) c.self.invariant.few in
    omega (arith, n, at.judgings.ok, there)

pub make_room-requires-clause-hidden : goal.make_room-requires-clause-hidden
make_room-requires-clause-hidden c = λ test.
    let at = c.self.inside in
    let n = c.len-number.ensures in
    hidden_next at c.len-number.result test c.self.invariant.listed (omega (arith, n, at.judgings.ok))

pub invariant_of-self : goal.invariant_of-self
invariant_of-self c =
    let at = c.self.inside in
    let listed : IsListed at.rule (judging_values at.judgings.items) at.leases.leases c.make_room.new.tasks = wider_listed at.rule (judging_values at.judgings.items) at.leases.leases at.tasks c.make_room.new.tasks c.make_room.ensures.wider c.self.invariant.listed in
    let ahead : HasRoom (length at.judgings.items) (reserved_of at.prepared.items) c.make_room.new.tasks =
    wider_ahead (length at.judgings.items) (reserved_of at.prepared.items) at.tasks c.make_room.new.tasks c.make_room.ensures.wider c.self.invariant.ahead in
    record {
      some = c.self.invariant.some;
      short = c.self.invariant.short;
      moment = c.self.invariant.moment;
      few = c.self.invariant.few;
      rows = c.self.invariant.rows;
      ruled = c.self.invariant.ruled;
      answered = c.self.invariant.answered;
      few_hosts = c.self.invariant.few_hosts;
      held = c.self.invariant.held;
      cells = c.self.invariant.cells;
      counted = c.self.invariant.counted;
      roomy = c.self.invariant.roomy;
      prepared = c.self.invariant.prepared;
      prepared_ruled = c.self.invariant.prepared_ruled;
      spare = c.self.invariant.spare;
      spare_answers = c.self.invariant.spare_answers;
      listed = listed;
      ahead = ahead;
    }

pub invariant_of-self-in_err-make_lease_room : goal.invariant_of-self-in_err-make_lease_room
invariant_of-self-in_err-make_lease_room c =
    let at = c.self.inside in
    let leases = c.make_lease_room.new.leases in
    let same = c.make_lease_room.ensures.leases in
    let held : IsHeldWell at.hosts leases.leases = rw same c.self.invariant.held in
    let cells : AreOnEmptyCells (judging_values at.judgings.items) leases.leases = rw same c.self.invariant.cells in
    let listed : IsListed at.rule (judging_values at.judgings.items) leases.leases c.make_room.new.tasks = rw same (wider_listed at.rule (judging_values at.judgings.items) at.leases.leases at.tasks c.make_room.new.tasks c.make_room.ensures.wider c.self.invariant.listed) in
    let ahead : HasRoom (length at.judgings.items) (reserved_of at.prepared.items) c.make_room.new.tasks =
    wider_ahead (length at.judgings.items) (reserved_of at.prepared.items) at.tasks c.make_room.new.tasks c.make_room.ensures.wider c.self.invariant.ahead in
    record {
      some = c.self.invariant.some;
      short = c.self.invariant.short;
      moment = c.self.invariant.moment;
      few = c.self.invariant.few;
      rows = c.self.invariant.rows;
      ruled = c.self.invariant.ruled;
      answered = c.self.invariant.answered;
      few_hosts = c.self.invariant.few_hosts;
      held = held;
      cells = cells;
      counted = c.self.invariant.counted;
      roomy = omega (arith, c.self.invariant.roomy, c.make_lease_room.ensures.grows);
      prepared = c.self.invariant.prepared;
      prepared_ruled = c.self.invariant.prepared_ruled;
      spare = c.self.invariant.spare;
      spare_answers = c.self.invariant.spare_answers;
      listed = listed;
      ahead = ahead;
    }

pub invariant_of-self-in_err-make_answer_room : goal.invariant_of-self-in_err-make_answer_room
invariant_of-self-in_err-make_answer_room c =
    let at = c.self.inside in
    let leases = c.make_lease_room.new.leases in
    let same = c.make_lease_room.ensures.leases in
    let held : IsHeldWell at.hosts leases.leases = rw same c.self.invariant.held in
    let cells : AreOnEmptyCells (judging_values at.judgings.items) leases.leases = rw same c.self.invariant.cells in
    let listed : IsListed at.rule (judging_values at.judgings.items) leases.leases c.make_room.new.tasks = rw same (wider_listed at.rule (judging_values at.judgings.items) at.leases.leases at.tasks c.make_room.new.tasks c.make_room.ensures.wider c.self.invariant.listed) in
    let ahead : HasRoom (length at.judgings.items) (reserved_of at.prepared.items) c.make_room.new.tasks =
    wider_ahead (length at.judgings.items) (reserved_of at.prepared.items) at.tasks c.make_room.new.tasks c.make_room.ensures.wider c.self.invariant.ahead in
    let answered : c.make_answer_room.new.answers.items ≡ answers_by at.rule (judging_values at.judgings.items) = c.make_answer_room.ensures.items ∙ c.self.invariant.answered in
    record {
      some = c.self.invariant.some;
      short = c.self.invariant.short;
      moment = c.self.invariant.moment;
      few = c.self.invariant.few;
      rows = c.self.invariant.rows;
      ruled = c.self.invariant.ruled;
      answered = answered;
      few_hosts = c.self.invariant.few_hosts;
      held = held;
      cells = cells;
      counted = c.self.invariant.counted;
      roomy = omega (arith, c.self.invariant.roomy, c.make_lease_room.ensures.grows);
      prepared = c.self.invariant.prepared;
      prepared_ruled = c.self.invariant.prepared_ruled;
      spare = c.self.invariant.spare;
      spare_answers = search rules;
      listed = listed;
      ahead = ahead;
    }

pub invariant_of-self-in_err-judging : goal.invariant_of-self-in_err-judging
invariant_of-self-in_err-judging c =
    let at = c.self.inside in
    let leases = c.make_lease_room.new.leases in
    let same = c.make_lease_room.ensures.leases in
    let held : IsHeldWell at.hosts leases.leases = rw same c.self.invariant.held in
    let cells : AreOnEmptyCells (judging_values at.judgings.items) leases.leases = rw same c.self.invariant.cells in
    let listed : IsListed at.rule (judging_values at.judgings.items) leases.leases c.make_room.new.tasks = rw same (wider_listed at.rule (judging_values at.judgings.items) at.leases.leases at.tasks c.make_room.new.tasks c.make_room.ensures.wider c.self.invariant.listed) in
    let ahead : HasRoom (length at.judgings.items) (reserved_of at.prepared.items) c.make_room.new.tasks =
    wider_ahead (length at.judgings.items) (reserved_of at.prepared.items) at.tasks c.make_room.new.tasks c.make_room.ensures.wider c.self.invariant.ahead in
    let answered : c.make_answer_room.new.answers.items ≡ answers_by at.rule (judging_values at.judgings.items) = c.make_answer_room.ensures.items ∙ c.self.invariant.answered in
    record {
      some = c.self.invariant.some;
      short = c.self.invariant.short;
      moment = c.self.invariant.moment;
      few = c.self.invariant.few;
      rows = c.self.invariant.rows;
      ruled = c.self.invariant.ruled;
      answered = answered;
      few_hosts = c.self.invariant.few_hosts;
      held = held;
      cells = cells;
      counted = c.self.invariant.counted;
      roomy = omega (arith, c.self.invariant.roomy, c.make_lease_room.ensures.grows);
      prepared = c.self.invariant.prepared;
      prepared_ruled = c.self.invariant.prepared_ruled;
      spare = c.self.invariant.spare;
      spare_answers = search rules;
      listed = listed;
      ahead = ahead;
    }

pub overflow_add-cells : goal.overflow_add-cells
overflow_add-cells c = omega (arith, c.from.ensures, c.requires.short, c.self.invariant.counted, cells_few c.self.inside.judgings.items c.self.invariant.rows, c.self.invariant.few)

pub invariant_of-self-in_err-map_err : goal.invariant_of-self-in_err-map_err
invariant_of-self-in_err-map_err c =
    let at = c.self.inside in
    let failed : is_ok c.push.result ≡ false = sym c.map_err.ensures.variant ∙ ap is_ok c.in_err-map_err.was in
    let same : c.push.new.self.items ≡ at.judgings.items = c.push.ensures.items ∙ ap (λ (b : Bool). if b then at.judgings.items ++ c.in_ok-judging.judging ∷ [] else at.judgings.items) failed in
    let leases = c.make_lease_room.new.leases in
    let held : IsHeldWell at.hosts leases.leases = rw c.make_lease_room.ensures.leases c.self.invariant.held in
    let listed : IsListed at.rule (judging_values c.push.new.self.items) leases.leases c.make_room.new.tasks = rw (same, c.make_lease_room.ensures.leases) (wider_listed at.rule (judging_values at.judgings.items) at.leases.leases at.tasks c.make_room.new.tasks c.make_room.ensures.wider c.self.invariant.listed) in
    let size : length c.push.new.self.items ≡ length at.judgings.items = ap length same in
    let ahead : HasRoom (length c.push.new.self.items) (reserved_of at.prepared.items) c.make_room.new.tasks =
    rw size (wider_ahead (length at.judgings.items) (reserved_of at.prepared.items) at.tasks c.make_room.new.tasks c.make_room.ensures.wider c.self.invariant.ahead) in
    let rows : AreWellKept c.push.new.self.items = rw same c.self.invariant.rows in
    let ruled : AreRuledBy at.rule c.push.new.self.items = rw same c.self.invariant.ruled in
    let few : length c.push.new.self.items ≤ 400000 = omega (arith, size, c.self.invariant.few) in
    let cells : AreOnEmptyCells (judging_values c.push.new.self.items) leases.leases = rw (same, c.make_lease_room.ensures.leases) c.self.invariant.cells in
    let counted : at.cells ≡ cells_in c.push.new.self.items = c.self.invariant.counted ∙ sym (ap cells_in same) in
    let answered : c.make_answer_room.new.answers.items ≡ answers_by at.rule (judging_values c.push.new.self.items) = c.make_answer_room.ensures.items ∙ c.self.invariant.answered ∙ sym (ap (λ xs. answers_by at.rule (judging_values xs)) same) in
    record {
      some = c.self.invariant.some;
      short = c.self.invariant.short;
      moment = c.self.invariant.moment;
      few = few;
      rows = rows;
      ruled = ruled;
      answered = answered;
      few_hosts = c.self.invariant.few_hosts;
      held = held;
      cells = cells;
      counted = counted;
      roomy = omega (arith, c.self.invariant.roomy, c.make_lease_room.ensures.grows);
      prepared = c.self.invariant.prepared;
      prepared_ruled = c.self.invariant.prepared_ruled;
      spare = search rules;
      spare_answers = search rules;
      listed = listed;
      ahead = ahead;
    }

pub list_judging-requires-clause-known : goal.list_judging-requires-clause-known
list_judging-requires-clause-known c = c.in_ok-make_room.ensures.known

pub list_judging-requires-clause-wide : goal.list_judging-requires-clause-wide
list_judging-requires-clause-wide c =
    omega (arith, c.in_ok-make_room.ensures.wide, c.wanted_up_to-wanted.ensures.within, row_size c.in_ok-judging.judging c.args.class c.args.tests c.args.mode c.args.asked c.in_ok-judging.ensures.value)

pub list_judging-requires-clause-hidden : goal.list_judging-requires-clause-hidden
list_judging-requires-clause-hidden c = λ test.
    let at = c.self.inside in
    let n = c.len-number.ensures in
    c.make_room.ensures.wider.shown (task_of (c.len-number.result + 1) test) ∙ hidden_next at c.len-number.result test c.self.invariant.listed (omega (arith, n, at.judgings.ok))

pub invariant_of-self-2 : goal.invariant_of-self-2
invariant_of-self-2 c =
    let at = c.self.inside.judgings.items in
    let judging = c.in_ok-judging.judging in
    let rows : AreWellKept c.push.new.self.items = rw c.push.ensures.items (all_with IsWellKept (is_ok c.push.result) at judging c.self.invariant.rows c.in_ok-judging.ensures.short) in
    let ruled : AreRuledBy c.self.inside.rule c.push.new.self.items = rw c.push.ensures.items (all_with (IsRuledBy c.self.inside.rule) (is_ok c.push.result) at judging c.self.invariant.ruled c.in_ok-judging.ensures.ruled) in
    let below : length at < 400000 = omega (arith, length-map at judging_value, ap (λ (v : JudgeValue). length v.state.judgings) c.self.view_is, c.requires.few) in
    let few : length c.push.new.self.items ≤ 400000 = rw c.push.ensures.items (one_more 400000 (is_ok c.push.result) at judging below) in
    let inside = c.self.inside in
    let ok : is_ok c.push.result ≡ true = sym c.map_err.ensures.variant ∙ ap is_ok c.in_ok-map_err.was in
    let pushed : c.push.new.self.items ≡ at ++ judging ∷ [] = c.push.ensures.items ∙ ap (λ (b : Bool). if b then at ++ judging ∷ [] else at) ok in
    let value : judging_values c.push.new.self.items ≡ judging_values at ++ empty_judging c.args.class c.args.tests c.args.mode c.args.asked ∷ [] =
    ap judging_values pushed ∙ map_push judging_value at judging ∙ ap (λ (j : Judging). judging_values at ++ j ∷ []) c.in_ok-judging.ensures.value in
    let n = c.len-number.ensures in
    let here : length (judging_values at) + 1 ≡ c.len-number.result + 1 = omega (arith, n, inside.judgings.ok, count_is at) in
    let leases = c.make_lease_room.new.leases in
    let same = c.make_lease_room.ensures.leases in
    let held : IsHeldWell inside.hosts leases.leases = rw same c.self.invariant.held in
    let size = row_size judging c.args.class c.args.tests c.args.mode c.args.asked c.in_ok-judging.ensures.value in
    let within : c.wanted_up_to-wanted.result ≤ c.args.tests = omega (arith, size, c.wanted_up_to-wanted.ensures.within) in
    let upto = wanted_of_new inside.rule judging c.args.class c.args.tests c.args.mode c.args.asked c.wanted_up_to-wanted.result c.in_ok-judging.ensures.ruled c.in_ok-judging.ensures.value c.wanted_up_to-wanted.ensures.wanted in
    let listed : IsListed inside.rule (judging_values c.push.new.self.items) leases.leases c.list_judging.new.tasks =
    rw (value, same) (c.list_judging.ensures.listed inside.rule c.args.mode c.args.tests (judging_values at) inside.leases.leases here c.in_ok-make_room.ensures.wide within upto c.self.invariant.cells (wider_listed inside.rule (judging_values at) inside.leases.leases inside.tasks c.make_room.new.tasks c.make_room.ensures.wider c.self.invariant.listed)) in
    let cells : AreOnEmptyCells (judging_values c.push.new.self.items) leases.leases =
    rw (value, same) (added_cells (judging_values at) (empty_judging c.args.class c.args.tests c.args.mode c.args.asked) inside.leases.leases c.self.invariant.cells) in
    let counted : inside.cells + c.from.result ≡ cells_in c.push.new.self.items =
    omega (arith, c.from.ensures, c.self.invariant.counted, ap cells_in pushed, cells_pushed at judging c.args.class c.args.tests c.args.mode c.args.asked c.in_ok-judging.ensures.value) in
    let none_ahead : cells_in c.new.result.items ≡ 0 = ap cells_in c.new.ensures.items in
    let roomy : most_held inside.hosts (inside.cells + c.from.result + cells_in c.new.result.items) ≤ room leases =
    omega (arith, none_ahead, c.in_ok-make_lease_room.ensures.enough) in
    let empty = empty_judging c.args.class c.args.tests c.args.mode c.args.asked in
    let answer : c.answer_of-answer.result ≡ judging_answer inside.rule empty = c.answer_of-answer.ensures ∙ ap (λ (r : RuleValue). answer_of r judging.mode judging.row.cells) c.in_ok-judging.ensures.ruled ∙ ap (judging_answer inside.rule) c.in_ok-judging.ensures.value in
    let answered : c.push_reserved.new.self.items ≡ answers_by inside.rule (judging_values c.push.new.self.items) =
    c.push_reserved.ensures.items ∙ answers_pushed inside.rule (judging_values at) (judging_values c.push.new.self.items) empty c.make_answer_room.new.answers.items c.answer_of-answer.result (c.make_answer_room.ensures.items ∙ c.self.invariant.answered) value answer in
    let more : length c.push.new.self.items ≡ c.len-number.result + 1 = let pushed_count = ap length pushed ∙ length_push at judging in omega (arith, pushed_count, n, inside.judgings.ok) in
    let known : length c.push.new.self.items ≤ length c.list_judging.new.tasks = omega (arith, more, c.in_ok-make_room.ensures.known, same_size c.make_room.new.tasks c.list_judging.new.tasks c.list_judging.ensures.widths) in
    let ahead : HasRoom (length c.push.new.self.items) (reserved_of c.new.result.items) c.list_judging.new.tasks =
    rw c.new.ensures.items (room_none (length c.push.new.self.items) c.list_judging.new.tasks known) in
    record {
      some = c.self.invariant.some;
      short = c.self.invariant.short;
      moment = c.self.invariant.moment;
      few = few;
      rows = rows;
      ruled = ruled;
      answered = answered;
      few_hosts = c.self.invariant.few_hosts;
      held = held;
      cells = cells;
      counted = counted;
      roomy = roomy;
      prepared = search rules;
      prepared_ruled = search rules;
      spare = search rules;
      spare_answers = search rules;
      listed = listed;
      ahead = ahead;
    }

-- no room is left where another number of tests was reserved
pub returns-clause-added : goal.returns-clause-added
returns-clause-added c =
    let at = c.self.inside.judgings.items in
    let class = c.args.class in
    let tests = c.args.tests in
    let start : JudgeValue = judge_value c.self.inside in
    let leases = c.make_lease_room.new.leases.leases in
    let ok : is_ok c.push.result ≡ true = sym c.map_err.ensures.variant ∙ ap is_ok c.in_ok-map_err.was in
    let pushed : c.push.new.self.items ≡ at ++ c.in_ok-judging.judging ∷ [] = c.push.ensures.items ∙ ap (λ (b : Bool). if b then at ++ c.in_ok-judging.judging ∷ [] else at) ok in
    let other : starts_with start.reserved tests ≡ false = cc in
    let seen : judging_values c.push.new.self.items ≡ judging_values at ++ empty_judging class tests c.args.mode c.args.asked ∷ [] =
    ap judging_values pushed ∙ map-append judging_value at (c.in_ok-judging.judging ∷ []) ∙ ap (λ (judging : Judging). judging_values at ++ judging ∷ []) c.in_ok-judging.ensures.value in
    ap (λ (prepared : List KeptJudging). record start { state = record start.state { judgings = judging_values c.push.new.self.items; leases = leases }; reserved = reserved_of prepared }) c.new.ensures.items
    ∙ ap (λ (ls : List Lease). record start { state = record start.state { judgings = judging_values c.push.new.self.items; leases = ls }; reserved = [] }) c.make_lease_room.ensures.leases
    ∙ ap (λ (judgings : List Judging). record start { state = record start.state { judgings = judgings }; reserved = [] }) seen
    ∙ ap (λ (left : List ℕ). record start { state = add_judging start.state class tests c.args.mode c.args.asked; reserved = left }) (sym (none_left start.reserved tests other))
    ∙ ap (λ (v : JudgeValue). with_judging v class tests c.args.mode c.args.asked) c.self.view_is

pub make_room-requires-clause-few : goal.make_room-requires-clause-few
make_room-requires-clause-few c = grind (arith, common_steps)

pub returns-clause-number : goal.returns-clause-number
returns-clause-number c = grind (arith, common_steps)
