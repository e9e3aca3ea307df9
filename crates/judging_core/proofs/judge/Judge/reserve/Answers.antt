use Rattle.std.proofs.Common.{◌≡◌, ◌≤◌, ◌+◌, ◌∙◌, rules, refl, sym, ap, arith, length}
use Rattle.lease_book.specs.Book.{room}
use Rattle.judging_core.specs.JudgeShape.{judging_values, answers_by, cells_in, reserved_of}
use Rattle.judging_core.specs.Holding.{IsHeldWell, AreOnEmptyCells, most_held}
use Rattle.judging_core.specs.Listed.{IsListed, HasRoom}
use Rattle.judging_core.proofs.Listed.{count_is, none_listed_past}
use Rattle.judging_core.proofs.Wider.{ahead_kept, wider_listed, wider_ahead}
use Rattle.judging_core.proofs.judge.Judge.reserve.Goals as goal

pub make_room_ahead-requires-clause-known : goal.make_room_ahead-requires-clause-known
make_room_ahead-requires-clause-known c =
    let at = c.self.inside in
    let n = c.len-3.ensures in
    let same : length c.reserve.new.self.items ≡ length at.judgings.items = ap length c.reserve.ensures.items in
    let count : c.len-3.result ≡ length at.judgings.items = omega (arith, n, same, c.reserve.new.self.ok) in
    c.self.invariant.ahead.known c.len-3.result (omega (arith, count)) (omega (arith, count, c.self.invariant.few))

pub make_room_ahead-requires-clause-rest : goal.make_room_ahead-requires-clause-rest
make_room_ahead-requires-clause-rest c = λ task behind.
    let at = c.self.inside in
    let n = c.len-3.ensures in
    let same : length c.reserve.new.self.items ≡ length at.judgings.items = ap length c.reserve.ensures.items in
    let count : c.len-3.result ≡ length at.judgings.items = omega (arith, n, same, c.reserve.new.self.ok) in
    none_listed_past at.rule (judging_values at.judgings.items) at.leases.leases at.tasks task c.self.invariant.listed (omega (arith, behind, count, count_is at.judgings.items))

pub invariant_of-self : goal.invariant_of-self
invariant_of-self c =
    let at = c.self.inside in
    let listed : IsListed at.rule (judging_values c.reserve.new.self.items) at.leases.leases at.tasks = rw c.reserve.ensures.items c.self.invariant.listed in
    let same : length c.reserve.new.self.items ≡ length at.judgings.items = ap length c.reserve.ensures.items in
    let ahead : HasRoom (length c.reserve.new.self.items) (reserved_of at.prepared.items) at.tasks = ahead_kept (length at.judgings.items) (length c.reserve.new.self.items) (reserved_of at.prepared.items) at.tasks at.tasks same refl c.self.invariant.ahead in
    record {
      some = c.self.invariant.some;
      short = c.self.invariant.short;
      moment = c.self.invariant.moment;
      few = rw c.reserve.ensures.items c.self.invariant.few;
      rows = rw c.reserve.ensures.items c.self.invariant.rows;
      ruled = rw c.reserve.ensures.items c.self.invariant.ruled;
      answered = c.self.invariant.answered ∙ sym (ap (λ xs. answers_by at.rule (judging_values xs)) c.reserve.ensures.items);
      few_hosts = c.self.invariant.few_hosts;
      held = c.self.invariant.held;
      cells = rw c.reserve.ensures.items c.self.invariant.cells;
      counted = c.self.invariant.counted ∙ sym (ap cells_in c.reserve.ensures.items);
      roomy = c.self.invariant.roomy;
      prepared = c.self.invariant.prepared;
      prepared_ruled = c.self.invariant.prepared_ruled;
      spare = search rules;
      spare_answers = c.self.invariant.spare_answers;
      listed = listed;
      ahead = ahead;
    }

pub invariant_of-self-in_err-make_answer_room : goal.invariant_of-self-in_err-make_answer_room
invariant_of-self-in_err-make_answer_room c =
    let at = c.self.inside in
    let listed : IsListed at.rule (judging_values c.reserve.new.self.items) at.leases.leases at.tasks = rw c.reserve.ensures.items c.self.invariant.listed in
    let same : length c.reserve.new.self.items ≡ length at.judgings.items = ap length c.reserve.ensures.items in
    let ahead : HasRoom (length c.reserve.new.self.items) (reserved_of at.prepared.items) at.tasks = ahead_kept (length at.judgings.items) (length c.reserve.new.self.items) (reserved_of at.prepared.items) at.tasks at.tasks same refl c.self.invariant.ahead in
    let answered : c.make_answer_room.new.answers.items ≡ answers_by at.rule (judging_values c.reserve.new.self.items) = c.make_answer_room.ensures.items ∙ c.self.invariant.answered ∙ sym (ap (λ xs. answers_by at.rule (judging_values xs)) c.reserve.ensures.items) in
    record {
      some = c.self.invariant.some;
      short = c.self.invariant.short;
      moment = c.self.invariant.moment;
      few = rw c.reserve.ensures.items c.self.invariant.few;
      rows = rw c.reserve.ensures.items c.self.invariant.rows;
      ruled = rw c.reserve.ensures.items c.self.invariant.ruled;
      answered = answered;
      few_hosts = c.self.invariant.few_hosts;
      held = c.self.invariant.held;
      cells = rw c.reserve.ensures.items c.self.invariant.cells;
      counted = c.self.invariant.counted ∙ sym (ap cells_in c.reserve.ensures.items);
      roomy = c.self.invariant.roomy;
      prepared = c.self.invariant.prepared;
      prepared_ruled = c.self.invariant.prepared_ruled;
      spare = search rules;
      spare_answers = search rules;
      listed = listed;
      ahead = ahead;
    }

pub invariant_of-self-in_err-make_room_ahead : goal.invariant_of-self-in_err-make_room_ahead
invariant_of-self-in_err-make_room_ahead c =
    let at = c.self.inside in
    let listed : IsListed at.rule (judging_values c.reserve.new.self.items) at.leases.leases c.make_room_ahead.new.tasks = rw c.reserve.ensures.items (wider_listed at.rule (judging_values at.judgings.items) at.leases.leases at.tasks c.make_room_ahead.new.tasks c.make_room_ahead.ensures.wider c.self.invariant.listed) in
    let same : length c.reserve.new.self.items ≡ length at.judgings.items = ap length c.reserve.ensures.items in
    let ahead : HasRoom (length c.reserve.new.self.items) (reserved_of at.prepared.items) c.make_room_ahead.new.tasks = wider_ahead (length c.reserve.new.self.items) (reserved_of at.prepared.items) at.tasks c.make_room_ahead.new.tasks c.make_room_ahead.ensures.wider
    (ahead_kept (length at.judgings.items) (length c.reserve.new.self.items) (reserved_of at.prepared.items) at.tasks at.tasks same refl c.self.invariant.ahead) in
    let answered : c.make_answer_room.new.answers.items ≡ answers_by at.rule (judging_values c.reserve.new.self.items) = c.make_answer_room.ensures.items ∙ c.self.invariant.answered ∙ sym (ap (λ xs. answers_by at.rule (judging_values xs)) c.reserve.ensures.items) in
    record {
      some = c.self.invariant.some;
      short = c.self.invariant.short;
      moment = c.self.invariant.moment;
      few = rw c.reserve.ensures.items c.self.invariant.few;
      rows = rw c.reserve.ensures.items c.self.invariant.rows;
      ruled = rw c.reserve.ensures.items c.self.invariant.ruled;
      answered = answered;
      few_hosts = c.self.invariant.few_hosts;
      held = c.self.invariant.held;
      cells = rw c.reserve.ensures.items c.self.invariant.cells;
      counted = c.self.invariant.counted ∙ sym (ap cells_in c.reserve.ensures.items);
      roomy = c.self.invariant.roomy;
      prepared = c.self.invariant.prepared;
      prepared_ruled = c.self.invariant.prepared_ruled;
      spare = search rules;
      spare_answers = search rules;
      listed = listed;
      ahead = ahead;
    }

pub invariant_of-self-in_err-make_lease_room : goal.invariant_of-self-in_err-make_lease_room
invariant_of-self-in_err-make_lease_room c =
    let at = c.self.inside in
    let leases = c.make_lease_room.new.leases in
    let same = c.make_lease_room.ensures.leases in
    let held : IsHeldWell at.hosts leases.leases = rw same c.self.invariant.held in
    let cells : AreOnEmptyCells (judging_values c.reserve.new.self.items) leases.leases = rw (c.reserve.ensures.items, same) c.self.invariant.cells in
    let listed : IsListed at.rule (judging_values c.reserve.new.self.items) leases.leases c.make_room_ahead.new.tasks =
    rw (c.reserve.ensures.items, same) (wider_listed at.rule (judging_values at.judgings.items) at.leases.leases at.tasks c.make_room_ahead.new.tasks c.make_room_ahead.ensures.wider c.self.invariant.listed) in
    let count : length c.reserve.new.self.items ≡ length at.judgings.items = ap length c.reserve.ensures.items in
    let ahead : HasRoom (length c.reserve.new.self.items) (reserved_of at.prepared.items) c.make_room_ahead.new.tasks = wider_ahead (length c.reserve.new.self.items) (reserved_of at.prepared.items) at.tasks c.make_room_ahead.new.tasks c.make_room_ahead.ensures.wider
    (ahead_kept (length at.judgings.items) (length c.reserve.new.self.items) (reserved_of at.prepared.items) at.tasks at.tasks count refl c.self.invariant.ahead) in
    let answered : c.make_answer_room.new.answers.items ≡ answers_by at.rule (judging_values c.reserve.new.self.items) = c.make_answer_room.ensures.items ∙ c.self.invariant.answered ∙ sym (ap (λ xs. answers_by at.rule (judging_values xs)) c.reserve.ensures.items) in
    record {
      some = c.self.invariant.some;
      short = c.self.invariant.short;
      moment = c.self.invariant.moment;
      few = rw c.reserve.ensures.items c.self.invariant.few;
      rows = rw c.reserve.ensures.items c.self.invariant.rows;
      ruled = rw c.reserve.ensures.items c.self.invariant.ruled;
      answered = answered;
      few_hosts = c.self.invariant.few_hosts;
      held = held;
      cells = cells;
      counted = c.self.invariant.counted ∙ sym (ap cells_in c.reserve.ensures.items);
      roomy = omega (arith, c.self.invariant.roomy, c.make_lease_room.ensures.grows);
      prepared = c.self.invariant.prepared;
      prepared_ruled = c.self.invariant.prepared_ruled;
      spare = search rules;
      spare_answers = search rules;
      listed = listed;
      ahead = ahead;
    }

pub invariant_of-self-2 : goal.invariant_of-self-2
invariant_of-self-2 c =
    let at = c.self.inside in
    let prepared = c.in_ok-prepared.prepared in
    let leases = c.make_lease_room.new.leases in
    let same = c.make_lease_room.ensures.leases in
    let held : IsHeldWell at.hosts leases.leases = rw same c.self.invariant.held in
    let cells : AreOnEmptyCells (judging_values c.reserve.new.self.items) leases.leases = rw (c.reserve.ensures.items, same) c.self.invariant.cells in
    let listed : IsListed at.rule (judging_values c.reserve.new.self.items) leases.leases c.make_room_ahead.new.tasks =
    rw (c.reserve.ensures.items, same) (wider_listed at.rule (judging_values at.judgings.items) at.leases.leases at.tasks c.make_room_ahead.new.tasks c.make_room_ahead.ensures.wider c.self.invariant.listed) in
    let all : cells_in c.deref.result.now ≡ cells_in prepared.items = ap cells_in c.deref.ensures.value in
    let roomy : most_held at.hosts (at.cells + cells_in prepared.items) ≤ room leases =
    omega (arith, all, c.tests_with-all.ensures, c.in_ok-make_lease_room.ensures.enough, c.self.invariant.few_hosts) in
    let count : length c.reserve.new.self.items ≡ c.len-3.result = let n = c.len-3.ensures in omega (arith, n, c.reserve.new.self.ok) in
    let tests : reserved_of prepared.items ≡ c.as_slice-2.result.now = c.in_ok-prepared.ensures.reserved ∙ c.as_slice.ensures ∙ sym c.as_slice-2.ensures in
    let ahead : HasRoom (length c.reserve.new.self.items) (reserved_of prepared.items) c.make_room_ahead.new.tasks =
    rw (count, tests) c.in_ok-make_room_ahead.ensures.room in
    let answered : c.make_answer_room.new.answers.items ≡ answers_by at.rule (judging_values c.reserve.new.self.items) = c.make_answer_room.ensures.items ∙ c.self.invariant.answered ∙ sym (ap (λ xs. answers_by at.rule (judging_values xs)) c.reserve.ensures.items) in
    record {
      some = c.self.invariant.some;
      short = c.self.invariant.short;
      moment = c.self.invariant.moment;
      few = rw c.reserve.ensures.items c.self.invariant.few;
      rows = rw c.reserve.ensures.items c.self.invariant.rows;
      ruled = rw c.reserve.ensures.items c.self.invariant.ruled;
      answered = answered;
      few_hosts = c.self.invariant.few_hosts;
      held = held;
      cells = cells;
      counted = c.self.invariant.counted ∙ sym (ap cells_in c.reserve.ensures.items);
      roomy = roomy;
      prepared = c.in_ok-prepared.ensures.prepared;
      prepared_ruled = c.in_ok-prepared.ensures.ruled;
      spare = search rules;
      spare_answers = search rules;
      listed = listed;
      ahead = ahead;
    }

pub returns-clause-ok : goal.returns-clause-ok
returns-clause-ok c = search rules
