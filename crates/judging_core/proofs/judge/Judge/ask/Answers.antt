use Rattle.std.proofs.Common.{ℕ, List, ◌≡◌, ◌≤◌, ◌∙◌, Some, false, rules, refl, ap, sym, length}
use Rattle.std.specs.Option.{option_map}
use Rattle.farm_model.specs.Numbered.{item_of}
use Rattle.farm_model.specs.Judgings.{is_asked, mark_asked, with_asked}
use Rattle.judging_core.specs.declared.judgings.KeptJudging.{KeptJudging}
use Rattle.judging_core.specs.JudgeShape.{judging_values, row_length, AreWellKept, AreRuledBy, cells_in, reserved_of}
use Rattle.judging_core.specs.Holding.{AreOnEmptyCells}
use Rattle.judging_core.specs.Listed.{IsListed, HasRoom, AreOpenShown}
use Rattle.judging_core.proofs.Listed.{none_unasked, shown_seen, asked_listed, asked_row, asked_wide}
use Rattle.judging_core.proofs.Wider.{ahead_kept}
use Rattle.judging_core.proofs.Cells.{asked_cells}
use Rattle.judging_core.proofs.CellCount.{cells_changed}
use Rattle.judging_core.proofs.Reported.{answers_kept}
use Rattle.judging_core.proofs.judge.Judge.ask.Goals as goal

-- asking changes no number of tests
asked_tests : (old new seen : List KeptJudging) (n tests : ℕ) → judging_values new ≡ with_asked (judging_values old) n → seen ≡ new
    → option_map row_length (item_of (judging_values seen) n) ≡ Some tests → option_map row_length (item_of (judging_values old) n) ≡ Some tests
asked_tests old new seen n tests value e count =
    asked_row (judging_values old) n
    ∙ ap (λ xs. option_map row_length (item_of xs n)) (sym value)
    ∙ ap (λ xs. option_map row_length (item_of (judging_values xs) n)) (sym e)
    ∙ count

pub show_open_tests-requires-clause-hidden : goal.show_open_tests-requires-clause-hidden
show_open_tests-requires-clause-hidden c =
    let at = c.self.inside in
    let js = judging_values at.judgings.items in
    let waits : is_asked js c.args.judging ≡ false = ap (λ xs. is_asked (judging_values xs) c.args.judging) (sym c.deref.ensures.value) ∙ c.in_default.ensures.waits in
    none_unasked at.rule js at.leases.leases at.tasks c.args.judging c.self.invariant.listed waits

pub invariant_of-self : goal.invariant_of-self
invariant_of-self c =
    let at = c.self.inside in
    let js = judging_values at.judgings.items in
    let rows : AreWellKept c.mark_asked.new.judgings.items = c.mark_asked.ensures.short c.self.invariant.rows in
    let ruled : AreRuledBy at.rule c.mark_asked.new.judgings.items = c.mark_asked.ensures.ruled at.rule c.self.invariant.ruled in
    let few : length c.mark_asked.new.judgings.items ≤ 400000 = rw c.mark_asked.ensures.count c.self.invariant.few in
    let tests = asked_tests at.judgings.items c.mark_asked.new.judgings.items c.deref-2.result.now c.args.judging c.test_count-tests.result c.mark_asked.ensures.value c.deref-2.ensures.value c.test_count-tests.ensures.count in
    let shown : AreOpenShown at.rule (with_asked js c.args.judging) at.leases.leases c.args.judging c.test_count-tests.result at.tasks c.show_open_tests.new.tasks =
    shown_seen at.rule c.deref-3.result.now c.mark_asked.new.judgings.items (with_asked js c.args.judging) at.leases.leases c.args.judging c.test_count-tests.result at.tasks c.show_open_tests.new.tasks
    c.deref-3.ensures.value c.mark_asked.ensures.value c.show_open_tests.ensures.shown ruled (asked_wide js at.tasks c.args.judging c.self.invariant.listed.wide) in
    let listed : IsListed at.rule (judging_values c.mark_asked.new.judgings.items) at.leases.leases c.show_open_tests.new.tasks =
    rw c.mark_asked.ensures.value (asked_listed at.rule js at.leases.leases at.tasks c.show_open_tests.new.tasks c.args.judging c.test_count-tests.result c.self.invariant.listed tests shown) in
    let cells : AreOnEmptyCells (judging_values c.mark_asked.new.judgings.items) at.leases.leases = rw c.mark_asked.ensures.value (asked_cells js at.leases.leases c.args.judging c.self.invariant.cells) in
    let counted : at.cells ≡ cells_in c.mark_asked.new.judgings.items = c.self.invariant.counted ∙ sym (cells_changed at.judgings.items c.mark_asked.new.judgings.items c.args.judging mark_asked c.mark_asked.ensures.value (λ x. refl)) in
    let answered = answers_kept at.rule js (judging_values c.mark_asked.new.judgings.items) c.args.judging mark_asked at.answers.items c.self.invariant.answered c.mark_asked.ensures.value (λ x. refl) in
    let ahead : HasRoom (length c.mark_asked.new.judgings.items) (reserved_of at.prepared.items) c.show_open_tests.new.tasks = ahead_kept (length at.judgings.items) (length c.mark_asked.new.judgings.items) (reserved_of at.prepared.items) at.tasks c.show_open_tests.new.tasks c.mark_asked.ensures.count c.show_open_tests.ensures.widths c.self.invariant.ahead in
    search rules
