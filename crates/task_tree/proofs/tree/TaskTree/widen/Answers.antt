use Rattle.std.proofs.Common.{ℕ, rules, subst, sym, ap, ◌∙◌, ◌≡◌, ◌≢◌, ◌-◌, ◌<◌, ◌≤◌, arith, length, List, length-set, false}
use Rattle.std.proofs.lemmas.Grind.{common_steps}
use Rattle.std.proofs.lemmas.List.{length-map, get_or_read}
use Rattle.farm_model.specs.Judgings.{task_of}
use Rattle.task_tree.specs.Bits.{bit}
use Rattle.task_tree.specs.Shown.{JudgingTasks, with_room, is_shown}
use Rattle.task_tree.specs.TreeLayout.{tasks_value, tasks_values, no_tasks, kept_at, AreSized}
use Rattle.task_tree.specs.declared.tree.KeptTasks.{KeptTasks}
use Rattle.task_tree.proofs.ShownTests.{none_shown_at}
use Rattle.task_tree.proofs.Indexing.{sized_set, index_unshown}
use Rattle.task_tree.proofs.Updates.{room_kept, room_made, sized_new, unset_words}
use Rattle.task_tree.proofs.tree.TaskTree.widen.Goals as goal

in_tree : (ks : List KeptTasks) (v : List JudgingTasks) (n : ℕ) → tasks_values ks ≡ v → n ≤ length v → n ≤ length ks
in_tree ks v n e h = omega (arith, h, ap length e, length-map ks tasks_value)

-- of the judging no task is shown
none_set : (ks : List KeptTasks) (v : List JudgingTasks) (n : ℕ) → tasks_values ks ≡ v → 1 ≤ n → n ≤ length ks → AreSized ks → ((test : ℕ) → is_shown v (task_of n test) ≡ false)
    → (k : ℕ) → bit (kept_at ks (n - 1)).shown k ≢ 1
none_set ks v n e low high sized hidden =
    none_shown_at ks n low high (sized.each (n - 1) (omega (arith, low, high))) (λ test. ap (λ (ts : List JudgingTasks). is_shown ts (task_of n test)) e ∙ hidden test)

pub returns-then-index-tests-clause-widened : goal.returns-then-index-tests-clause-widened
returns-then-index-tests-clause-widened c =
    let ks = c.self.inside.judgings.items in
    let n = c.args.judging in
    let high = in_tree ks c.args.self.now n c.self.view_is c.requires.known in
    sym c.self.view_is
    ∙ room_kept ks n c.index.result.now c.args.tests c.requires.numbered high c.index.ensures (search rules)
    ∙ ap (λ (v : List JudgingTasks). with_room v n c.args.tests) c.self.view_is

pub invariant_of-self : goal.invariant_of-self
invariant_of-self c =
    let ks = c.self.inside.judgings.items in
    let n = c.args.judging in
    let x = c.index_mut-kept.result.now in
    let low = c.requires.numbered in
    let high = in_tree ks c.args.self.now n c.self.view_is c.requires.known in
    let h : n - 1 < length ks = omega (arith, low, high) in
    let y : KeptTasks = record { class = x.class; tests = c.args.tests; shown = c.in_ok-shown.shown } in
    let zeros = c.in_ok-shown.ensures in
    record {
      few = omega (arith, c.self.invariant.few, length-set ks (n - 1) y);
      sized = sized_set ks (n - 1) y h c.self.invariant.sized (sized_new x.class c.args.tests c.in_ok-shown.shown c.requires.short zeros);
      indexed = index_unshown ks c.self.inside.classes (n - 1) y h c.self.invariant.indexed (unset_words c.args.tests c.in_ok-shown.shown zeros) (none_set ks c.args.self.now n c.self.view_is low high c.self.invariant.sized c.requires.hidden);
    }

pub returns-clause-widened : goal.returns-clause-widened
returns-clause-widened c =
    let ks = c.self.inside.judgings.items in
    let n = c.args.judging in
    let x = c.index_mut-kept.result.now in
    let low = c.requires.numbered in
    let high = in_tree ks c.args.self.now n c.self.view_is c.requires.known in
    let h : n - 1 < length ks = omega (arith, low, high) in
    let read : x ≡ kept_at ks (n - 1) = get_or_read ks (n - 1) x h c.index_mut-kept.ensures.value no_tasks in
    let read_first : c.index.result.now ≡ kept_at ks (n - 1) = get_or_read ks (n - 1) c.index.result.now h c.index.ensures no_tasks in
    let fewer : x.tests ≤ c.args.tests = let f = c.if-index-tests.false in let t = ap (λ (k : KeptTasks). k.tests) (read ∙ sym read_first) in omega (arith, f, t) in
    let none : (k : ℕ) → bit x.shown k ≢ 1 = subst (λ (z : KeptTasks). (k : ℕ) → bit z.shown k ≢ 1) (sym read) (none_set ks c.args.self.now n c.self.view_is low high c.self.invariant.sized c.requires.hidden) in
    room_made ks n x c.args.tests c.in_ok-shown.shown low high c.index_mut-kept.ensures.value fewer none c.in_ok-shown.ensures
    ∙ ap (λ (v : List JudgingTasks). with_room v n c.args.tests) c.self.view_is

pub index-requires : goal.index-requires
index-requires c = grind (arith, common_steps)

pub index_mut-kept-requires : goal.index_mut-kept-requires
index_mut-kept-requires c = grind (arith, common_steps)
