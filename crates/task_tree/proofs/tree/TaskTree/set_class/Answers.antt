use Rattle.std.proofs.Common.{ℕ, arith, refl, subst, sym, ap, ◌∙◌, ◌≡◌, ◌-◌, ◌<◌, ◌≤◌, length, List, length-set, false}
use Rattle.std.proofs.lemmas.List.{length-map}
use Rattle.std.proofs.lemmas.List.{get_or_read}
use Rattle.farm_model.specs.Judgings.{task_of}
use Rattle.task_tree.specs.Shown.{JudgingTasks, with_class, is_shown}
use Rattle.task_tree.specs.TreeLayout.{tasks_value, tasks_values, no_tasks, kept_at, IsSized}
use Rattle.task_tree.specs.declared.tree.KeptTasks.{KeptTasks}
use Rattle.task_tree.proofs.Changed.{changed}
use Rattle.task_tree.proofs.ShownTests.{none_shown_at}
use Rattle.task_tree.proofs.Indexing.{sized_set, index_classed}
use Rattle.task_tree.proofs.tree.TaskTree.set_class.Goals as goal

in_tree : (ks : List KeptTasks) (v : List JudgingTasks) (n : ℕ) → tasks_values ks ≡ v → n ≤ length v → n ≤ length ks
in_tree ks v n e h = omega (arith, h, ap length e, length-map ks tasks_value)

pub invariant_of-self : goal.invariant_of-self
invariant_of-self c =
    let ks = c.self.inside.judgings.items in
    let n = c.args.judging in
    let x = c.index_mut-kept.result.now in
    let low = c.requires.numbered in
    let high = in_tree ks c.args.self.now n c.self.view_is c.requires.known in
    let read : x ≡ kept_at ks (n - 1) = get_or_read ks (n - 1) x (omega (arith, low, high)) c.index_mut-kept.ensures.value no_tasks in
    let y : KeptTasks = record { class = c.args.class; tests = x.tests; shown = x.shown } in
    let h : n - 1 < length ks = omega (arith, low, high) in
    let s : IsSized (kept_at ks (n - 1)) = c.self.invariant.sized.each (n - 1) h in
    let sized_y : IsSized y = subst (λ (k : KeptTasks). IsSized (record { class = c.args.class; tests = k.tests; shown = k.shown })) (sym read) (record { tests = s.tests; words = s.words; room = s.room; bound = s.bound }) in
    let hidden : (test : ℕ) → is_shown (tasks_values ks) (task_of n test) ≡ false = λ test. ap (λ (v : List JudgingTasks). is_shown v (task_of n test)) c.self.view_is ∙ c.requires.hidden test in
    record {
      few = omega (arith, c.self.invariant.few, length-set ks (n - 1) y);
      sized = sized_set ks (n - 1) y h c.self.invariant.sized sized_y;
      indexed = index_classed ks c.self.inside.classes (n - 1) y h c.self.invariant.indexed (ap (λ (k : KeptTasks). k.shown) read) (none_shown_at ks n low high s hidden);
    }

pub returns : goal.returns
returns c =
    let ks = c.self.inside.judgings.items in
    let x = c.index_mut-kept.result.now in
    let high = in_tree ks c.args.self.now c.args.judging c.self.view_is c.requires.known in
    changed tasks_value ks c.args.judging x (record { class = c.args.class; tests = x.tests; shown = x.shown }) (λ j. record j { class = c.args.class })
    (omega (arith, c.requires.numbered)) high c.index_mut-kept.ensures.value refl
    ∙ ap (λ (v : List JudgingTasks). with_class v c.args.judging c.args.class) c.self.view_is
