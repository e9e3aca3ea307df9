use Rattle.std.proofs.Common.{arith, rules, sym, ap, ◌∙◌, ◌≡◌, ◌++◌, ◌∷◌, [], ◌≤◌, ◌<◌, ◌+◌, subst, length, List}
use Rattle.std.proofs.lemmas.Grind.{common_steps}
use Rattle.std.proofs.lemmas.List.{length_push, length-map}
use Rattle.task_tree.specs.Shown.{JudgingTasks, hidden}
use Rattle.task_tree.specs.TreeLayout.{tasks_value, tasks_values, AreSized, IsIndexed}
use Rattle.task_tree.specs.Tree.{IsReserved, HasRoom}
use Rattle.task_tree.specs.declared.tree.KeptTasks.{KeptTasks}
use Rattle.task_tree.proofs.Indexing.{sized_push, index_push}
use Rattle.task_tree.proofs.Updates.{sized_new, value_pushed, empty_words_as}
use Rattle.task_tree.proofs.tree.TaskTree.add.Goals as goal

fits : (ks : List KeptTasks) (v : List JudgingTasks) → tasks_values ks ≡ v → length v < 400000 → length ks < 400000
fits ks v e h = omega (arith, h, ap length e, length-map ks tasks_value)

pub invariant_of-self-2 : goal.invariant_of-self-2
invariant_of-self-2 c =
    let ks = c.self.inside.judgings.items in
    let y : KeptTasks = record { class = c.args.class; tests = c.args.tests; shown = c.in_ok-shown.shown } in
    let e : ks ++ y ∷ [] ≡ c.push_reserved.new.self.items = sym (c.push_reserved.ensures.items ∙ ap (λ (xs : List KeptTasks). xs ++ y ∷ []) c.reserve.ensures.items) in
    let few : length ks < 400000 = fits ks c.args.self.now c.self.view_is c.requires.few in
    let place : c.len-place.result ≡ length ks = search rules in
    let zeros = c.in_ok-shown.ensures in
    record {
      few = subst (λ (xs : List KeptTasks). length xs ≤ 400000) e (rw (length_push) (omega arith));
      sized = subst AreSized e (sized_push ks y c.self.invariant.sized (sized_new c.args.class c.args.tests c.in_ok-shown.shown c.requires.short zeros));
      indexed = subst (λ (xs : List KeptTasks). IsIndexed xs c.reserve-2.new.self) e
          (index_push ks c.self.inside.classes c.reserve-2.new.self y few (empty_words_as c.args.tests c.in_ok-shown.shown zeros) c.self.invariant.indexed (subst (λ n. IsReserved c.self.inside.classes c.reserve-2.new.self n) place c.reserve-2.ensures.reserved) (subst (λ n. HasRoom c.reserve-2.new.self (n + 1)) place c.in_ok-reserve-2.ensures.within));
    }

pub returns-clause-added : goal.returns-clause-added
returns-clause-added c =
    let ks = c.self.inside.judgings.items in
    let y : KeptTasks = record { class = c.args.class; tests = c.args.tests; shown = c.in_ok-shown.shown } in
    ap tasks_values (c.push_reserved.ensures.items ∙ ap (λ (xs : List KeptTasks). xs ++ y ∷ []) c.reserve.ensures.items)
    ∙ value_pushed ks c.args.class c.args.tests c.in_ok-shown.shown c.in_ok-shown.ensures
    ∙ ap (λ (v : List JudgingTasks). v ++ hidden c.args.class c.args.tests ∷ []) c.self.view_is

pub returns-clause-number : goal.returns-clause-number
returns-clause-number c = grind (arith, common_steps)
