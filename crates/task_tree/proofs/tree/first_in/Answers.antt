use Rattle.std.proofs.Common.{sym, subst, ap, ◌∙◌, arith}
use Rattle.std.proofs.lemmas.Grind.{common_steps}
use Rattle.std.specs.Prelude.{◌==◌}
use Rattle.std.proofs.lemmas.List.{get_or_read}
use Rattle.task_tree.specs.Bits.{IsLeast}
use Rattle.task_tree.specs.Tree.{of_class}
use Rattle.task_tree.specs.TreeLayout.{no_tasks}
use Rattle.task_tree.specs.declared.tree.KeptTasks.{KeptTasks}
use Rattle.task_tree.proofs.ShownTests.{has_task, is_shown_at}
use Rattle.task_tree.proofs.Firsts.{none_of_class, first_of_class}
use Rattle.task_tree.proofs.tree.first_in.Goals as goal

pub returns-in_default-clause-first : goal.returns-in_default-clause-first
returns-in_default-clause-first g c =
    let ks = c.args.judgings.now.items in
    sym (none_of_class c.args.class ks (of_class c.args.classes.now c.args.class).numbers (c.requires.indexed.each c.args.class) c.in_default.ensures.none)

pub returns-in-Some-first-clause-first : goal.returns-in-Some-first-clause-first
returns-in-Some-first-clause-first g c =
    let ks = c.args.judgings.now.items in
    let a = c.requires.indexed.each c.args.class in
    let least = c.in-Some.ensures.least in
    let read = get_or_read ks c.in-Some.place c.index.result.now (a.known c.in-Some.place least.here) c.index.ensures no_tasks in
    sym (first_of_class c.args.class ks (of_class c.args.classes.now c.args.class).numbers c.in-Some.place c.in-Some-first.number c.requires.sized a least
    (subst (λ (x : KeptTasks). IsLeast x.shown c.in-Some-first.number) read c.in-Some-first.ensures.least))

pub returns-in-Some-first-clause-there : goal.returns-in-Some-first-clause-there
returns-in-Some-first-clause-there g c =
    let ks = c.args.judgings.now.items in
    let there = (c.requires.indexed.each c.args.class).known c.in-Some.place c.in-Some.ensures.least.here in
    let read = get_or_read ks c.in-Some.place c.index.result.now there c.index.ensures no_tasks in
    let here = subst (λ (x : KeptTasks). IsLeast x.shown c.in-Some-first.number) read c.in-Some-first.ensures.least in
    has_task ks c.in-Some.place c.in-Some-first.number there ((c.requires.sized.each c.in-Some.place there).bound c.in-Some-first.number here.here)

pub returns-in-Some-first-clause-shown : goal.returns-in-Some-first-clause-shown
returns-in-Some-first-clause-shown g c =
    let ks = c.args.judgings.now.items in
    let there = (c.requires.indexed.each c.args.class).known c.in-Some.place c.in-Some.ensures.least.here in
    let read = get_or_read ks c.in-Some.place c.index.result.now there c.index.ensures no_tasks in
    let here = subst (λ (x : KeptTasks). IsLeast x.shown c.in-Some-first.number) read c.in-Some-first.ensures.least in
    is_shown_at ks c.in-Some.place c.in-Some-first.number there ((c.requires.sized.each c.in-Some.place there).bound c.in-Some-first.number here.here) ∙ ap (λ m. m == 1) here.here

pub overflow_cast-result-in-Some-first : goal.overflow_cast-result-in-Some-first
overflow_cast-result-in-Some-first g c = grind (arith, common_steps)

pub overflow_add-result-in-Some-first : goal.overflow_add-result-in-Some-first
overflow_add-result-in-Some-first g c = grind (arith, common_steps)

pub returns-in-None-clause-first : goal.returns-in-None-clause-first
returns-in-None-clause-first g c = grind (arith, common_steps)

pub returns-in-None-clause-none : goal.returns-in-None-clause-none
returns-in-None-clause-none g c = grind (arith, common_steps)

pub returns-in-Some-first-clause-some : goal.returns-in-Some-first-clause-some
returns-in-Some-first-clause-some g c = grind (arith, common_steps)
