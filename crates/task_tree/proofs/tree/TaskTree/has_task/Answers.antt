use Rattle.std.proofs.Common.{arith, rules, sym, ◌-◌, ◌<◌, ◌≤◌, subst, length, List}
use Rattle.std.proofs.lemmas.List.{get_or_read}
use Rattle.std.proofs.lemmas.Bool.{leb-true, le-leb}
use Rattle.task_tree.specs.Shown.{JudgingTasks, HasTask}
use Rattle.task_tree.specs.TreeLayout.{no_tasks}
use Rattle.task_tree.specs.declared.tree.KeptTasks.{KeptTasks}
use Rattle.task_tree.proofs.ShownTests.{has_task_at, in_range}
use Rattle.task_tree.proofs.tree.TaskTree.has_task.Goals as goal

pub returns : goal.returns
returns c =
    let ks = c.self.inside.judgings.items in
    let small : c.args.task.judging - 1 < length ks = search rules in
    let read = get_or_read ks (c.args.task.judging - 1) c.index-kept.result.now small c.index-kept.ensures no_tasks in (
      λ e. subst (λ (v : List JudgingTasks). HasTask v c.args.task) c.self.view_is
          (has_task_at ks c.args.task (omega arith) (omega arith) small (subst (λ (x : KeptTasks). c.args.task.test ≤ x.tests) read (leb-true _ _ e))),
      λ h. let r = in_range ks c.args.task (rw (c.self.view_is) h) in
          le-leb _ _ (subst (λ (x : KeptTasks). c.args.task.test ≤ x.tests) (sym read) r.high),
    )
