use Rattle.std.proofs.Common.{arith, rules, refl, sym, ap, ◌∙◌, ◌-◌, ◌<◌, length, List, length-set, false}
use Rattle.task_tree.specs.Shown.{JudgingTasks, with_shown}
use Rattle.task_tree.specs.declared.tree.KeptTasks.{KeptTasks}
use Rattle.task_tree.proofs.ShownTests.{in_range, shown_removed, sized_removed}
use Rattle.task_tree.proofs.Indexing.{sized_set, index_hidden, index_kept}
use Rattle.task_tree.proofs.Updates.{removed_part, read, small, sized_at, test_room, place_room, value_changed}
use Rattle.task_tree.proofs.tree.TaskTree.hide_task.Goals as goal

pub remove-requires : goal.remove-requires
remove-requires c =
    let ks = c.self.inside.judgings.items in
    let r = in_range ks c.args.task (rw (c.self.view_is) c.requires) in
    test_room ks c.args.task c.index_mut-kept.result.now r c.index_mut-kept.ensures.value c.self.invariant.sized

pub invariant_of-self : goal.invariant_of-self
invariant_of-self c =
    let ks = c.self.inside.judgings.items in
    let task = c.args.task in
    let x = c.index_mut-kept.result.now in
    let e = c.index_mut-kept.ensures.value in
    let r = in_range ks task (rw (c.self.view_is) c.requires) in
    let y : KeptTasks = record { class = x.class; tests = x.tests; shown = c.remove.new.self } in
    let h : task.judging - 1 < length ks = omega (arith, r.numbered, r.known) in
    let some = c.is_empty.ensures.some (search rules) in
    record {
      few = omega (arith, c.self.invariant.few, length-set ks (task.judging - 1) y);
      sized = sized_set ks (task.judging - 1) y h c.self.invariant.sized (sized_removed x y (task.test - 1) (sized_at ks task x r e c.self.invariant.sized) refl (small ks task x r e) c.remove.ensures.removed);
      indexed = index_kept ks c.self.inside.classes (task.judging - 1) some.0 y h c.self.invariant.indexed (ap (λ (k : KeptTasks). k.class) (sym (read ks task x r e))) some.1 (removed_part ks task x c.remove.new.self (task.test - 1) r e c.remove.ensures.removed);
    }

pub remove-requires-2 : goal.remove-requires-2
remove-requires-2 c =
    let ks = c.self.inside.judgings.items in
    let r = in_range ks c.args.task (rw (c.self.view_is) c.requires) in
    place_room ks c.args.task c.self.inside.classes c.index_mut-kept.result.now.class r c.self.invariant.indexed

pub invariant_of-self-2 : goal.invariant_of-self-2
invariant_of-self-2 c =
    let ks = c.self.inside.judgings.items in
    let task = c.args.task in
    let x = c.index_mut-kept.result.now in
    let e = c.index_mut-kept.ensures.value in
    let r = in_range ks task (rw (c.self.view_is) c.requires) in
    let y : KeptTasks = record { class = x.class; tests = x.tests; shown = c.remove.new.self } in
    let h : task.judging - 1 < length ks = omega (arith, r.numbered, r.known) in
    record {
      few = omega (arith, c.self.invariant.few, length-set ks (task.judging - 1) y);
      sized = sized_set ks (task.judging - 1) y h c.self.invariant.sized (sized_removed x y (task.test - 1) (sized_at ks task x r e c.self.invariant.sized) refl (small ks task x r e) c.remove.ensures.removed);
      indexed = index_hidden ks c.self.inside.classes c.remove-2.new.self (task.judging - 1) y h c.self.invariant.indexed (ap (λ (k : KeptTasks). k.class) (sym (read ks task x r e)))
          (c.is_empty.ensures.empty (search rules)) c.remove-2.ensures.removed c.remove-2.ensures.top_words c.remove-2.ensures.others;
    }

pub returns-then-not-is_empty : goal.returns-then-not-is_empty
returns-then-not-is_empty c =
    let ks = c.self.inside.judgings.items in
    let task = c.args.task in
    let x = c.index_mut-kept.result.now in
    let e = c.index_mut-kept.ensures.value in
    let r = in_range ks task (rw (c.self.view_is) c.requires) in
    value_changed ks task x c.remove.new.self false r e (shown_removed x.shown c.remove.new.self x.tests (task.test - 1) (small ks task x r e) c.remove.ensures.removed)
    ∙ ap (λ (v : List JudgingTasks). with_shown v task false) c.self.view_is

pub returns : goal.returns
returns c =
    let ks = c.self.inside.judgings.items in
    let task = c.args.task in
    let x = c.index_mut-kept.result.now in
    let e = c.index_mut-kept.ensures.value in
    let r = in_range ks task (rw (c.self.view_is) c.requires) in
    value_changed ks task x c.remove.new.self false r e (shown_removed x.shown c.remove.new.self x.tests (task.test - 1) (small ks task x r e) c.remove.ensures.removed)
    ∙ ap (λ (v : List JudgingTasks). with_shown v task false) c.self.view_is
