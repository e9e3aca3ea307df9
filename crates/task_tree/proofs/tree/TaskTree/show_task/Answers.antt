use Rattle.std.proofs.Common.{arith, refl, sym, ap, ◌∙◌, ◌-◌, ◌<◌, length, List, length-set, true}
use Rattle.task_tree.specs.Shown.{JudgingTasks, with_shown}
use Rattle.task_tree.specs.declared.tree.KeptTasks.{KeptTasks}
use Rattle.task_tree.proofs.ShownTests.{in_range, shown_inserted, sized_inserted}
use Rattle.task_tree.proofs.Indexing.{sized_set, index_shown}
use Rattle.task_tree.proofs.Updates.{read, small, sized_at, test_room, place_room, value_changed}
use Rattle.task_tree.proofs.tree.TaskTree.show_task.Goals as goal

pub insert-requires : goal.insert-requires
insert-requires c =
    let ks = c.self.inside.judgings.items in
    let r = in_range ks c.args.task (rw (c.self.view_is) c.requires) in
    test_room ks c.args.task c.index_mut-kept.result.now r c.index_mut-kept.ensures.value c.self.invariant.sized

pub insert-requires-2 : goal.insert-requires-2
insert-requires-2 c =
    let ks = c.self.inside.judgings.items in
    let r = in_range ks c.args.task (rw (c.self.view_is) c.requires) in
    place_room ks c.args.task c.self.inside.classes c.index_mut-kept.result.now.class r c.self.invariant.indexed

pub invariant_of-self : goal.invariant_of-self
invariant_of-self c =
    let ks = c.self.inside.judgings.items in
    let task = c.args.task in
    let x = c.index_mut-kept.result.now in
    let e = c.index_mut-kept.ensures.value in
    let r = in_range ks task (rw (c.self.view_is) c.requires) in
    let y : KeptTasks = record { class = x.class; tests = x.tests; shown = c.insert.new.self } in
    let h : task.judging - 1 < length ks = omega (arith, r.numbered, r.known) in
    record {
      few = omega (arith, c.self.invariant.few, length-set ks (task.judging - 1) y);
      sized = sized_set ks (task.judging - 1) y h c.self.invariant.sized (sized_inserted x y (task.test - 1) (sized_at ks task x r e c.self.invariant.sized) refl (small ks task x r e) c.insert.ensures);
      indexed = index_shown ks c.self.inside.classes c.insert-2.new.self (task.judging - 1) (task.test - 1) y h c.self.invariant.indexed (ap (λ (k : KeptTasks). k.class) (sym (read ks task x r e)))
          c.insert.ensures.here c.insert-2.ensures.inserted c.insert-2.ensures.top_words c.insert-2.ensures.others;
    }

pub returns : goal.returns
returns c =
    let ks = c.self.inside.judgings.items in
    let task = c.args.task in
    let x = c.index_mut-kept.result.now in
    let e = c.index_mut-kept.ensures.value in
    let r = in_range ks task (rw (c.self.view_is) c.requires) in
    value_changed ks task x c.insert.new.self true r e (shown_inserted x.shown c.insert.new.self x.tests (task.test - 1) (small ks task x r e) c.insert.ensures)
    ∙ ap (λ (v : List JudgingTasks). with_shown v task true) c.self.view_is
