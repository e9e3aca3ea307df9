use Rattle.std.proofs.Common.{◌≡◌, ◌≤◌, ◌-◌, ◌<◌, arith, rules, refl, sym, ap, ◌∙◌, subst, length, List, length-set}
use Rattle.std.proofs.lemmas.List.{get_or_read}
use Rattle.task_tree.specs.Bits.{bit}
use Rattle.task_tree.specs.Shown.{JudgingTasks, with_hidden_behind}
use Rattle.task_tree.specs.TreeLayout.{no_tasks, kept_at, IsSized}
use Rattle.task_tree.specs.declared.tree.KeptTasks.{KeptTasks}
use Rattle.task_tree.proofs.ShownTests.{sized_cut, cut_part}
use Rattle.task_tree.proofs.Indexing.{sized_set, index_hidden, index_kept}
use Rattle.task_tree.proofs.Updates.{value_cut, known_value}
use Rattle.task_tree.proofs.tree.TaskTree.hide_behind.Goals as goal

pub invariant_of-self : goal.invariant_of-self
invariant_of-self c =
    let ks = c.self.inside.judgings.items in
    let x = c.index_mut-kept.result.now in
    let y : KeptTasks = record { class = x.class; tests = x.tests; shown = c.cut.new.self } in
    let k : c.args.judging ≤ length ks = known_value ks c.args.self.now c.args.judging c.self.view_is c.requires.known in
    let h : c.args.judging - 1 < length ks = omega (arith, c.requires.numbered, k) in
    let r : x ≡ kept_at ks (c.args.judging - 1) = get_or_read ks (c.args.judging - 1) x h c.index_mut-kept.ensures.value no_tasks in
    let s : IsSized x = subst IsSized (sym r) (c.self.invariant.sized.each (c.args.judging - 1) h) in
    let some = c.is_empty.ensures.some (search rules) in
    record {
      few = omega (arith, c.self.invariant.few, length-set ks (c.args.judging - 1) y);
      sized = sized_set ks (c.args.judging - 1) y h c.self.invariant.sized (sized_cut x y c.args.last s refl c.cut.ensures);
      indexed = index_kept ks c.self.inside.classes (c.args.judging - 1) some.0 y h c.self.invariant.indexed (ap (λ (k : KeptTasks). k.class) (sym r)) some.1
          (λ i b. subst (λ (z : KeptTasks). bit z.shown i ≡ 1) r (cut_part x.shown c.cut.new.self c.args.last c.cut.ensures i b));
    }

pub remove-requires : goal.remove-requires
remove-requires c =
    let ks = c.self.inside.judgings.items in
    let k : c.args.judging ≤ length ks = known_value ks c.args.self.now c.args.judging c.self.view_is c.requires.known in
    omega (arith, c.requires.numbered, k, c.self.invariant.indexed.room c.index_mut-kept.result.now.class)

pub invariant_of-self-2 : goal.invariant_of-self-2
invariant_of-self-2 c =
    let ks = c.self.inside.judgings.items in
    let x = c.index_mut-kept.result.now in
    let y : KeptTasks = record { class = x.class; tests = x.tests; shown = c.cut.new.self } in
    let k : c.args.judging ≤ length ks = known_value ks c.args.self.now c.args.judging c.self.view_is c.requires.known in
    let h : c.args.judging - 1 < length ks = omega (arith, c.requires.numbered, k) in
    let r : x ≡ kept_at ks (c.args.judging - 1) = get_or_read ks (c.args.judging - 1) x h c.index_mut-kept.ensures.value no_tasks in
    let s : IsSized x = subst IsSized (sym r) (c.self.invariant.sized.each (c.args.judging - 1) h) in
    record {
      few = omega (arith, c.self.invariant.few, length-set ks (c.args.judging - 1) y);
      sized = sized_set ks (c.args.judging - 1) y h c.self.invariant.sized (sized_cut x y c.args.last s refl c.cut.ensures);
      indexed = index_hidden ks c.self.inside.classes c.remove.new.self (c.args.judging - 1) y h c.self.invariant.indexed (ap (λ (k : KeptTasks). k.class) (sym r))
          (c.is_empty.ensures.empty (search rules)) c.remove.ensures.removed c.remove.ensures.top_words c.remove.ensures.others;
    }

pub returns-then-not-is_empty : goal.returns-then-not-is_empty
returns-then-not-is_empty c =
    let ks = c.self.inside.judgings.items in
    let x = c.index_mut-kept.result.now in
    let k : c.args.judging ≤ length ks = known_value ks c.args.self.now c.args.judging c.self.view_is c.requires.known in
    value_cut ks c.args.judging c.args.last x c.cut.new.self c.requires.numbered k c.index_mut-kept.ensures.value c.cut.ensures
    ∙ ap (λ (v : List JudgingTasks). with_hidden_behind v c.args.judging c.args.last) c.self.view_is

pub returns : goal.returns
returns c =
    let ks = c.self.inside.judgings.items in
    let x = c.index_mut-kept.result.now in
    let k : c.args.judging ≤ length ks = known_value ks c.args.self.now c.args.judging c.self.view_is c.requires.known in
    value_cut ks c.args.judging c.args.last x c.cut.new.self c.requires.numbered k c.index_mut-kept.ensures.value c.cut.ensures
    ∙ ap (λ (v : List JudgingTasks). with_hidden_behind v c.args.judging c.args.last) c.self.view_is
