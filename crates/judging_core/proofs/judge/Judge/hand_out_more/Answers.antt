use Rattle.std.proofs.Common.{ℕ, ◌≡◌, ◌+◌, ◌-◌, ◌∙◌, ◌++◌, ◌∷◌, [], List, Some, suc, sym, ap, subst, arith, slice_get}
use Rattle.farm_model.specs.Judge.{JudgeState, hand_out, open_of}
use Rattle.judging_core.specs.JudgeValue.{JudgeValue, in_state}
use Rattle.judging_core.proofs.Batches.{IsPartOfBatch, batch_goes_on}
use Rattle.judging_core.proofs.judge.Judge.hand_out_more.Goals as goal

pub loop-preserved : goal.loop-preserved
loop-preserved g c =
    let old : JudgeState = c.args.self.now.state in
    let s : JudgeState = c.loop.self.state in
    let task = c.in-Some.task in
    let left : c.args.more - c.loop.counter ≡ suc (c.args.more - (c.loop.counter + 1)) = let under = c.loop-test.true in omega (arith, under) in
    let new : c.hand_out.new.self ≡ in_state c.loop.self (hand_out s c.args.host task) = c.hand_out.ensures.state in
    let state : c.hand_out.new.self.state ≡ hand_out s c.args.host task = ap (λ (v : JudgeValue). v.state) new in
    let next : Some task ≡ slice_get (open_of s c.args.judging) 0 = sym c.in-Some.is ∙ c.next_open.ensures.next in
    let before : IsPartOfBatch old c.args.tests.now c.args.host c.args.judging c.args.more s c.loop.tests (suc (c.args.more - (c.loop.counter + 1))) =
    subst (λ (n : ℕ). IsPartOfBatch old c.args.tests.now c.args.host c.args.judging c.args.more s c.loop.tests n) left c.loop.invariant.1 in
    let after : IsPartOfBatch old c.args.tests.now c.args.host c.args.judging c.args.more (hand_out s c.args.host task) (c.loop.tests ++ task.test ∷ []) (c.args.more - (c.loop.counter + 1)) =
    batch_goes_on old c.args.tests.now c.args.host c.args.judging c.args.more s c.loop.tests (c.args.more - (c.loop.counter + 1)) task before next in (
      new ∙ ap (λ (v : JudgeValue). in_state v (hand_out s c.args.host task)) c.loop.invariant.0 ∙ ap (in_state c.args.self.now) (sym state),
      subst (λ (v : JudgeState). IsPartOfBatch old c.args.tests.now c.args.host c.args.judging c.args.more v c.push.new.self (c.args.more - (c.loop.counter + 1))) (sym state)
          (subst (λ (ns : List ℕ). IsPartOfBatch old c.args.tests.now c.args.host c.args.judging c.args.more (hand_out s c.args.host task) ns (c.args.more - (c.loop.counter + 1))) (sym c.push.ensures) after),
      omega (arith, c.loop.invariant.2, c.next_open.ensures.cost),
    )
