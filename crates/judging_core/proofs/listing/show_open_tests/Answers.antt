use Rattle.std.proofs.Common.{ℕ, ◌∙◌, refl, arith, subst}
use Rattle.judging_core.specs.JudgeShape.{judging_values}
use Rattle.judging_core.specs.Listed.{AreOpenShown}
use Rattle.judging_core.proofs.Listed.{none_open_shown, open_shown_more, wide_kept}
use Rattle.judging_core.proofs.listing.show_open_tests.Goals as goal

pub loop-i-init : goal.loop-i-init
loop-i-init c = record {
  shown = λ rule ruled wide. none_open_shown rule (judging_values c.args.judgings.now) c.args.leases.now.leases c.args.judging c.args.tasks.now c.requires.hidden;
  widths = refl;
}

pub loop-i-preserved : goal.loop-i-preserved
loop-i-preserved c = record {
  shown = λ rule ruled wide.
      let js = judging_values c.args.judgings.now in
      open_shown_more rule js c.args.leases.now.leases c.args.judging c.loop-i.i c.args.tasks.now c.loop-i.tasks c.show_open.new.tasks (c.loop-i.invariant.shown rule ruled wide)
      (c.show_open.ensures.shown rule ruled (wide_kept js c.args.tasks.now c.loop-i.tasks c.loop-i.invariant.widths wide));
  widths = c.show_open.ensures.widths ∙ c.loop-i.invariant.widths;
}

pub returns-clause-shown : goal.returns-clause-shown
returns-clause-shown c = λ rule ruled wide.
    subst (λ (n : ℕ). AreOpenShown rule (judging_values c.args.judgings.now) c.args.leases.now.leases c.args.judging n c.args.tasks.now c.loop-i.tasks)
    (let low = c.loop-i-test.false in let high = c.loop-i.auto.i-end in omega (arith, low, high)) (c.loop-i.invariant.shown rule ruled wide)
