use Rattle.std.proofs.Common.{◌∙◌, List, ℕ, None, refl, sym, ap, subst, arith, length, drop}
use Rattle.std.proofs.lemmas.Grind.{common_steps}
use Rattle.std.proofs.lemmas.List.{length-append}
use Rattle.farm_io.specs.Lines.{HasFeed}
use Rattle.http_door.specs.WindowValue.{WindowValue}
use Rattle.http_door.specs.Answers.{HoldsHead}
use Rattle.http_door.specs.AnswerFinding.{IsLooked}
use Rattle.http_door.proofs.AnswerFindings.{looked_ok}
use Rattle.http_door.proofs.AnswerHolding.{lacks_more}
use Rattle.http_door.proofs.AnswerCauses.{looked_cause, last_cause}
use Rattle.http_door.proofs.Windows.{Fills-trans}
use Rattle.http_door.proofs.answers.finding.seek.Goals as goal

pub returns-in-Some-clause-fills : goal.returns-in-Some-clause-fills
returns-in-Some-clause-fills g c = grind (arith, common_steps)

pub returns-in-Some-clause-cause : goal.returns-in-Some-clause-cause
returns-in-Some-clause-cause g c =
    last_cause _ _ _ c.fill.new.self.ahead _ c.in-Some.stop _ c.ahead.ensures (subst (λ (w : WindowValue). ¬ HoldsHead w.ahead) (sym (c.in-Some.ensures.kept refl)) c.loop-stop.invariant.lacking)
    c.loop-stop.invariant.same c.in-Some.ensures.cause c.look_last.ensures

pub glance-requires : goal.glance-requires
glance-requires g c = grind (arith, common_steps)

pub returns-in-Some-glance-clause-fills : goal.returns-in-Some-glance-clause-fills
returns-in-Some-glance-clause-fills g c = grind (arith, common_steps)

pub returns-in-Some-glance-clause-few : goal.returns-in-Some-glance-clause-few
returns-in-Some-glance-clause-few g c = grind (arith, common_steps)

pub returns-in-Some-glance-clause-cause : goal.returns-in-Some-glance-clause-cause
returns-in-Some-glance-clause-cause g c =
    looked_cause _ _ _ c.in-Some-glance.found (c.in_default.ensures.cause.kept (λ e. cc) ∙ c.loop-stop.invariant.same) (c.in-Some-glance.ensures.some refl)

pub loop-stop-preserved : goal.loop-stop-preserved
loop-stop-preserved g c =
    let i = c.loop-stop.invariant in
    record {
      fills = Fills-trans _ _ _ _ _ _ i.fills c.fill.ensures.fills;
      size = c.fill.ensures.size ∙ i.size;
      few = omega (arith, c.fill.ensures.fills.count, ap length c.fill.ensures.fills.whole, length-append c.loop-stop.window.ahead c.fill.ensures.fills.prefix, i.few);
      room = omega (arith, c.fill.ensures.size, i.room);
      short = omega (arith, c.in_default-glance.ensures.none refl, ap length c.ahead-in-loop-stop.ensures);
      lacking =
          lacks_more c.loop-stop.window.ahead c.fill.ensures.fills.prefix c.fill.new.self.ahead c.fill.ensures.fills.whole i.lacking
          (λ f.
          subst (λ (z : List ℕ). IsLooked z None) c.ahead-in-loop-stop.ensures
          (c.in_default-glance.ensures.fed
          (subst (λ (z : List ℕ). HasFeed (drop (length z) c.ahead-in-loop-stop.result.now)) (sym c.ahead-seen.ensures)
          (subst (λ (z : List ℕ). HasFeed (drop (length c.loop-stop.window.ahead) z)) (sym c.ahead-in-loop-stop.ensures) f))));
      same = c.in_default.ensures.cause.kept (λ e. cc) ∙ i.same;
      beside = c.fill.ensures.beside ∙ i.beside;
    }

pub returns-in-Some-glance-clause-ok : goal.returns-in-Some-glance-clause-ok
returns-in-Some-glance-clause-ok g c = looked_ok c.fill.new.self.ahead _ _ c.ahead-in-loop-stop.ensures (c.in-Some-glance.ensures.some refl)
