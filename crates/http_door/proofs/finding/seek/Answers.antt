use Rattle.std.proofs.Common.{◌∙◌, ◌<◌, List, ℕ, None, refl, sym, ap, subst, arith, length, drop}
use Rattle.std.proofs.lemmas.Grind.{common_steps}
use Rattle.farm_io.specs.Lines.{HasFeed}
use Rattle.http_door.specs.Heads.{head_limit}
use Rattle.http_door.specs.WindowValue.{WindowValue}
use Rattle.http_door.specs.Requests.{HoldsHead}
use Rattle.http_door.specs.Finding.{IsLooked}
use Rattle.http_door.proofs.Causes.{looked_cause, last_cause}
use Rattle.http_door.proofs.Holding.{lacks_more}
use Rattle.http_door.proofs.Windows.{Fills-refl, Fills-trans}
use Rattle.http_door.proofs.Findings.{last_ok, last_err, looked_ok, looked_err}
use Rattle.http_door.proofs.finding.seek.Goals as goal

pub loop-stop-init : goal.loop-stop-init
loop-stop-init g c =
    record {
      fills = Fills-refl _ _;
      size = refl;
      few = c.requires.few;
      room = c.requires.room;
      short = c.requires.short;
      lacking = c.requires.lacking;
      same = refl;
      beside = refl;
    }

pub returns-in-Some-clause-fills : goal.returns-in-Some-clause-fills
returns-in-Some-clause-fills g c = Fills-trans _ _ _ _ _ _ c.loop-stop.invariant.fills c.ask.ensures.fills

pub returns-in-Some-clause-ok : goal.returns-in-Some-clause-ok
returns-in-Some-clause-ok g c = last_ok c.ask.new.window _ _ _ c.ahead.ensures c.look_last.ensures

pub returns-in-Some-clause-err : goal.returns-in-Some-clause-err
returns-in-Some-clause-err g c =
    last_err _ c.ask.new.window _ c.in-Some.stop _ c.ahead.ensures c.look_last.ensures c.in-Some.ensures.end c.in-Some.ensures.limit

pub returns-in-Some-glance-clause-fills : goal.returns-in-Some-glance-clause-fills
returns-in-Some-glance-clause-fills g c = Fills-trans _ _ _ _ _ _ c.loop-stop.invariant.fills c.ask.ensures.fills

pub returns-in-Some-glance-clause-ok : goal.returns-in-Some-glance-clause-ok
returns-in-Some-glance-clause-ok g c = looked_ok c.ask.new.window _ _ c.ahead-in-loop-stop.ensures (c.in-Some-glance.ensures.some refl)

pub returns-in-Some-glance-clause-err : goal.returns-in-Some-glance-clause-err
returns-in-Some-glance-clause-err g c = looked_err _ c.ask.new.window _ _ c.ahead-in-loop-stop.ensures (c.in-Some-glance.ensures.some refl)

pub loop-stop-preserved : goal.loop-stop-preserved
loop-stop-preserved g c =
    let i = c.loop-stop.invariant in
    record {
      fills = Fills-trans _ _ _ _ _ _ i.fills c.ask.ensures.fills;
      size = c.ask.ensures.size ∙ i.size;
      few = c.ask.ensures.few;
      room = omega (arith, c.ask.ensures.size, i.room);
      short = omega (arith, c.in_default-glance.ensures.none refl, ap length c.ahead-in-loop-stop.ensures);
      lacking =
          lacks_more c.loop-stop.window.ahead c.ask.ensures.fills.prefix c.ask.new.window.ahead c.ask.ensures.fills.whole i.lacking
          (λ f.
          subst (λ (z : List ℕ). IsLooked z None) c.ahead-in-loop-stop.ensures
          (c.in_default-glance.ensures.fed
          (subst (λ (z : List ℕ). HasFeed (drop (length z) c.ahead-in-loop-stop.result.now)) (sym c.ahead-seen.ensures)
          (subst (λ (z : List ℕ). HasFeed (drop (length c.loop-stop.window.ahead) z)) (sym c.ahead-in-loop-stop.ensures) f))));
      same = c.in_default.ensures.cause.kept (λ e. cc) ∙ i.same;
      beside = c.ask.ensures.beside ∙ i.beside;
    }

pub returns-in-Some-clause-cause : goal.returns-in-Some-clause-cause
returns-in-Some-clause-cause g c =
    let i = c.loop-stop.invariant in
    let kept = c.in-Some.ensures.kept refl in
    last_cause _ _ _ c.ask.new.window.ahead _ c.in-Some.stop _ c.ahead.ensures (subst (λ (w : WindowValue). ¬ HoldsHead w.ahead) (sym kept) i.lacking) (subst (λ (w : WindowValue). length w.ahead < head_limit) (sym kept) i.short)
    i.same c.in-Some.ensures.cause c.look_last.ensures

pub returns-in-Some-glance-clause-cause : goal.returns-in-Some-glance-clause-cause
returns-in-Some-glance-clause-cause g c =
    looked_cause _ _ _ c.in-Some-glance.found (c.in_default.ensures.cause.kept (λ e. cc) ∙ c.loop-stop.invariant.same) (c.in-Some-glance.ensures.some refl)

pub glance-requires : goal.glance-requires
glance-requires g c = grind (arith, common_steps)
