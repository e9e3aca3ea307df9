use Rattle.std.proofs.Common.{◌∙◌, refl, ap, arith, length}
use Rattle.http_door.specs.WindowValue.{WindowValue}
use Rattle.http_door.proofs.Windows.{Fills-refl, Fills-trans}
use Rattle.http_door.proofs.Findings.{rose_from}
use Rattle.http_door.proofs.finding.wait_for.Goals as goal

pub loop-need-init : goal.loop-need-init
loop-need-init g c = record { fills = Fills-refl _ _; size = refl; few = c.requires.few; same = refl; beside = refl }

pub returns-in-Some-clause-fills : goal.returns-in-Some-clause-fills
returns-in-Some-clause-fills g c = Fills-trans _ _ _ _ _ _ c.loop-need.invariant.fills c.fill.ensures.fills

pub returns-in-Some-clause-short : goal.returns-in-Some-clause-short
returns-in-Some-clause-short g c =
    λ _. omega (arith, ap (λ (w : WindowValue). length w.ahead) (c.in-Some.ensures.kept refl), c.if-ahead-need.false, ap length c.ahead.ensures)

pub returns-in-Some-clause-cause : goal.returns-in-Some-clause-cause
returns-in-Some-clause-cause g c =
    let same = c.loop-need.invariant.same in
    let cause = c.in-Some.ensures.cause in
    let later = cause.later in
    record { later = omega (arith, same, later); failed = λ e. rose_from _ _ _ (omega (arith, same)) (cause.failed e); kept = λ other. cause.kept other ∙ same }

pub loop-need-preserved : goal.loop-need-preserved
loop-need-preserved g c =
    let i = c.loop-need.invariant in
    record {
      fills = Fills-trans _ _ _ _ _ _ i.fills c.fill.ensures.fills;
      size = c.fill.ensures.size ∙ i.size;
      few = c.fill.ensures.few;
      same = c.in_default.ensures.cause.kept (λ e. cc) ∙ i.same;
      beside = c.fill.ensures.beside ∙ i.beside;
    }
