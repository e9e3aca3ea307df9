use Rattle.std.proofs.Common.{refl, arith}
use Rattle.farm_model.specs.Judgings.{mark_handed}
use Rattle.judging_core.specs.JudgeShape.{judging_value}
use Rattle.judging_core.proofs.Changed.{changed}
use Rattle.judging_core.proofs.judgings.mark_handed.Goals as goal

pub returns-clause-value : goal.returns-clause-value
returns-clause-value c =
    let kept = c.index_mut-kept.result.now in
    changed judging_value c.args.judgings.now.items c.args.task.judging kept (record kept { handed = c.mark.new.self }) (mark_handed c.args.task.test)
    (omega (arith, c.requires.numbered)) c.requires.known c.index_mut-kept.ensures.value (rw c.mark.ensures refl)
