use Rattle.std.proofs.Common.{◌≡◌, ◌≢◌, true, false, sym, ◌∙◌}
use Rattle.farm_kinds.specs.declared.events.Reply.TheVariants as reply
use Rattle.parallel_judge.proofs.Opening.{enters_one}
use Rattle.parallel_judge.proofs.entering.enter.Goals as goal
use Rattle.parallel_judge.proofs.entering.enter.Goals.{in-NoMemory, in_default}

pub returns-clause-entered : goal.returns-clause-entered
returns-clause-entered g c start before o h =
    let some : c.step-reply.result ≢ reply.NoMemory = elim c.match-matches.branch [
      | in-NoMemory w ↦ absurd (let no : true ≡ false = sym w.matches-is ∙ c.if-matches.false in cc)
      | in_default w ↦ λ e. w.in_default.not-NoMemory e
    ] in
    enters_one start before c.args.pass.now c.step-reply.new.pass c.args.event.now c.step-reply.result o.out h c.step-reply.ensures.call some
