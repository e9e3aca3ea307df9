use Rattle.std.proofs.Common.{◌+◌, ◌++◌, ◌∷◌, [], List, map, take, sym, ap, ◌∙◌, subst, arith, append_assoc}
use Rattle.std.proofs.lemmas.Grind.{common_steps}
use Rattle.farm_kinds.specs.declared.events.Event.{Event}
use Rattle.farm_kinds.specs.declared.events.Event.TheVariants as event
use Rattle.farm_model.specs.State.{SettingsValue}
use Rattle.farm_model.specs.Changes.{asked_named}
use Rattle.parallel_judge.specs.Entering.{ask_event, waiting}
use Rattle.parallel_judge.specs.Hosts.{HasEntered}
use Rattle.parallel_judge.specs.Table.{named_submission}
use Rattle.parallel_judge.proofs.Rosters.{ask_none, ask_one}
use Rattle.parallel_judge.proofs.entering.ask_for_waiting.Goals as goal

pub loop-i-preserved-then-is_asked_for : goal.loop-i-preserved-then-is_asked_for
loop-i-preserved-then-is_asked_for g c =
    let roster = c.args.roster.now in
    let modes = c.modes.ensures ∙ ap (λ (settings : SettingsValue). settings.modes) c.settings.ensures.settings in
    let same = ask_none roster.settings.modes roster.submissions c.loop-i.i c.submission-problem.result c.submission-problem.ensures (sym (c.is_asked_for.ensures ∙ ap (λ modes. asked_named modes c.submission-problem.result.problem) modes) ∙ c.if-is_asked_for.true) in
    let before_left = c.loop-i.invariant.left in
    record {
      entered = λ start before o h.
          subst (λ (es : List Event). HasEntered start (before ++ es) c.loop-i.pass) (sym same) (c.loop-i.invariant.entered start before o h);
      left = omega (arith, before_left);
      board = c.loop-i.invariant.board;
      spare = c.loop-i.invariant.spare;
    }

pub loop-i-preserved : goal.loop-i-preserved
loop-i-preserved g c =
    let roster = c.args.roster.now in
    let modes = c.modes.ensures ∙ ap (λ (settings : SettingsValue). settings.modes) c.settings.ensures.settings in
    let more = ask_one roster.settings.modes roster.submissions c.loop-i.i c.jury.result c.submission-problem.result c.jury.ensures c.submission-problem.ensures (sym (c.is_asked_for.ensures ∙ ap (λ modes. asked_named modes c.submission-problem.result.problem) modes) ∙ c.if-is_asked_for.false) in
    let one = c.enter.ensures.left in
    let before_left = c.loop-i.invariant.left in
    record {
      entered = λ start before o h.
          subst (λ (es : List Event). HasEntered start es c.enter.new.pass)
          (append_assoc before (map ask_event (waiting roster.settings.modes 1 (map named_submission (take c.loop-i.i roster.submissions)))) (event.Ask c.jury.result (c.loop-i.i + 1) ∷ [])
          ∙ ap (λ (es : List Event). before ++ es) (sym more))
          (c.in_ok-enter.ensures.entered start (before ++ map ask_event (waiting roster.settings.modes 1 (map named_submission (take c.loop-i.i roster.submissions)))) o (c.loop-i.invariant.entered start before o h));
      left = omega (arith, one, before_left);
      board = c.enter.ensures.board ∙ c.loop-i.invariant.board;
      spare = c.enter.ensures.spare ∙ c.loop-i.invariant.spare;
    }

pub returns-clause-entered : goal.returns-clause-entered
returns-clause-entered g c = grind (arith, common_steps)
