use Rattle.std.proofs.Common.{◌≡◌, Ok, Some, sym, ◌∙◌, ap}
use Rattle.farm_model.specs.Grammar.{line_read}
use Rattle.stored_events.proofs.ShortTexts.{text_short}
use Rattle.script_session.proofs.session.answer_line.Goals as goal

pub keep_answered-requires : goal.keep_answered-requires
keep_answered-requires g c =
    let event = c.in-Ok-Some.event in
    let read : line_read c.args.line.now ≡ Ok (Some event) = sym (c.read_line.ensures.read (λ h. cc)) ∙ c.in-Ok-Some.is ∙ ap Ok c.in-Ok-Some.field-0-is in
    record { short = text_short c.args.line.now event read c.requires.short; ready = c.requires.ready }
