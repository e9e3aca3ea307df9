use Rattle.std.proofs.Common.{◌≡◌, ℕ, List, ◌++◌, sym, ◌∙◌, ap}
use Rattle.std.specs.Str.{bytes_eq}
use Rattle.farm_model.specs.Texts.{event_text}
use Rattle.farm_journal.proofs.Played.{not_other, same_text, played}
use Rattle.farm_journal.proofs.opening.replay_event.Goals as goal

pub returns : goal.returns
returns g c =
    let e = c.args.event.now in
    let written : c.push_event.new.out.items ≡ event_text e = c.in_ok-push_event.ensures.ok ∙ ap (λ (l : List ℕ). l ++ event_text e) c.clear.ensures.items in
    let same : c.push_event.new.out.items ≡ c.args.line.now = sym c.as_slice.ensures.value ∙ same_text c.as_slice.result.now c.args.line.now (not_other (bytes_eq c.as_slice.result.now c.args.line.now) c.if-ne.ensures) in
    let both = played (g.P.Player.state c.args.farm.now) e c.args.line.now c.push_event.new.out.items (g.P.Player.state c.step-reply.new.self) c.step-reply.result c.is_kept.result written same c.step-reply.ensures c.in_default.not-NoMemory c.is_kept.ensures in
    record { stored = both.0; other = both.1 }
