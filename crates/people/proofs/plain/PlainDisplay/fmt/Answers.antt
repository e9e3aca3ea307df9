use Rattle.std.proofs.Common.{[], ◌∷◌, ◌++◌, flat_map, map-id, append-nil, sym, ap, ◌∙◌, rules}
use Rattle.std.proofs.lemmas.Grind.{flat_map-append}
use Rattle.std.proofs.lemmas.Iterator.{YieldsList-from_chars}
use Rattle.std.proofs.lemmas.Iterator.Consumers.{YieldsList-end}
use Rattle.std.proofs.Output.{has_written_append, has_written_of_eq, writes_in_calls_nil}
use Rattle.std.specs.Char.{encode_utf8}
use Rattle.std.specs.Str.{chars}
use Rattle.people.specs.Plain.{shown_bytes}
use Rattle.people.proofs.plain.PlainDisplay.fmt.Goals as goal

pub loop-c-init : goal.loop-c-init
loop-c-init g c = λ plain. record { wrote = writes_in_calls_nil _ _; plain = plain }

pub loop-c-preserved : goal.loop-c-preserved
loop-c-preserved g c = λ plain.
    let done = flat_map shown_bytes c.loop-c.yielded in
    let more = flat_map-append shown_bytes c.loop-c.yielded (c.in-Some.c ∷ []) ∙ ap (λ l. done ++ l) (append-nil (shown_bytes c.in-Some.c)) in
    has_written_of_eq _ _ _ _ _ (ap (λ x. done ++ encode_utf8 x) c.shown.ensures ∙ sym more)
    (has_written_append _ _ _ _ _ _ (c.loop-c.invariant plain) (search rules))

pub returns-clause-writes : goal.returns-clause-writes
returns-clause-writes g c = λ plain ok.
    let end = YieldsList-end (YieldsList-from_chars c.text.result.now c.text.utf8 cc) c.loop-c.yielded _ c.loop-c.yielded_by _ _ c.in-None.is c.next.ensures.steps in
    has_written_of_eq _ _ _ _ _ (ap (flat_map shown_bytes) (sym (map-id c.loop-c.yielded) ∙ end.0 ∙ ap chars c.text.ensures)) (c.loop-c.invariant plain)
