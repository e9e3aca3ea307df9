use Rattle.std.proofs.Common.{◌≡◌, eqb, false, sym, ◌∙◌, arith}
use Rattle.std.specs.Prelude.{◌&&◌}
use Rattle.std.proofs.lemmas.Bool.Decides.{nat_tests}
use Rattle.httparse.specs.Spans.{header_bytes}
use Rattle.http_door.specs.Fields.{is_word, connection, close}
use Rattle.http_door.proofs.FieldLemmas.{list_any-map}
use Rattle.http_door.proofs.fields.closes.Goals as goal

pub returns-else-minor-eq0 : goal.returns-else-minor-eq0
returns-else-minor-eq0 c =
    let not : eqb c.args.minor 0 ≡ false = grind (arith, nat_tests, c.if-minor-eq0.false) in
    rw not (c.has_close-says.ensures ∙ sym (list_any-map (λ f. is_word connection f.0 && is_word close f.1) (header_bytes c.args.buf.now) c.args.fields.now))
