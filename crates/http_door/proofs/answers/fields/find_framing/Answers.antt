use Rattle.std.proofs.Common.{◌≡◌, map, sym, ◌∙◌}
use Rattle.httparse.specs.Spans.{header_bytes}
use Rattle.http_door.specs.Fields.{is_word, transfer_encoding, has_field}
use Rattle.http_door.proofs.FieldLemmas.{list_any-map}
use Rattle.http_door.proofs.answers.fields.find_framing.Goals as goal

pub returns : goal.returns
returns c =
    let coded : c.is_coded-coded.result ≡ has_field transfer_encoding (map (header_bytes c.args.buf.now) c.args.fields.now) =
    c.is_coded-coded.ensures ∙ sym (list_any-map (λ f. is_word transfer_encoding f.0) (header_bytes c.args.buf.now) c.args.fields.now) in
    rw (coded, c.length_in-said.ensures) at c.framing_for.ensures
