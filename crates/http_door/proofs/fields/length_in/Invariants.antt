use Rattle.std.proofs.Common.{◌≡◌, map, drop}
use Rattle.httparse.specs.Spans.{header_bytes}
use Rattle.http_door.specs.Fields.{content_length, values_of, length_said}
use Rattle.http_door.proofs.FieldLemmas.{length_in}
use Rattle.http_door.proofs.fields.length_in.Given as goal

abbrev pub invariant-loop-field : goal.invariant-loop-field
invariant-loop-field l =
    length_in l.said (map (header_bytes l.buf) (drop l.field-index l.fields))
    ≡ length_said (values_of content_length (map (header_bytes l.buf) l.fields))
