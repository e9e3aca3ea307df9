use Rattle.std.proofs.Common.{map}
use Rattle.httparse.specs.Spans.{header_bytes}
use Rattle.http_door.proofs.FieldLemmas.{length_in_said}
use Rattle.http_door.proofs.fields.length_in.Goals as goal

pub loop-field-init : goal.loop-field-init
loop-field-init c = length_in_said (map (header_bytes c.args.buf.now) c.args.fields.now)
