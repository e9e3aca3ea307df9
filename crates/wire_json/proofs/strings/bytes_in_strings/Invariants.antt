use Rattle.std.proofs.Common.{◌≡◌, ◌≤◌, ◌+◌, drop}
use Rattle.wire_json.specs.Strings.{bytes_in_strings}
use Rattle.wire_json.specs.declared.strings.Position.TheVariants.{Outside}
use Rattle.wire_json.proofs.strings.bytes_in_strings.Given as goal

abbrev pub invariant-loop-b : goal.invariant-loop-b
invariant-loop-b l = (bytes_in_strings Outside l.fn.bytes ≡ l.count + bytes_in_strings l.position (drop l.b-index l.fn.bytes)) × (l.count ≤ l.b-index)
