use Rattle.std.proofs.Common.{◌≡◌, ◌++◌, drop, option_map}
use Rattle.serde_json.specs.View.{items_view}
use Rattle.wire_json.specs.Fields.{each_number}
use Rattle.wire_json.proofs.fields.each_number.Given as goal

abbrev pub invariant-loop-value : goal.invariant-loop-value
invariant-loop-value l = each_number (items_view l.fn.values) ≡ option_map (λ ns. l.numbers ++ ns) (each_number (items_view (drop l.value-index l.fn.values)))
