use Rattle.std.proofs.Common.{sym, ap, ◌∙◌}
use Rattle.wire_job.specs.Units.{begins_plain}
use Rattle.wire_job.proofs.Parsing.{units_are}
use Rattle.wire_job.proofs.units.units_of.Goals as goal

pub returns-then-begins_plain : goal.returns-then-begins_plain
returns-then-begins_plain c =
    c.ok.ensures.value
    ∙ units_are c.args.text.now c.parse.result (ap begins_plain (sym c.as_bytes.ensures.value) ∙ sym c.begins_plain.ensures ∙ c.if-begins_plain.true) c.parse.ensures.value.0
