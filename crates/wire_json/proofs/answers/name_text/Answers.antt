use Rattle.std.proofs.Common.{arith}
use Rattle.wire_json.proofs.NameTexts.{name_is_text}
use Rattle.wire_json.proofs.answers.name_text.Goals as goal

pub unreachable-requires : goal.unreachable-requires
unreachable-requires c = grind (arith, name_is_text)
