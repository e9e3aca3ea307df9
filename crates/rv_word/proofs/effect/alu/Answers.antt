use Rattle.std.proofs.Common.{rules}
use Rattle.rv_word.proofs.effect.alu.Goals as goal

pub returns-in-Divu : goal.returns-in-Divu
returns-in-Divu c = search rules

pub returns-in-Mulhsu : goal.returns-in-Mulhsu
returns-in-Mulhsu c = search rules
