use Rattle.std.proofs.Common.{List, ℕ, Option, None, arith, ap, sym}
use Rattle.std.proofs.lemmas.Grind.{common_steps}
use Rattle.std.proofs.lemmas.Str.Pattern.{split_parts}
use Rattle.clap.proofs.LexerLemmas.{name_and_value-without}
use Rattle.command_line.proofs.checks.value_behind_sign.Goals as goal

pub returns-in-None : goal.returns-in-None
returns-in-None c =
    let lacks = split_parts 61 c.args.option.now None c.in-None.ensures.cases (omega arith) in
    sym (ap (λ (parts : List ℕ × Option (List ℕ)). parts.1) (name_and_value-without c.args.option.now lacks))

pub returns-in-Some : goal.returns-in-Some
returns-in-Some c = grind (arith, common_steps)
