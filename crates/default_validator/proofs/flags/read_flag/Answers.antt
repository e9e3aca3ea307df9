use Rattle.std.proofs.Common.{rules, ◌≡◌, ◌+◌, ◌∷◌, ◌∙◌, ap, sym, arith}
use Rattle.std.specs.Str.{bytes_eq}
use Rattle.std.proofs.lemmas.Int.{to_z-of_z}
use Rattle.default_validator.proofs.FlagSteps.{case_step, space_step, value_step}
use Rattle.default_validator.specs.Pieces.{tokens}
use Rattle.default_validator.specs.Flags.{flags_from, with_amount}
use Rattle.default_validator.proofs.flags.read_flag.Goals as goal

pub returns-then-eq-clause-value : goal.returns-then-eq-clause-value
returns-then-eq-clause-value c =
    case_step c.args.flags c.args.number c.args.word.now (tokens c.args.rest.now) (sym (c.if-eq.ensures ∙ ap (bytes_eq c.args.word.now) c.as_slice.ensures))

pub returns-then-eq-2-clause-value : goal.returns-then-eq-2-clause-value
returns-then-eq-2-clause-value c =
    space_step c.args.flags c.args.number c.args.word.now (tokens c.args.rest.now)
    (sym (c.if-eq.ensures ∙ ap (bytes_eq c.args.word.now) c.as_slice.ensures))
    (sym (c.if-eq-2.ensures ∙ ap (bytes_eq c.args.word.now) c.as_slice-2.ensures))

pub returns-clause-value : goal.returns-clause-value
returns-clause-value c =
    let result : c.with_amount-flags.result ≡ with_amount c.args.flags c.in-Some.part c.in-Ok.amount = grind (arith, to_z-of_z, c.with_amount-flags.ensures) in
    ap (λ words. flags_from c.args.flags c.args.number (c.args.word.now ∷ words)) c.in-Some-next_token.ensures.some
    ∙ value_step c.args.flags c.args.number c.args.word.now c.in-Some-next_token.value.now (tokens c.in-Some-next_token.rest.now) c.in-Some.part c.in-Ok.amount
    (sym (c.if-eq.ensures ∙ ap (bytes_eq c.args.word.now) c.as_slice.ensures))
    (sym (c.if-eq-2.ensures ∙ ap (bytes_eq c.args.word.now) c.as_slice-2.ensures))
    (sym c.in-Some.ensures) c.in-Ok.ensures.amount
    ∙ ap (λ f. flags_from f (c.args.number + 2) (tokens c.in-Some-next_token.rest.now)) (sym result)

pub returns-in_default-read_amount-clause-value : goal.returns-in_default-read_amount-clause-value
returns-in_default-read_amount-clause-value c = search rules
