use Rattle.std.proofs.Common.{◌∙◌, ap, sym, arith}
use Rattle.std.specs.List.{position_from}
use Rattle.default_validator.specs.Pieces.{tokens}
use Rattle.default_validator.specs.Accepts.{is_wide_token}
use Rattle.default_validator.proofs.WideTokens.{starts, no_tolerance, found, found_none}
use Rattle.default_validator.proofs.walk.wide_token.Goals as goal

pub returns-then-not-has_tolerance : goal.returns-then-not-has_tolerance
returns-then-not-has_tolerance c = no_tolerance c.args.flags.now c.args.answer.now (sym c.if-not-has_tolerance.ensures)

pub loop-token-init : goal.loop-token-init
loop-token-init c = record { same = starts c.args.answer.now; count = omega arith }

pub returns-then-is_wide_token : goal.returns-then-is_wide_token
returns-then-is_wide_token c =
    found c.args.flags.now c.args.answer.now c.in-Some.token.now (tokens c.in-Some.after.now) c.loop-token.place (sym c.if-not-has_tolerance.ensures)
    (c.loop-token.invariant.same ∙ ap (position_from is_wide_token c.loop-token.place) c.in-Some.ensures.some)
    (sym c.if-is_wide_token.ensures)

pub returns : goal.returns
returns c =
    found_none c.args.flags.now c.args.answer.now (sym c.if-not-has_tolerance.ensures)
    (c.loop-token.invariant.same ∙ ap (position_from is_wide_token c.loop-token.place) c.in_default.ensures.none)
