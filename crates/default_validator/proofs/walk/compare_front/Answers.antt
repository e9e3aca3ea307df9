use Rattle.std.proofs.Common.{◌≡◌, ◌||◌, not, true, false, eqb, ◌∙◌, ap, sym, length}
use Rattle.std.specs.Str.{bytes_eq}
use Rattle.std.specs.List.{take_while}
use Rattle.std.proofs.lemmas.List.{take_rest}
use Rattle.default_validator.specs.Accepts.{agrees}
use Rattle.default_validator.specs.Pieces.{is_space}
use Rattle.default_validator.proofs.Fronts.{IsSameToken, same_token_is, after_gap, front_token, after_token, front_is, after_token_shorter}
use Rattle.default_validator.proofs.Steps.{counts, differs, stops_at_gap, answer_ends, output_ends, is_zero, is_some, same_goes_on, same_shorter, goes_on, stops_at_token}
use Rattle.default_validator.proofs.walk.compare_front.Goals as goal

pub returns-then-not-gap_agrees : goal.returns-then-not-gap_agrees
returns-then-not-gap_agrees c =
    let gap : (not c.args.flags.now.space || bytes_eq (take_while is_space c.args.answer.now) (take_while is_space c.args.output.now)) ≡ false =
    rw (c.cut_gap.ensures.gap, c.cut_gap-2.ensures.gap) at (sym c.if-not-gap_agrees.ensures) in
    stops_at_gap c.args.flags.now c.args.answer.now c.args.output.now (counts c.args.flags.now.space _ gap) (differs c.args.flags.now.space _ gap)

pub returns-then-is_empty : goal.returns-then-is_empty
returns-then-is_empty c =
    let gap : (not c.args.flags.now.space || bytes_eq (take_while is_space c.args.answer.now) (take_while is_space c.args.output.now)) ≡ true =
    rw (c.cut_gap.ensures.gap, c.cut_gap-2.ensures.gap) at (sym c.if-not-gap_agrees.ensures) in
    let none : eqb (length (after_gap c.args.answer.now)) 0 ≡ true = rw c.cut_gap.ensures.rest at (sym c.if-is_empty.ensures) in
    answer_ends c.args.flags.now c.args.answer.now c.args.output.now gap (is_zero (length (after_gap c.args.answer.now)) none)
    ∙ ap (λ text. eqb (length text) 0) (sym c.cut_gap-2.ensures.rest) ∙ sym c.is_empty-then-is_empty.ensures

pub returns-then-is_empty-2 : goal.returns-then-is_empty-2
returns-then-is_empty-2 c =
    let some : eqb (length (after_gap c.args.answer.now)) 0 ≡ false = rw c.cut_gap.ensures.rest at (sym c.if-is_empty.ensures) in
    let none : eqb (length (after_gap c.args.output.now)) 0 ≡ true = rw c.cut_gap-2.ensures.rest at (sym c.if-is_empty-2.ensures) in
    output_ends c.args.flags.now c.args.answer.now c.args.output.now (is_some (length (after_gap c.args.answer.now)) some) (is_zero (length (after_gap c.args.output.now)) none)

pub returns-then-ends_at-2 : goal.returns-then-ends_at-2
returns-then-ends_at-2 c =
    let gap : (not c.args.flags.now.space || bytes_eq (take_while is_space c.args.answer.now) (take_while is_space c.args.output.now)) ≡ true =
    rw (c.cut_gap.ensures.gap, c.cut_gap-2.ensures.gap) at (sym c.if-not-gap_agrees.ensures) in
    let some_answer : eqb (length (after_gap c.args.answer.now)) 0 ≡ false = rw c.cut_gap.ensures.rest at (sym c.if-is_empty.ensures) in
    let some_output : eqb (length (after_gap c.args.output.now)) 0 ≡ false = rw c.cut_gap-2.ensures.rest at (sym c.if-is_empty-2.ensures) in
    let same : IsSameToken (after_gap c.args.answer.now) (after_gap c.args.output.now) c.common_len-len.result =
    rw (c.cut_gap.ensures.rest, c.cut_gap-2.ensures.rest) at (same_token_is c.cut_gap.result.1.now c.cut_gap-2.result.1.now c.common_len-len.result c.common_len-len.ensures (sym c.if-ends_at.ensures) (sym c.if-ends_at-2.ensures)) in
    rw (take_rest c.cut_gap.result.1.now c.common_len-len.result, take_rest c.cut_gap-2.result.1.now c.common_len-len.result, c.cut_gap.ensures.rest, c.cut_gap-2.ensures.rest) (
      same_goes_on c.args.flags.now c.args.answer.now c.args.output.now c.common_len-len.result gap (is_some (length (after_gap c.args.answer.now)) some_answer) (is_some (length (after_gap c.args.output.now)) some_output) same,
      same_shorter c.args.answer.now c.args.output.now c.common_len-len.result (is_some (length (after_gap c.args.answer.now)) some_answer) same,
    )

pub returns-then-agrees : goal.returns-then-agrees
returns-then-agrees c =
    let gap : (not c.args.flags.now.space || bytes_eq (take_while is_space c.args.answer.now) (take_while is_space c.args.output.now)) ≡ true =
    rw (c.cut_gap.ensures.gap, c.cut_gap-2.ensures.gap) at (sym c.if-not-gap_agrees.ensures) in
    let some_answer : eqb (length (after_gap c.args.answer.now)) 0 ≡ false = rw c.cut_gap.ensures.rest at (sym c.if-is_empty.ensures) in
    let some_output : eqb (length (after_gap c.args.output.now)) 0 ≡ false = rw c.cut_gap-2.ensures.rest at (sym c.if-is_empty-2.ensures) in
    let token : agrees c.args.flags.now (front_token (after_gap c.args.answer.now)) (front_token (after_gap c.args.output.now)) ≡ true =
    rw (c.cut_token.ensures.token, c.cut_token-2.ensures.token, c.cut_gap.ensures.rest, c.cut_gap-2.ensures.rest) at (sym c.if-agrees.ensures) in
    rw (c.cut_token.ensures.rest, c.cut_token-2.ensures.rest, c.cut_gap.ensures.rest, c.cut_gap-2.ensures.rest) (
      goes_on c.args.flags.now c.args.answer.now c.args.output.now (take_while is_space c.args.answer.now) (take_while is_space c.args.output.now)
          (front_token (after_gap c.args.answer.now)) (front_token (after_gap c.args.output.now)) (after_token (after_gap c.args.answer.now)) (after_token (after_gap c.args.output.now))
          (front_is c.args.answer.now (is_some (length (after_gap c.args.answer.now)) some_answer)) (front_is c.args.output.now (is_some (length (after_gap c.args.output.now)) some_output)) gap token,
      after_token_shorter c.args.answer.now (is_some (length (after_gap c.args.answer.now)) some_answer),
    )

pub returns-else-agrees : goal.returns-else-agrees
returns-else-agrees c =
    let some_answer : eqb (length (after_gap c.args.answer.now)) 0 ≡ false = rw c.cut_gap.ensures.rest at (sym c.if-is_empty.ensures) in
    let some_output : eqb (length (after_gap c.args.output.now)) 0 ≡ false = rw c.cut_gap-2.ensures.rest at (sym c.if-is_empty-2.ensures) in
    let token : agrees c.args.flags.now (front_token (after_gap c.args.answer.now)) (front_token (after_gap c.args.output.now)) ≡ false =
    rw (c.cut_token.ensures.token, c.cut_token-2.ensures.token, c.cut_gap.ensures.rest, c.cut_gap-2.ensures.rest) at (sym c.if-agrees.ensures) in
    stops_at_token c.args.flags.now c.args.answer.now c.args.output.now (take_while is_space c.args.answer.now) (take_while is_space c.args.output.now)
    (front_token (after_gap c.args.answer.now)) (front_token (after_gap c.args.output.now)) (after_token (after_gap c.args.answer.now)) (after_token (after_gap c.args.output.now))
    (front_is c.args.answer.now (is_some (length (after_gap c.args.answer.now)) some_answer)) (front_is c.args.output.now (is_some (length (after_gap c.args.output.now)) some_output)) token
