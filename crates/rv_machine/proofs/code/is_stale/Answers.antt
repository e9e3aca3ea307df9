use Rattle.std.proofs.Common.{◌≡◌, refl, ap, ◌∙◌, sym, arith, inl}
use Rattle.rv_word.specs.declared.instr.Op.{Op}
use Rattle.rv_machine.specs.Decoded.{is_decoded}
use Rattle.rv_machine.proofs.Kept.{forgotten, behind, same_place}
use Rattle.rv_machine.proofs.code.is_stale.Goals as goal

pub returns-then-place-code-clause-kept : goal.returns-then-place-code-clause-kept
returns-then-place-code-clause-kept c = λ r m n w d e. behind m n c.args.code.now c.args.place c.args.at w d e (omega arith)

pub returns-in-Some-clause-kept : goal.returns-in-Some-clause-kept
returns-in-Some-clause-kept c =
    λ r m n w d e.
    forgotten m n c.args.code.now c.args.code.now c.args.at w d refl refl refl (λ i. refl) (λ i j. inl refl)
    (λ k l page. let same : c.in-Some.k ≡ k = same_place c.args.code.now.numbers.items c.in-Some.k k w.ascending c.in-Some.ensures.some.0 l (c.in-Some.ensures.some.1 ∙ sym page) in rw same at (ap (λ (o : Op). is_decoded o) (sym c.operation_at.ensures) ∙ sym c.is_decoded.ensures ∙ r))

pub returns-in-None-clause-kept : goal.returns-in-None-clause-kept
returns-in-None-clause-kept c =
    λ r m n w d e.
    forgotten m n c.args.code.now c.args.code.now c.args.at w d refl refl refl (λ i. refl) (λ i j. inl refl) (λ k l page. absurd (c.in-None.ensures.none w.ascending k l page))

pub returns-in-Some-clause-decoded : goal.returns-in-Some-clause-decoded
returns-in-Some-clause-decoded c =
    λ r. (c.in-Some.k, record { some = c.in-Some.ensures.some.0; page = c.in-Some.ensures.some.1; ready = ap (λ (o : Op). is_decoded o) (sym c.operation_at.ensures) ∙ sym c.is_decoded.ensures ∙ r })
