use Rattle.std.proofs.Common.{ℕ, ◌+◌, ◌∙◌, ap, take, drop}
use Rattle.default_validator.proofs.Fronts.{known_front}
use Rattle.default_validator.proofs.cuts.cut_token.Goals as goal

pub returns-clause-token : goal.returns-clause-token
returns-clause-token c =
    c.split_at.ensures.front
    ∙ ap (λ (n : ℕ). take n c.args.text.now) (ap (λ (n : ℕ). c.args.known + n) c.token_len.ensures ∙ known_front c.args.text.now c.args.known c.requires)

pub returns-clause-rest : goal.returns-clause-rest
returns-clause-rest c =
    c.split_at.ensures.back
    ∙ ap (λ (n : ℕ). drop n c.args.text.now) (ap (λ (n : ℕ). c.args.known + n) c.token_len.ensures ∙ known_front c.args.text.now c.args.known c.requires)
