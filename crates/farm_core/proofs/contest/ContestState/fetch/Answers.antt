use Rattle.std.proofs.Common.{rules, ◌≡◌, length, sym, ap, ◌∙◌}
use Rattle.farm_core.proofs.Judged.{fetch_stepped, fetch_counts}
use Rattle.farm_core.proofs.contest.ContestState.fetch.Goals as goal

pub returns-in-Some : goal.returns-in-Some
returns-in-Some c =
    fetch_stepped c.args.self.now c.args.host c.in-Some.number c.args.most _ c.fetch_by.result c.fetch_reply.result
    (sym c.up_number.ensures.number ∙ c.in-Some.is) (search rules) (search rules) c.fetch_reply.ensures

pub invariant_of-self : goal.invariant_of-self
invariant_of-self c =
    let count : length c.fetch_by.new.judge.state.judgings ≡ length c.self.inside.judge.state.judgings =
    ap (λ j. length j.state.judgings) c.fetch_by.ensures.state ∙ fetch_counts c.self.inside.judge.state c.in-Some.number c.args.most in
    search rules
