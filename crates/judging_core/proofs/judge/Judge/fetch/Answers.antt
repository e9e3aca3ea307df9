use Rattle.std.proofs.Common.{ℕ, ◌≡◌, ◌<◌, ◌-◌, ◌∙◌, ◌++◌, ◌∷◌, List, Some, suc, sym, ap, subst, arith, take}
use Rattle.std.proofs.lemmas.Grind.{common_steps}
use Rattle.farm_kinds.specs.declared.outcomes.Fetched.{Fetched}
use Rattle.farm_kinds.specs.declared.outcomes.Fetched.TheVariants as fetch
use Rattle.farm_model.specs.Leases.{held_count}
use Rattle.farm_model.specs.Judge.{JudgeState, first_open, hand_out, hand_out_all, lease_end, open_of, ranks_of, batch_size}
use Rattle.judging_core.specs.JudgeValue.{JudgeValue, in_state}
use Rattle.judging_core.specs.Batches.{ComesFirst}
use Rattle.judging_core.proofs.Batches.{comes_first, still_first, batch_is}
use Rattle.judging_core.proofs.judge.Judge.fetch.Goals as goal

pub hand_out_more-requires-clause-first : goal.hand_out_more-requires-clause-first
hand_out_more-requires-clause-first g c =
    let s : JudgeState = c.args.self.now.state in
    let task = c.in-Some.first in
    let first : first_open s ≡ Some task = sym c.first_open.ensures.first ∙ c.in-Some.is in
    let new : c.hand_out-until.new.self ≡ in_state c.args.self.now (hand_out s c.args.host task) =
    c.hand_out-until.ensures.state in
    subst (λ (v : JudgeValue). ComesFirst v.state task.judging) (sym new) (still_first s c.args.host task.judging task (comes_first s task first))

pub returns-clause-state : goal.returns-clause-state
returns-clause-state g c =
    let s : JudgeState = c.args.self.now.state in
    let host = c.args.host in
    let task = c.in-Some.first in
    let more = c.batch_size-more.result - 1 in
    let first : first_open s ≡ Some task = sym c.first_open.ensures.first ∙ c.in-Some.is in
    let new : c.hand_out-until.new.self ≡ in_state c.args.self.now (hand_out s host task) =
    c.hand_out-until.ensures.state in
    let few : held_count s.leases host < 64 = rw (← c.held-held.ensures) c.if-held-ge-MAX_HELD.false in
    let size : suc more ≡ batch_size c.args.most (held_count s.leases host) =
    (let some = c.batch_size-more.ensures.some in omega (arith, some)) ∙ c.batch_size-more.ensures.size ∙ ap (batch_size c.args.most) c.held-held.ensures in
    c.hand_out_more.ensures.state
    ∙ ap (λ (v : JudgeValue). in_state v (hand_out_all v.state host (take more (open_of v.state task.judging)))) new
    ∙ sym (ap (λ (r : JudgeState × Fetched). in_state c.args.self.now r.0) (batch_is s host c.args.most more task few first size))

pub returns-clause-answer : goal.returns-clause-answer
returns-clause-answer g c =
    let s : JudgeState = c.args.self.now.state in
    let host = c.args.host in
    let task = c.in-Some.first in
    let more = c.batch_size-more.result - 1 in
    let first : first_open s ≡ Some task = sym c.first_open.ensures.first ∙ c.in-Some.is in
    let new : c.hand_out-until.new.self ≡ in_state c.args.self.now (hand_out s host task) =
    c.hand_out-until.ensures.state in
    let few : held_count s.leases host < 64 = rw (← c.held-held.ensures) c.if-held-ge-MAX_HELD.false in
    let size : suc more ≡ batch_size c.args.most (held_count s.leases host) =
    (let some = c.batch_size-more.ensures.some in omega (arith, some)) ∙ c.batch_size-more.ensures.size ∙ ap (batch_size c.args.most) c.held-held.ensures in
    let until : c.hand_out-until.result ≡ lease_end s = c.hand_out-until.ensures.until in
    ap (λ (ns : List ℕ). fetch.Batch task.judging ns c.hand_out-until.result) (c.hand_out_more.ensures.tests ∙ ap (λ (ns : List ℕ). ns ++ ranks_of (take more (open_of c.hand_out-until.new.self.state task.judging))) c.of-tests.ensures)
    ∙ ap (λ (v : JudgeValue). fetch.Batch task.judging (task.test ∷ ranks_of (take more (open_of v.state task.judging))) c.hand_out-until.result) new
    ∙ ap (fetch.Batch task.judging (task.test ∷ ranks_of (take more (open_of (hand_out s host task) task.judging)))) until
    ∙ sym (ap (λ (r : JudgeState × Fetched). r.1) (batch_is s host c.args.most more task few first size))

pub returns-clause-cost : goal.returns-clause-cost
returns-clause-cost g c =
    omega (arith, c.first_open.ensures.cost, c.hand_out_more.ensures.cost, c.batch_size-more.ensures.some, c.batch_size-more.ensures.few)

pub hand_out_more-requires-clause-held : goal.hand_out_more-requires-clause-held
hand_out_more-requires-clause-held g c = grind (arith, common_steps)
