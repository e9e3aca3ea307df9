use Rattle.std.proofs.Common.{arith, refl}
use Rattle.task_tree.proofs.Levels.{leveled_same, same_bits}
use Rattle.task_tree.proofs.numbers.NumberSet.reserve.Goals as goal

pub invariant_of-self : goal.invariant_of-self
invariant_of-self c =
    let a = c.self.inside in
    let l = c.self.invariant.lower.size in
    let t = c.self.invariant.upper.size in
    leveled_same a.bottom a.middle a.top a.bottom a.middle c.extend_to.new.self c.self.invariant (λ p. refl) (λ p. refl) c.extend_to.ensures.same l (omega (arith, l, t, c.extend_to.ensures.least))

pub invariant_of-self-in_err-extend_to-2 : goal.invariant_of-self-in_err-extend_to-2
invariant_of-self-in_err-extend_to-2 c =
    let a = c.self.inside in
    let l = c.self.invariant.lower.size in
    let t = c.self.invariant.upper.size in
    leveled_same a.bottom a.middle a.top a.bottom c.extend_to-2.new.self c.extend_to.new.self c.self.invariant (λ p. refl) c.extend_to-2.ensures.same c.extend_to.ensures.same
    (omega (arith, l, t, c.extend_to-2.ensures.least)) (omega (arith, l, t, c.extend_to.ensures.least, c.extend_to-2.ensures.most, c.in_ok-extend_to.ensures.within))

pub invariant_of-self-2 : goal.invariant_of-self-2
invariant_of-self-2 c =
    let a = c.self.inside in
    let l = c.self.invariant.lower.size in
    let t = c.self.invariant.upper.size in
    leveled_same a.bottom a.middle a.top c.extend_to-3.new.self c.extend_to-2.new.self c.extend_to.new.self c.self.invariant c.extend_to-3.ensures.same c.extend_to-2.ensures.same c.extend_to.ensures.same
    (omega (arith, l, t, c.extend_to-2.ensures.least, c.extend_to-3.ensures.most, c.in_ok-extend_to-2.ensures.within)) (omega (arith, l, t, c.extend_to.ensures.least, c.extend_to-2.ensures.most, c.in_ok-extend_to.ensures.within))

pub returns-clause-same : goal.returns-clause-same
returns-clause-same c = λ i. rw (← c.self.view_is) (same_bits c.self.inside.bottom c.extend_to-3.new.self c.extend_to-3.ensures.same i)
