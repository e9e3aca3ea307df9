-- What an accepted submission does.
use Rattle.std.proofs.Common.{ℕ, ◌≡◌, ◌+◌, ◌<◌, List, Some, Bool, false, refl, sym, ap, ◌∙◌, arith, length, length-append}
use Rattle.std.specs.Prelude.{nat_le}
use Rattle.std.specs.List.{position}
use Rattle.std.specs.Str.{bytes_eq}
use Rattle.std.proofs.lemmas.Bool.Decides.{nat_tests}
use Rattle.farm_kinds.specs.declared.outcomes.Class.{Class}
use Rattle.farm_kinds.specs.declared.events.Event.TheVariants as event
use Rattle.farm_kinds.specs.declared.events.Reply.TheVariants as reply
use Rattle.farm_model.specs.State.{State}
use Rattle.farm_model.specs.Changes.{submitted}
use Rattle.farm_model.specs.Farm.{farm_step, Stepped}
use Rattle.farm_core.proofs.Stepping.{stepped_by}

below_full : (limit n : ℕ) → n < limit → nat_le limit n ≡ false
below_full limit n h = grind (arith, nat_tests)

submit_step : (s : State) (name : List ℕ) (class : Class) (broken : Bool) (place : ℕ)
    → position (λ problem. bytes_eq problem.name name) s.problems ≡ Some place
    → length s.submissions < 100000 → length s.judge.judgings < 400000
    → farm_step s (event.Submit name class broken) ≡ (submitted s (place + 1) class broken, reply.Submitted (length s.submissions + 1) (length s.judge.judgings + 1))
submit_step s name class broken place found few room =
    rw (found, below_full 100000 (length s.submissions) few, below_full 400000 (length s.judge.judgings) room) refl

pub submit_stepped : (s : State) (name : List ℕ) (class : Class) (broken : Bool) (place : ℕ) (new : State) (n j : ℕ)
    → position (λ problem. bytes_eq problem.name name) s.problems ≡ Some place
    → length s.submissions < 100000 → length s.judge.judgings < 400000
    → new ≡ submitted s (place + 1) class broken → n ≡ length new.submissions → j ≡ length s.judge.judgings + 1
    → Stepped s (event.Submit name class broken) new (reply.Submitted n j)
submit_stepped s name class broken place new n j found few room e number judging =
    let count : n ≡ length s.submissions + 1 = number ∙ ap (λ t. length t.submissions) e ∙ length-append s.submissions _ in
    stepped_by s (event.Submit name class broken) new (reply.Submitted n j) (λ no. cc)
    (submit_step s name class broken place found few room ∙ ap (λ t. (t, reply.Submitted (length s.submissions + 1) (length s.judge.judgings + 1))) (sym e)
    ∙ ap (λ m. (new, reply.Submitted m (length s.judge.judgings + 1))) (sym count) ∙ ap (λ m. (new, reply.Submitted n m)) (sym judging))
