use Rattle.std.proofs.Common.{◌≡◌, ◌≢◌, ◌<◌, Some, ap, refl, sym, ◌∙◌, subst, length, get_or}
use Rattle.farm_model.specs.Numbers.{leads_well}
use Rattle.farm_model.specs.Words.{words}
use Rattle.command_text.proofs.FrontLemmas.{bad_lead, goes_on, found}
use Rattle.command_text.proofs.fronts.front_number.Goals as goal

pub returns-then-not-leads_well-clause-none : goal.returns-then-not-leads_well-clause-none
returns-then-not-leads_well-clause-none c =
    bad_lead c.args.text.now c.in_ok-number.len c.in_ok-number.ensures.len c.in_ok-number.ensures.digits
    (ap leads_well (sym c.split_at.ensures.front) ∙ sym c.if-not-leads_well.ensures)
    c.in_ok-number.ensures.end c.requires

pub returns-then-not-ends_word-clause-none : goal.returns-then-not-ends_word-clause-none
returns-then-not-ends_word-clause-none c =
    let rest = subst (λ r. (0 < length r) × (get_or r 0 0 ≢ 32)) c.split_at.ensures.back (c.if-not-ends_word.ensures.goes_on refl) in
    goes_on c.args.text.now c.in_ok-number.len c.in_ok-number.ensures.len c.in_ok-number.ensures.digits
    c.in_ok-number.ensures.end rest.0 rest.1 c.requires

pub returns-clause-some : goal.returns-clause-some
returns-clause-some c =
    found c.args.text.now c.in_ok-number.len c.in_ok-number.number c.in_ok-number.ensures.len c.in_ok-number.ensures.digits
    (ap leads_well (sym c.split_at.ensures.front) ∙ sym c.if-not-leads_well.ensures)
    c.in_ok-number.ensures.value c.in_ok-number.ensures.within
    (subst (λ r. 0 < length r → get_or r 0 0 ≡ 32) c.split_at.ensures.back (c.if-not-ends_word.ensures.ends refl)) c.requires
    ∙ ap (λ r. Some (c.in_ok-number.number, words r)) (sym c.split_at.ensures.back)
