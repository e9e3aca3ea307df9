use Rattle.std.proofs.Common.{refl, subst}
use Rattle.farm_model.specs.State.{State}
use Rattle.farm_model.specs.Farm.{Stepped}
use Rattle.farm_core.proofs.Aside.{by_contest}
use Rattle.farm_core.proofs.Promising.{promised}
use Rattle.farm_core.proofs.farm.Farm.step.Goals as goal

pub returns-in-Host-clause-stepped : goal.returns-in-Host-clause-stepped
returns-in-Host-clause-stepped c =
    by_contest c.self.inside.contest c.bring_up.new.self c.args.self.now c.self.inside.audit.texts c.args.event.now _ c.bring_up.result
    c.self.view_is c.in-Host.is (record { unaudited = refl; other = λ e. cc }) c.bring_up.ensures

pub returns-in-Host-clause-promise : goal.returns-in-Host-clause-promise
returns-in-Host-clause-promise c = promised _ _ _ _ (returns-in-Host-clause-stepped c)

pub returns-in-Submit-clause-stepped : goal.returns-in-Submit-clause-stepped
returns-in-Submit-clause-stepped c =
    by_contest c.self.inside.contest c.submit.new.self c.args.self.now c.self.inside.audit.texts c.args.event.now _ c.submit.result
    c.self.view_is c.in-Submit.is (record { unaudited = refl; other = λ e. cc }) c.submit.ensures

pub returns-in-Submit-clause-promise : goal.returns-in-Submit-clause-promise
returns-in-Submit-clause-promise c = promised _ _ _ _ (returns-in-Submit-clause-stepped c)

pub returns-in-Claim-clause-stepped : goal.returns-in-Claim-clause-stepped
returns-in-Claim-clause-stepped c =
    by_contest c.self.inside.contest c.claim.new.self c.args.self.now c.self.inside.audit.texts c.args.event.now _ c.claim.result
    c.self.view_is c.in-Claim.is (record { unaudited = refl; other = λ e. cc }) c.claim.ensures

pub returns-in-Claim-clause-promise : goal.returns-in-Claim-clause-promise
returns-in-Claim-clause-promise c = promised _ _ _ _ (returns-in-Claim-clause-stepped c)

pub returns-in-Fetch-clause-stepped : goal.returns-in-Fetch-clause-stepped
returns-in-Fetch-clause-stepped c =
    by_contest c.self.inside.contest c.fetch.new.self c.args.self.now c.self.inside.audit.texts c.args.event.now _ c.fetch.result
    c.self.view_is c.in-Fetch.is (record { unaudited = refl; other = λ e. cc }) c.fetch.ensures

pub returns-in-Fetch-clause-promise : goal.returns-in-Fetch-clause-promise
returns-in-Fetch-clause-promise c = promised _ _ _ _ (returns-in-Fetch-clause-stepped c)

pub returns-in-Result-clause-stepped : goal.returns-in-Result-clause-stepped
returns-in-Result-clause-stepped c =
    by_contest c.self.inside.contest c.result.new.self c.args.self.now c.self.inside.audit.texts c.args.event.now _ c.result.result
    c.self.view_is c.in-Result.is (record { unaudited = refl; other = λ e. cc }) c.result.ensures

pub returns-in-Result-clause-promise : goal.returns-in-Result-clause-promise
returns-in-Result-clause-promise c = promised _ _ _ _ (returns-in-Result-clause-stepped c)

pub returns-in-Entry-clause-stepped : goal.returns-in-Entry-clause-stepped
returns-in-Entry-clause-stepped c =
    by_contest c.self.inside.contest c.enter.new.self c.args.self.now c.self.inside.audit.texts c.args.event.now _ c.enter.result
    c.self.view_is c.in-Entry.is (record { unaudited = refl; other = λ e. cc }) c.enter.ensures

pub returns-in-Entry-clause-promise : goal.returns-in-Entry-clause-promise
returns-in-Entry-clause-promise c = promised _ _ _ _ (returns-in-Entry-clause-stepped c)

pub returns-in-Renew-clause-stepped : goal.returns-in-Renew-clause-stepped
returns-in-Renew-clause-stepped c =
    by_contest c.self.inside.contest c.renew.new.self c.args.self.now c.self.inside.audit.texts c.args.event.now _ c.renew.result
    c.self.view_is c.in-Renew.is (record { unaudited = refl; other = λ e. cc }) c.renew.ensures

pub returns-in-Renew-clause-promise : goal.returns-in-Renew-clause-promise
returns-in-Renew-clause-promise c = promised _ _ _ _ (returns-in-Renew-clause-stepped c)

pub returns-in-Down-clause-stepped : goal.returns-in-Down-clause-stepped
returns-in-Down-clause-stepped c =
    by_contest c.self.inside.contest c.bring_down.new.self c.args.self.now c.self.inside.audit.texts c.args.event.now _ c.bring_down.result
    c.self.view_is c.in-Down.is (record { unaudited = refl; other = λ e. cc }) c.bring_down.ensures

pub returns-in-Down-clause-promise : goal.returns-in-Down-clause-promise
returns-in-Down-clause-promise c = promised _ _ _ _ (returns-in-Down-clause-stepped c)

pub returns-in-Show-clause-stepped : goal.returns-in-Show-clause-stepped
returns-in-Show-clause-stepped c =
    subst (λ (s : State). Stepped c.args.self.now c.args.event.now s c.show.result) c.self.view_is
    (by_contest c.self.inside.contest c.self.inside.contest c.args.self.now c.self.inside.audit.texts c.args.event.now _ c.show.result
    c.self.view_is c.in-Show.is (record { unaudited = refl; other = λ e. cc }) c.show.ensures)

pub returns-in-Show-clause-promise : goal.returns-in-Show-clause-promise
returns-in-Show-clause-promise c = promised _ _ _ _ (returns-in-Show-clause-stepped c)

pub returns-in-Board-clause-stepped : goal.returns-in-Board-clause-stepped
returns-in-Board-clause-stepped c =
    subst (λ (s : State). Stepped c.args.self.now c.args.event.now s c.board.result) c.self.view_is
    (by_contest c.self.inside.contest c.self.inside.contest c.args.self.now c.self.inside.audit.texts c.args.event.now _ c.board.result
    c.self.view_is c.in-Board.is (record { unaudited = refl; other = λ e. cc }) c.board.ensures)

pub returns-in-Matrix-clause-stepped : goal.returns-in-Matrix-clause-stepped
returns-in-Matrix-clause-stepped c =
    subst (λ (s : State). Stepped c.args.self.now c.args.event.now s c.matrix.result) c.self.view_is
    (by_contest c.self.inside.contest c.self.inside.contest c.args.self.now c.self.inside.audit.texts c.args.event.now _ c.matrix.result
    c.self.view_is c.in-Matrix.is (record { unaudited = refl; other = λ e. cc }) c.matrix.ensures)

pub returns-in-Apply-clause-promise : goal.returns-in-Apply-clause-promise
returns-in-Apply-clause-promise c = promised _ _ _ _ c.answer_jury.ensures

pub returns-in-Problem-clause-promise : goal.returns-in-Problem-clause-promise
returns-in-Problem-clause-promise c = promised _ _ _ _ c.answer_jury-in-Problem.ensures
