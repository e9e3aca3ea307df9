use Rattle.std.proofs.Common.{◌≡◌, List, ℕ, Some, None, Ok, Err, codes, sym, ap, subst, rules}
use Rattle.farm_settings.specs.declared.faults.SettingsErr.{SettingsErr}
use Rattle.farm_settings.specs.declared.faults.SettingsErr.TheVariants.{Bad}
use Rattle.farm_settings.specs.Entries.{IsReading}
use Rattle.farm_settings.specs.FarmJson.{settings_of_text}
use Rattle.contest_folder.specs.declared.faults.ContestFault.TheVariants as fault
use Rattle.contest_folder.specs.Telling.{file_in}
use Rattle.contest_folder.specs.Contest.{settings_said, settings_or_fault}
use Rattle.contest_folder.proofs.Steps.{err_then, ok_then}
use Rattle.contest_folder.proofs.reading.read_contest_settings.Goals as goal

pub returns-in_err-text-clause-settings : goal.returns-in_err-text-clause-settings
returns-in_err-text-clause-settings g c = λ files told.
    let e = c.in_err-text.field-0.0 in
    let is : c.from_residual.result ≡ Err e = search rules in
    rw is (err_then e (file_in files c.args.path.now (codes "farm.json")) settings_said (c.in_err-text.ensures.file files told))

pub returns-in_default-clause-settings : goal.returns-in_default-clause-settings
returns-in_default-clause-settings g c = λ files told.
    let text = rw c.in_default.is at (c.in_ok-text.ensures.file files told) in
    ok_then None (file_in files c.args.path.now (codes "farm.json")) settings_said _ text (λ going. ap Ok c.standard.ensures)

pub returns-in-Ok-clause-settings : goal.returns-in-Ok-clause-settings
returns-in-Ok-clause-settings g c = λ files told.
    let text = rw c.in-Some.is at (c.in_ok-text.ensures.file files told) in
    let said : settings_of_text c.in-Some.text ≡ Ok c.in-Ok.settings = rw c.as_slice.ensures at c.in-Ok.ensures in
    ok_then (Some c.in-Some.text) (file_in files c.args.path.now (codes "farm.json")) settings_said (Ok c.in-Ok.settings) text (λ going. sym (ap settings_or_fault said))

pub returns-in-Err-Bad-clause-settings : goal.returns-in-Err-Bad-clause-settings
returns-in-Err-Bad-clause-settings g c = λ files told.
    let text = rw c.in-Some.is at (c.in_ok-text.ensures.file files told) in
    let bad = subst (λ (e : SettingsErr). IsReading (settings_of_text c.as_slice.result.now) (Err e)) c.in-Err-Bad.field-0-is c.in-Err-Bad.ensures in
    let said = subst (λ (t : List ℕ). IsReading (settings_of_text t) (Err (Bad c.in-Err-Bad.fault))) c.as_slice.ensures bad in
    ok_then (Some c.in-Some.text) (file_in files c.args.path.now (codes "farm.json")) settings_said (Err (fault.Settings c.in-Err-Bad.fault)) text (λ going. sym (ap settings_or_fault said))
