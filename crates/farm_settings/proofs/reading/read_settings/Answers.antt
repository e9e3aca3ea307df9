use Rattle.std.proofs.Common.{◌∙◌, sym, subst}
use Rattle.std.specs.Prelude.{Result}
use Rattle.std.proofs.lemmas.Bool.{false≢true}
use Rattle.serde_json.specs.View.{view}
use Rattle.farm_model.specs.State.{SettingsValue}
use Rattle.farm_settings.specs.declared.faults.SettingsFault.{SettingsFault}
use Rattle.farm_settings.specs.Entries.{IsReading}
use Rattle.farm_settings.proofs.Texts.{value_read, text_refused}
use Rattle.farm_settings.proofs.reading.read_settings.Goals as goal

pub returns-in-Ok : goal.returns-in-Ok
returns-in-Ok c =
    let told = value_read c.args.text.now (view c.in-Ok.value) c.in-Ok.ensures.ok.0 c.in-Ok.ensures.ok.1 in
    subst (λ (t : Result SettingsValue SettingsFault). IsReading t c.settings_of.result) (sym told) c.settings_of.ensures

pub returns-else-is_memory : goal.returns-else-is_memory
returns-else-is_memory c = text_refused c.args.text.now (c.in-Err.ensures.err (λ m. false≢true (sym c.if-is_memory.false ∙ c.is_memory.ensures.1 m)))
