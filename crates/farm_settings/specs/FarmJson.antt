-- What `farm.json` sets.
use Rattle.std.specs.Prelude.{ℕ, List, Option, Some, None, Result, Err, if◌then◌else◌}
use Rattle.std.specs.Str.{is_utf8}
use Rattle.serde_json.specs.Data.{Data, Members}
use Rattle.serde_json.specs.Find.{as_object}
use Rattle.serde_json.specs.Read.{read}
use Rattle.farm_model.specs.State.{SettingsValue, standard_settings}
use Rattle.farm_settings.specs.declared.faults.SettingsFault.{SettingsFault}
use Rattle.farm_settings.specs.declared.faults.SettingsFault.TheVariants.{NotJson}
use Rattle.farm_settings.specs.Entries.{each_entry, set_entry}

-- the standard settings, but for what the entries set; a value that is no object has no entries
abbrev pub settings_of_entries : Option Members → Result SettingsValue SettingsFault
settings_of_entries None = Err NotJson
settings_of_entries (Some entries) = each_entry set_entry standard_settings entries

abbrev pub settings_of_value : Option Data → Result SettingsValue SettingsFault
settings_of_value None = Err NotJson
settings_of_value (Some value) = settings_of_entries (as_object value)

-- JSON is what the library reads, in UTF-8
abbrev pub settings_of_text : List ℕ → Result SettingsValue SettingsFault
settings_of_text text = if is_utf8 text then settings_of_value (read text) else Err NotJson
