-- The settings' file: what it gives, and the line that says why it gives nothing.
use Rattle.std.specs.Prelude.{◌≡◌, ℕ, List, [], ◌∷◌, ◌++◌, length, Option, Some, None, Result, Ok, Err, IfSome, nat_le, if◌then◌else◌, codes}
use Rattle.std.specs.Option.{option_map}
use Rattle.sha2.specs.Sha256.{sha256}
use Rattle.farm_tree.specs.declared.reads.TreeFile.{TreeFile}
use Rattle.farm_tree.specs.Reading.{file_at, file_limit}
use Rattle.farm_model.specs.State.{SettingsValue}
use Rattle.farm_settings.specs.declared.faults.SettingsFault.{SettingsFault}
use Rattle.farm_settings.specs.FarmJson.{settings_of_text}
use Rattle.contest_folder.specs.FaultTexts.{printed, settings_fault_text}
use Rattle.script_commands.specs.declared.config.BadConfig.{BadConfig}
use Rattle.script_commands.specs.declared.config.BadConfig.TheVariants as bad

abbrev pub settings_or_bad : Result SettingsValue SettingsFault → Result SettingsValue BadConfig
settings_or_bad (Ok settings) = Ok settings
settings_or_bad (Err fault) = Err (bad.Settings fault)

-- the settings that a file gives, or why it gives none
abbrev pub config_in : Option (List ℕ) → Result SettingsValue BadConfig
config_in None = Err bad.NoConfig
config_in (Some bytes) =
    if nat_le (length bytes) file_limit then settings_or_bad (settings_of_text bytes) else Err (bad.TooLarge (length bytes))

-- what the file at the path gives, where the tree tells its files
abbrev pub ConfigIs : Option (List TreeFile) → List ℕ → Result SettingsValue BadConfig → Type 0
ConfigIs files path config = IfSome files (λ held. config_in (file_at held path) ≡ config)

-- the SHA-256 digest of the file at the path, where the tree tells its files
abbrev pub DigestIs : Option (List TreeFile) → List ℕ → List ℕ → Type 0
DigestIs files path digest = IfSome files (λ held. option_map sha256 (file_at held path) ≡ Some digest)

-- what is printed of the fault of a file that gives no settings
abbrev pub bad_config_text : List ℕ → BadConfig → List ℕ
bad_config_text path bad.NoConfig = codes "no config"
bad_config_text path (bad.TooLarge len) = codes "too large " ++ printed path
bad_config_text path (bad.Settings fault) = settings_fault_text fault

-- the line for it
abbrev pub bad_contest_line : List ℕ → BadConfig → List ℕ
bad_contest_line path bad = codes "bad contest: " ++ bad_config_text path bad ++ 10 ∷ []
