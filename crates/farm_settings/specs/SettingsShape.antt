-- How settings lie in memory.
use Rattle.std.specs.Prelude.{◌≤◌}
use Rattle.farm_model.specs.State.{SettingsValue}
use Rattle.farm_settings.specs.declared.settings.Settings.TheInside.{Inside}

abbrev pub settings_value : Inside → SettingsValue
settings_value a = record {
  rule = a.rule;
  mode = a.mode;
  lease = a.lease;
  verification = a.verification;
  ips = a.ips;
  modes = a.modes;
}

pub record IsSettings (a : Inside) : Type 0 where
  pub some : 1 ≤ a.lease
  pub short : a.lease ≤ 1000000
  pub slow : 1000 ≤ a.ips
  pub fast : a.ips ≤ 100000000
