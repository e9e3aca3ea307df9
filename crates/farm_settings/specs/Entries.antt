-- What the entries of `farm.json` set, or the first fault.
use Rattle.std.specs.Prelude.{◌≡◌, ⊤, ℕ, List, [], ◌∷◌, ◌++◌, map, Option, Some, None, if◌then◌else◌, Result, Ok, Err}
use Rattle.serde_json.specs.Data.{Data, Members, no_members, member}
use Rattle.serde_json.specs.Find.{as_bool, as_object}
use Rattle.farm_kinds.specs.declared.kinds.Kind.{Kind}
use Rattle.farm_kinds.specs.declared.outcomes.NamedMode.{NamedMode}
use Rattle.farm_kinds.specs.Names.{name_read}
use Rattle.farm_kinds.specs.Kinds.{kind_named, every_kind}
use Rattle.farm_kinds.specs.RuleValue.{RuleValue}
use Rattle.farm_kinds.specs.Rules.{prio_of, remap_of}
use Rattle.farm_model.specs.Rows.{same_kind}
use Rattle.farm_model.specs.State.{SettingsValue}
use Rattle.farm_settings.specs.declared.keys.Setting.{Setting}
use Rattle.farm_settings.specs.declared.keys.Setting.TheVariants.{InstructionsPerSecond, LazyEvalResults, Lease, ProblemModes, ResultsPrio, ResultsRemap, VerificationRequired}
use Rattle.farm_settings.specs.declared.faults.SettingsErr.{SettingsErr}
use Rattle.farm_settings.specs.declared.faults.SettingsErr.TheVariants.{Bad, NoMemory}
use Rattle.farm_settings.specs.declared.faults.SettingsFault.{SettingsFault}
use Rattle.farm_settings.specs.declared.faults.SettingsFault.TheVariants.{UnknownKey, BadValue}
use Rattle.farm_settings.specs.Keys.{setting_named}
use Rattle.farm_settings.specs.Values.{whole, kind_of, mode_of, problem_mode_of}

-- the answer is what was told, or memory was wanting
abbrev pub IsReading : {A : Type 0} → Result A SettingsFault → Result A SettingsErr → Type 0
IsReading told (Ok a) = told ≡ Ok a
IsReading told (Err (Bad fault)) = told ≡ Err fault
IsReading told (Err NoMemory) = ⊤

-- what was told is there now, or its fault was answered
abbrev pub IsSet : {A : Type 0} → Result A SettingsFault → A → Result (Unit {0}) SettingsErr → Type 0
IsSet told now (Ok done) = told ≡ Ok now
IsSet told now (Err (Bad fault)) = told ≡ Err fault
IsSet told now (Err NoMemory) = ⊤

-- what a value at the key says, which must say something
abbrev pub said_at : {A : Type 0} → List ℕ → Option A → Result A SettingsFault
said_at key None = Err (BadValue key)
said_at key (Some a) = Ok a

-- what is made of what was said
abbrev pub set_as : {A B : Type 0} → (A → B) → Result A SettingsFault → Result B SettingsFault
set_as f (Ok a) = Ok (f a)
set_as f (Err fault) = Err fault

-- what comes after what was set
abbrev pub set_then : {A B : Type 0} → (A → Result B SettingsFault) → Result A SettingsFault → Result B SettingsFault
set_then f (Ok a) = f a
set_then f (Err fault) = Err fault

-- what the entries of an object set one after the other, in the order of their keys' bytes, up to the first fault
abbrev pub each_entry : {A : Type 0}
    → (A → List ℕ → Data → Result A SettingsFault) → A → Members → Result A SettingsFault
each_entry set a no_members = Ok a
each_entry set a (member key value entries) = set_then (λ b. each_entry set b entries) (set a key value)

-- the rule with another priority of this kind
abbrev pub with_prio : RuleValue → Kind → ℕ → RuleValue
with_prio rule kind prio = record {
  prios = map (λ k. if same_kind k kind then prio else prio_of rule k) every_kind;
  remaps = map (remap_of rule) every_kind;
}

-- the rule in which this kind counts as another one
abbrev pub with_remap : RuleValue → Kind → Kind → RuleValue
with_remap rule kind target = record {
  prios = map (prio_of rule) every_kind;
  remaps = map (λ k. if same_kind k kind then target else remap_of rule k) every_kind;
}

-- an entry of `results_prio`
abbrev pub set_prio_of : RuleValue → Option Kind → List ℕ → Data → Result RuleValue SettingsFault
set_prio_of rule None name value = Err (UnknownKey name)
set_prio_of rule (Some kind) name value = set_as (with_prio rule kind) (said_at name (whole 0 999 value))

abbrev pub set_prio : RuleValue → List ℕ → Data → Result RuleValue SettingsFault
set_prio rule name value = set_prio_of rule (kind_named name) name value

-- an entry of `results_remap`
abbrev pub set_remap_of : RuleValue → Option Kind → List ℕ → Data → Result RuleValue SettingsFault
set_remap_of rule None name value = Err (UnknownKey name)
set_remap_of rule (Some kind) name value = set_as (with_remap rule kind) (said_at name (kind_of value))

abbrev pub set_remap : RuleValue → List ℕ → Data → Result RuleValue SettingsFault
set_remap rule name value = set_remap_of rule (kind_named name) name value

-- an entry of `problem_modes`
abbrev pub mode_entry_of : Option (List ℕ) → List ℕ → Data → Result NamedMode SettingsFault
mode_entry_of None name value = Err (UnknownKey name)
mode_entry_of (Some read) name value =
    set_as (λ mode. record { name = read; mode = mode }) (said_at name (problem_mode_of value))

abbrev pub mode_entry : List ℕ → Data → Result NamedMode SettingsFault
mode_entry name value = mode_entry_of (name_read name) name value

abbrev pub set_mode : List NamedMode → List ℕ → Data → Result (List NamedMode) SettingsFault
set_mode modes name value = set_as (λ mode. modes ++ mode ∷ []) (mode_entry name value)

-- the settings with another rule
abbrev pub with_rule : SettingsValue → RuleValue → SettingsValue
with_rule settings rule = record settings { rule = rule }

-- an entry of `farm.json`
abbrev pub set_setting : SettingsValue → Option Setting → List ℕ → Data → Result SettingsValue SettingsFault
set_setting s None key value = Err (UnknownKey key)
set_setting s (Some InstructionsPerSecond) key value =
    set_as (λ ips. record s { ips = ips }) (said_at key (whole 1000 100000000 value))
set_setting s (Some LazyEvalResults) key value =
    set_as (λ lazy. record s { mode = mode_of lazy }) (said_at key (as_bool value))
set_setting s (Some Lease) key value =
    set_as (λ lease. record s { lease = lease }) (said_at key (whole 1 1000000 value))
set_setting s (Some ProblemModes) key value =
    set_then (λ entries. set_as (λ modes. record s { modes = modes }) (each_entry set_mode [] entries))
    (said_at key (as_object value))
set_setting s (Some ResultsPrio) key value =
    set_then (λ entries. set_as (with_rule s) (each_entry set_prio s.rule entries)) (said_at key (as_object value))
set_setting s (Some ResultsRemap) key value =
    set_then (λ entries. set_as (with_rule s) (each_entry set_remap s.rule entries)) (said_at key (as_object value))
set_setting s (Some VerificationRequired) key value =
    set_as (λ verification. record s { verification = verification }) (said_at key (as_bool value))

abbrev pub set_entry : SettingsValue → List ℕ → Data → Result SettingsValue SettingsFault
set_entry s key value = set_setting s (setting_named key) key value
