-- The keys of `farm.json`.
use Rattle.std.specs.Prelude.{ℕ, List, [], ◌∷◌, codes, Option}
use Rattle.std.specs.Str.{bytes_eq}
use Rattle.std.specs.List.{find}
use Rattle.farm_settings.specs.declared.keys.Setting.{Setting}
use Rattle.farm_settings.specs.declared.keys.Setting.TheVariants.{InstructionsPerSecond, LazyEvalResults, Lease, ProblemModes, ResultsPrio, ResultsRemap, VerificationRequired}

abbrev pub key_of : Setting → List ℕ
key_of InstructionsPerSecond = codes "instructions_per_second"
key_of LazyEvalResults = codes "lazy_eval_results"
key_of Lease = codes "lease"
key_of ProblemModes = codes "problem_modes"
key_of ResultsPrio = codes "results_prio"
key_of ResultsRemap = codes "results_remap"
key_of VerificationRequired = codes "verification_required"

abbrev pub every_setting : List Setting
every_setting =
    InstructionsPerSecond ∷ LazyEvalResults ∷ Lease ∷ ProblemModes
    ∷ ResultsPrio ∷ ResultsRemap ∷ VerificationRequired ∷ []

-- the setting that has this key
abbrev pub setting_named : List ℕ → Option Setting
setting_named key = find (λ setting. bytes_eq key (key_of setting)) every_setting
