-- What is computed at each number that a made problem may have.
use Rattle.std.proofs.Common.{ℕ, ◌≡◌, ◌<◌, ◌≤◌, List, [], ◌∷◌, Bool, true, false, ◌&&◌, Result, Ok, Err, refl, arith}
use Rattle.std.specs.Fmt.{digits}
use Rattle.farm_kinds.specs.Names.{is_name}
use Rattle.problem_settings.specs.declared.yaml.Yaml.{Yaml as YamlValue}
use Rattle.problem_settings.specs.declared.yaml.BadLine.{BadLine}
use Rattle.problem_settings.specs.declared.yaml.Validation.{Validation}
use Rattle.problem_settings.specs.declared.yaml.Validation.TheVariants as validation
use Rattle.problem_settings.specs.ProblemYaml.{yaml_of}
use Rattle.problem_settings.specs.DomjudgeIni.{ini_of}
use Rattle.work_maker.specs.Files.{problem_name, team_name, yaml_text, limit_text}
use Rattle.work_maker.proofs.Each.{passes_below, passes_at, both}

-- ---- names

names_pass : passes_below (λ n. is_name (problem_name n)) 51 ≡ true
unfolding digits
names_pass = refl

pub problem_is_named : (n : ℕ) → n ≤ 50 → is_name (problem_name n) ≡ true
problem_is_named n le = passes_at (λ k. is_name (problem_name k)) 51 n names_pass (omega (arith, le))

teams_pass : passes_below (λ n. is_name (team_name n)) 10 ≡ true
unfolding digits
teams_pass = refl

pub team_is_named : (n : ℕ) → n < 10 → is_name (team_name n) ≡ true
team_is_named n lt = passes_at (λ k. is_name (team_name k)) 10 n teams_pass lt

-- ---- problem.yaml and domjudge-problem.ini

abbrev is_plain_validation : Validation → Bool
is_plain_validation validation.Default = true
is_plain_validation validation.Custom = false

abbrev has_none : List ℕ → Bool
has_none [] = true
has_none (b ∷ bs) = false

abbrev is_plain : Result YamlValue BadLine → Bool
is_plain (Ok yaml) = is_plain_validation yaml.validation && has_none yaml.flags
is_plain (Err bad) = false

yamls_pass : passes_below (λ n. is_plain (yaml_of (yaml_text n))) 51 ≡ true
unfolding digits yaml_of
yamls_pass = refl

by_default : (v : Validation) → is_plain_validation v ≡ true → v ≡ validation.Default
by_default validation.Default e = refl
by_default validation.Custom e = cc

without : (bs : List ℕ) → has_none bs ≡ true → bs ≡ []
without [] e = refl
without (b ∷ bs) e = cc

-- settings by which outputs are checked by the default validator without flags
pub record IsPlain (read : Result YamlValue BadLine) : Type 0 where
  pub yaml : YamlValue
  pub is : read ≡ Ok yaml
  pub validation : yaml.validation ≡ validation.Default
  pub flags : yaml.flags ≡ []

plain_is : (read : Result YamlValue BadLine) → is_plain read ≡ true → IsPlain read
plain_is (Err bad) e = cc
plain_is (Ok yaml) e =
    let h = both (is_plain_validation yaml.validation) (has_none yaml.flags) e in
    record { yaml = yaml; is = refl; validation = by_default yaml.validation h.0; flags = without yaml.flags h.1 }

pub yaml_is_plain : (n : ℕ) → n ≤ 50 → IsPlain (yaml_of (yaml_text n))
yaml_is_plain n le = plain_is (yaml_of (yaml_text n)) (passes_at (λ k. is_plain (yaml_of (yaml_text k))) 51 n yamls_pass (omega (arith, le)))

pub limit_is : ini_of limit_text ≡ Ok 10
unfolding ini_of
limit_is = refl
