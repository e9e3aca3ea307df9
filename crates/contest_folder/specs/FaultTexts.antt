-- What is printed of a contest's first fault.
use Rattle.std.specs.Prelude.{ℕ, List, [], ◌++◌, map, nat_lt, ◌||◌, ◌==◌, if◌then◌else◌, codes}
use Rattle.std.specs.Fmt.{decimal}
use Rattle.default_validator.specs.declared.flags.FlagFault.{FlagFault}
use Rattle.default_validator.specs.declared.flags.FlagFault.TheVariants as flags
use Rattle.farm_settings.specs.declared.faults.SettingsFault.{SettingsFault}
use Rattle.farm_settings.specs.declared.faults.SettingsFault.TheVariants as settings
use Rattle.package_folder.specs.declared.package.PackageFault.{PackageFault}
use Rattle.package_folder.specs.declared.package.PackageFault.TheVariants as bad
use Rattle.contest_folder.specs.declared.faults.ContestFault.{ContestFault}
use Rattle.contest_folder.specs.declared.faults.ContestFault.TheVariants as fault

-- a name as it is printed: each control character is `?`
abbrev pub printed : List ℕ → List ℕ
printed name = map (λ b. if nat_lt b 32 || b == 127 then 63 else b) name

abbrev pub settings_fault_text : SettingsFault → List ℕ
settings_fault_text settings.NotJson = codes "farm.json: not json"
settings_fault_text (settings.UnknownKey key) = codes "farm.json: unknown key " ++ printed key
settings_fault_text (settings.BadValue key) = codes "farm.json: bad value " ++ printed key

-- the words of the flags are counted from 1
abbrev pub flag_word : FlagFault → ℕ
flag_word (flags.Unknown n) = n
flag_word (flags.NoValue n) = n
flag_word (flags.BadTolerance n) = n

abbrev pub package_fault_text : PackageFault → List ℕ
package_fault_text bad.NoYaml = codes "no problem.yaml"
package_fault_text (bad.Yaml line why) = codes "problem.yaml line " ++ decimal line
package_fault_text (bad.Ini line) = codes "domjudge-problem.ini line " ++ decimal line
package_fault_text (bad.Flags e) = codes "flags word " ++ decimal (flag_word e)
package_fault_text (bad.Groups name) = codes "groups " ++ printed name
package_fault_text (bad.MissingAnswer name) = codes "missing answer " ++ printed name
package_fault_text bad.NoTests = codes "no tests"
package_fault_text (bad.TooManyTests count) = codes "too many tests " ++ decimal count
package_fault_text (bad.TooMuch total) = codes "too much " ++ decimal total
package_fault_text (bad.WideAnswer name at) = codes "wide answer " ++ printed name ++ codes " token " ++ decimal at
package_fault_text bad.NoValidator = codes "no validator"
package_fault_text (bad.ManyValidators count) = codes "many validators " ++ decimal count
package_fault_text (bad.SourceValidator name) = codes "source validator " ++ printed name
package_fault_text (bad.BadValidator name) = codes "bad validator " ++ printed name
package_fault_text (bad.TooLarge name len) = codes "too large " ++ printed name
package_fault_text bad.Tree = []
package_fault_text bad.NoMemory = []

-- What is printed behind `bad contest: `. A failure of the tree and want of memory are no faults of the folder.
abbrev pub contest_fault_text : ContestFault → List ℕ
contest_fault_text (fault.Settings e) = settings_fault_text e
contest_fault_text (fault.BadName name) = codes "bad name " ++ printed name
contest_fault_text (fault.TooManyProblems count) = codes "too many problems " ++ decimal count
contest_fault_text (fault.Package short e) = codes "problem " ++ printed short ++ codes ": " ++ package_fault_text e
contest_fault_text fault.NoList = codes "no submissions.txt"
contest_fault_text (fault.BadLine line) = codes "line " ++ decimal line ++ codes ": bad line"
contest_fault_text (fault.NoProblem line) = codes "line " ++ decimal line ++ codes ": no problem"
contest_fault_text (fault.NoImage line) = codes "line " ++ decimal line ++ codes ": no image"
contest_fault_text (fault.TooManySubmissions count) = codes "too many submissions " ++ decimal count
contest_fault_text (fault.TooMuch total) = codes "too much " ++ decimal total
contest_fault_text (fault.TooLarge name len) = codes "too large " ++ printed name
contest_fault_text fault.Tree = []
contest_fault_text fault.NoMemory = []
