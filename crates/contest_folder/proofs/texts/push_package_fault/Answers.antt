use Rattle.std.proofs.Common.{arith}
use Rattle.std.proofs.lemmas.Grind.{common_steps}
use Rattle.contest_folder.proofs.texts.push_package_fault.Goals as goal

pub returns-in-Ini : goal.returns-in-Ini
returns-in-Ini c = rw c.in-Ini.is c.push_counted-in-Ini.ensures

pub returns-in-TooManyTests : goal.returns-in-TooManyTests
returns-in-TooManyTests c = rw c.in-TooManyTests.is c.push_counted-in-TooManyTests.ensures

pub returns-in-SourceValidator : goal.returns-in-SourceValidator
returns-in-SourceValidator c = rw c.in-SourceValidator.is (rw c.as_slice-in-SourceValidator.ensures at c.push_named-in-SourceValidator.ensures)

pub returns-in-BadValidator : goal.returns-in-BadValidator
returns-in-BadValidator c = rw c.in-BadValidator.is (rw c.as_slice-in-BadValidator.ensures at c.push_named-in-BadValidator.ensures)

pub returns-in-NoYaml : goal.returns-in-NoYaml
returns-in-NoYaml c = grind (arith, common_steps)
