use Rattle.definition_laws.proofs.PackageTests.{inputs, in_order_of_names, input_bytes, answer_bytes}
use Rattle.definition_laws.proofs.packages.each_input_is_one_test.Goals as goal

pub returns-clause-inputs : goal.returns-clause-inputs
returns-clause-inputs c = inputs

pub returns-clause-in_order : goal.returns-clause-in_order
returns-clause-in_order c = in_order_of_names

pub returns-clause-input : goal.returns-clause-input
returns-clause-input c = input_bytes

pub returns-clause-answer : goal.returns-clause-answer
returns-clause-answer c = answer_bytes
