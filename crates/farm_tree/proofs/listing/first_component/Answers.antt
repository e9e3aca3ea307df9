use Rattle.farm_tree.proofs.Components.{first_name, only_name}
use Rattle.farm_tree.proofs.listing.first_component.Goals as goal

pub returns-in-Some-clause-name : goal.returns-in-Some-clause-name
returns-in-Some-clause-name c = (first_name c.args.rest.now c.in-Some.end c.in-Some.ensures).0

pub returns-in-Some-clause-folder : goal.returns-in-Some-clause-folder
returns-in-Some-clause-folder c = (first_name c.args.rest.now c.in-Some.end c.in-Some.ensures).1

pub returns-in-None-clause-name : goal.returns-in-None-clause-name
returns-in-None-clause-name c = (only_name c.args.rest.now c.in-None.ensures).0

pub returns-in-None-clause-folder : goal.returns-in-None-clause-folder
returns-in-None-clause-folder c = (only_name c.args.rest.now c.in-None.ensures).1
