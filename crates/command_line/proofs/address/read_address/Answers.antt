use Rattle.std.proofs.Common.{◌∙◌}
use Rattle.command_line.proofs.AddressLemmas.{address_parsed}
use Rattle.command_line.proofs.address.read_address.Goals as goal

pub returns : goal.returns
returns c = c.ok.ensures.value ∙ address_parsed c.args.text.now _ c.parse.ensures.value
