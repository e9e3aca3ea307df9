use Rattle.std.proofs.Common.{rules}
use Rattle.http_door.proofs.reader.HttpReader.new.Goals as goal

pub returns : goal.returns
returns c = search rules
