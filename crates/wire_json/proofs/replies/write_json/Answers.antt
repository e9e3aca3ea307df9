use Rattle.std.proofs.Common.{arith}
use Rattle.wire_json.proofs.Plain.{reply_is_whole, reply_is_shallow}
use Rattle.wire_json.proofs.replies.write_json.Goals as goal

pub returns-clause-text : goal.returns-clause-text
returns-clause-text c = grind (arith, reply_is_whole, reply_is_shallow)

pub returns-clause-reads_back : goal.returns-clause-reads_back
returns-clause-reads_back c = grind (arith, reply_is_whole, reply_is_shallow)
