use Rattle.std.proofs.Common.{ap, ◌∙◌}
use Rattle.contest_server.specs.Lanes.{start_of}
use Rattle.contest_server.proofs.Settling.{map_set_same}
use Rattle.contest_server.proofs.lanes.settle_at.Goals as goal

pub returns-then-index-len-clause-starts : goal.returns-then-index-len-clause-starts
returns-then-index-len-clause-starts g c =
    map_set_same start_of c.args.lanes.now.items c.args.index c.settle.new.lane c.index_mut.result.now (c.settle.ensures.start ∙ ap start_of c.index_mut.ensures.value)
