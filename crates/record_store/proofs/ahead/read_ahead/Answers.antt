use Rattle.std.proofs.Common.{length, arith}
use Rattle.record_store.proofs.ahead.read_ahead.Goals as goal

pub copy_out-requires-2-clause-room : goal.copy_out-requires-2-clause-room
copy_out-requires-2-clause-room g c =
    let size = c.in_ok-fill.ensures.size (length c.args.room.now) c.requires.few c.requires.within in
    let from = c.in_ok-fill.ensures.from in
    omega (arith, size, from)
